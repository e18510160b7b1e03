-- The numbers of the kinds of conflict, as in SQLite.
use Rattle.std.specs.Prelude.{ℕ}
use Rattle.cs_apply.specs.declared.conflict.ConflictKind.{ConflictKind}
use Rattle.cs_apply.specs.declared.conflict.ConflictKind.TheVariants.{Data, NotFound, Conflict}

-- SQLite's number of a conflict: DATA 1, NOTFOUND 2, CONFLICT 3
abbrev pub code_of : ConflictKind → ℕ
code_of Data = 1
code_of NotFound = 2
code_of Conflict = 3
