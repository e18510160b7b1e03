-- What the errors of `apply` and of one change report.
use Rattle.std.specs.Prelude.{◌≡◌, ℕ, Result, Err}
use Rattle.cs_apply.specs.declared.conflict.ConflictKind.{ConflictKind}
use Rattle.cs_apply.specs.declared.conflict.Conflict.{Conflict}
use Rattle.cs_apply.specs.declared.conflict.ApplyError.{ApplyError}
use Rattle.cs_apply.specs.declared.conflict.ApplyError.TheVariants as apply
use Rattle.cs_apply.specs.declared.change_error.ChangeError.{ChangeError}
use Rattle.cs_apply.specs.declared.change_error.ChangeError.TheVariants as change

-- an error of `apply` reports the first conflict, or that memory ran out
abbrev pub ReportsConflict : {A : Type 0} → ApplyError → Result A Conflict → Type 0
ReportsConflict (apply.Conflict conflict) answer = answer ≡ Err conflict
ReportsConflict apply.Memory answer = Unit {0}

-- an error of one change reports the kind of its conflict, or that memory ran out
abbrev pub ReportsKind : {A : Type 0} → ChangeError → Result A ConflictKind → Type 0
ReportsKind (change.Conflict kind) answer = answer ≡ Err kind
ReportsKind change.Memory answer = Unit {0}

-- the error of `apply` for the change at this position
abbrev pub conflict_at : ℕ → ChangeError → ApplyError
conflict_at position (change.Conflict kind) =
    apply.Conflict (record { position = position; kind = kind })
conflict_at position change.Memory = apply.Memory
