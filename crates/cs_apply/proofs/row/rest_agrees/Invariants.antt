use Rattle.std.proofs.Common.{◌≡◌, drop}
use Rattle.cs_apply.specs.Effect.{rest_agrees}
use Rattle.cs_apply.specs.Steps.{fields_agree}
use Rattle.cs_apply.proofs.row.rest_agrees.Given as goal

-- the columns that are left decide
abbrev pub invariant-loop-flag : goal.invariant-loop-flag
invariant-loop-flag l = fields_agree (drop l.flag-index l.flags) l.fields l.values ≡ rest_agrees l.flags l.from l.row
