use Rattle.std.proofs.Common.{◌≡◌, [], take, drop}
use Rattle.cs_model.specs.Schema.{tables_refusal}
use Rattle.cs_model.proofs.schema.first_refusal.Given as goal

-- what is refused behind the tables so far is what is refused of all
abbrev pub invariant-loop-i : goal.invariant-loop-i
invariant-loop-i l = tables_refusal (take l.i l.tables) (drop l.i l.tables) ≡ tables_refusal [] l.tables
