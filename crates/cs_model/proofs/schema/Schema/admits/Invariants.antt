use Rattle.cs_model.proofs.lists.Refusals.{HaveTables}
use Rattle.cs_model.proofs.schema.Schema.admits.Given as goal

abbrev pub invariant-loop-section : goal.invariant-loop-section
invariant-loop-section l = HaveTables l.fn.self l.place l.section-iterator l.changeset
