use Rattle.std.proofs.Common.{ap, sym, inl, refl, ◌∙◌}
use Rattle.rb_drive.proofs.outcomes.StatusLaws.{conflict_among}
use Rattle.rb_drive.proofs.run.status.Goals as goal

-- this one ended by a conflict
pub returns-in-Conflict : goal.returns-in-Conflict
returns-in-Conflict g c = inl (
  refl,
  conflict_among (λ a. a.ending) c.args.accepting.now c.loop-one.one-index
      c.one-item.result c.in-Conflict.field-0 c.in-Conflict.field-1 c.loop-one-test.true
      (sym (ap (λ a. a.ending) c.one-item.is) ∙ c.in-Conflict.is),
)
