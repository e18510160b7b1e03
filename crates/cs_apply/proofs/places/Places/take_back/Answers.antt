use Rattle.std.proofs.Common.{sym, ap, ◌∙◌}
use Rattle.cs_apply.specs.Steps.{undone}
use Rattle.cs_apply.proofs.stored.Log.{undone-push}
use Rattle.cs_apply.proofs.places.Places.take_back.Goals as goal

pub loop-step-preserved : goal.loop-step-preserved
loop-step-preserved c =
    let es = c.loop-step.self.rows.entries in
    (λ i. undone (c.step_back.ensures.log i) (c.step_back.ensures.rows i))
    ∙ sym (undone-push c.pop.new.self.items c.in-Some.step es)
    ∙ ap (λ log. undone log es) (sym c.in-Some.ensures.items) ∙ c.loop-step.invariant
