use Rattle.std.proofs.Common.{◌∙◌, ap, sym, suc, length}
use Rattle.rb_intake.specs.Passes.{PublisherKnows}
use Rattle.rb_intake.proofs.RuleLaws.{push_keeps}
use Rattle.rb_intake.proofs.intake.Intake.push.Goals as goal

-- an item is sent
pub push_as-requires-clause-rule : goal.push_as-requires-clause-rule
push_as-requires-clause-rule g c = (
  push_keeps _ _ _ _ _ _ c.pass.invariant.1
      (c.requires.publisher ∙ ap (λ (p : PublisherKnows). p.publisher) (sym c.pass.view_is))
      (c.requires.own ∙ ap (λ (p : PublisherKnows). suc (length p.sent)) (sym c.pass.view_is)),
  λ _ _ _ _. tt,
)
