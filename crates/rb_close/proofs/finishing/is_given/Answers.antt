use Rattle.std.proofs.Common.{ap, ◌∙◌, sym, refl}
use Rattle.rb_broker.specs.Publishers.{PublisherView}
use Rattle.rb_close.proofs.FinishLaws.{present_at}
use Rattle.rb_close.proofs.finishing.is_given.Goals as goal

-- this one has the number
pub returns-then-number : goal.returns-then-number
returns-then-number g c = (
  λ _. present_at c.args.number c.args.publishers.now c.loop-publisher.publisher-index c.publisher-item.result
      c.loop-publisher-test.true (sym (ap (λ (p : PublisherView). p.number) c.publisher-item.is)
      ∙ (sym c.number.ensures ∙ c.if-number.true)),
  λ _. refl,
)
