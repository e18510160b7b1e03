use Rattle.std.proofs.Common.{◌∙◌, sym, subst}
use Rattle.rb_core.specs.Memory.{MayRunOut}
use Rattle.rb_core.specs.Outcome.{opened_for}
use Rattle.rb_core.specs.declared.event.Event.TheVariants as event
use Rattle.rb_core.proofs.whole_runs.RunCuts.{on_error}
use Rattle.rb_core.proofs.parts.Parts.nack_opened.Goals as goal

pub returns-clause-memory : goal.returns-clause-memory
returns-clause-memory c =
    on_error _ _ c.open.result
    (λ may. subst (λ found. MayRunOut c.args.self.now (event.NackOpened c.args.delivery) (opened_for c.args.self.now found).0)
    (sym c.in-Some.is ∙ c.known.ensures.value) (may c.args.delivery)) c.open.ensures.memory
