use Rattle.std.proofs.Common.{◌≡◌, IfOk, subst, ◌∙◌}
use Rattle.rb_sequence.specs.Cells.{Cells, IsReadyFor}
use Rattle.rb_sequence.proofs.sequence.Preparer.ready.Goals as goal

pub returns-clause-ok : goal.returns-clause-ok
returns-clause-ok c =
    let same : c.deref.result.now ≡ c.args.self.now = c.deref.ensures ∙ c.self.view_is in
    subst (λ (s : Cells). IfOk c.ready.result (λ ready. IsReadyFor s ready × (ready.entry ≡ c.args.entry))) same
    c.ready.ensures.ok
