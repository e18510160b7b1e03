use Rattle.std.proofs.Common.{◌≡◌, [], sym, ◌∙◌}
use Rattle.std.proofs.lemmas.List.{nil_from_length}
use Rattle.std.specs.Vec.Iter.{into_iter_items}
use Rattle.rb_drive.specs.Owners.{beginning_of}
use Rattle.rb_drive.proofs.inputs.ListLaws.{all_moved, moved_on}
use Rattle.rb_drive.proofs.outcomes.ConflictLaws.{more_shown}
use Rattle.rb_drive.proofs.closing.all_closed.Goals as goal

pub loop-one-preserved : goal.loop-one-preserved
loop-one-preserved g c = record {
  begun = rw c.in_ok-push.ensures.items (moved_on (λ one. beginning_of one.subscription)
      (λ one. beginning_of one.subscription) c.loop-one.all.items _ c.in-Some.one (into_iter_items c.next.new.self) _
      c.in_ok-closed.ensures.begun (rw c.in-Some.ensures.steps.0 at c.loop-one.invariant.begun));
  shown = rw c.in_ok-push.ensures.items (more_shown g.L.StepLedger.cells c.loop-one.all.items _
      c.loop-one.invariant.shown c.in_ok-closed.ensures.shown);
}

pub returns-clause-begun : goal.returns-clause-begun
returns-clause-begun g c =
    let none : into_iter_items c.loop-one.one-iterator ≡ [] =
    nil_from_length _ (sym c.loop-one.one-iterator.rest.ok.0 ∙ (c.in-None.ensures).steps.0) in
    all_moved (λ one. beginning_of one.subscription) (λ one. beginning_of one.subscription) c.loop-one.all.items _ _ none
    c.loop-one.invariant.begun
