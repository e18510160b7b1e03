use Rattle.std.proofs.Common.{◌≡◌, [], sym, ◌∙◌}
use Rattle.std.proofs.lemmas.List.{nil_from_length}
use Rattle.std.specs.Vec.Iter.{into_iter_items}
use Rattle.rb_drive.specs.Owners.{beginning_of}
use Rattle.rb_drive.proofs.inputs.ListLaws.{all_moved}
use Rattle.rb_drive.proofs.owners.join_subscribers.Goals as goal

pub returns : goal.returns
returns g c =
    let none : into_iter_items c.loop-handle.handle-iterator ≡ [] =
    nil_from_length _ (sym c.loop-handle.handle-iterator.rest.ok.0 ∙ (c.in-None.ensures).steps.0) in
    all_moved (λ one. beginning_of one.subscription) (λ h. beginning_of h.promise.0.value.subscription)
    c.loop-handle.back.items _ _ none c.loop-handle.invariant
