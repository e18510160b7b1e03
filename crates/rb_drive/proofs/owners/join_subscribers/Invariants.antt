use Rattle.std.proofs.Common.{◌≡◌, ◌++◌, map}
use Rattle.std.specs.Vec.Iter.{into_iter_items}
use Rattle.rb_drive.specs.Owners.{beginning_of}
use Rattle.rb_drive.proofs.owners.join_subscribers.Given as goal

-- what came back, and what the threads that are left promise
abbrev pub invariant-loop-handle : goal.invariant-loop-handle
invariant-loop-handle g l =
    map (λ one. beginning_of one.subscription) l.back.items
    ++ map (λ h. beginning_of h.promise.0.value.subscription) (into_iter_items l.handle-iterator)
    ≡ map (λ h. beginning_of h.promise.0.value.subscription) l.fn.handles.items
