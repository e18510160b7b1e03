use Rattle.std.proofs.Common.{◌≡◌, ◌++◌, map}
use Rattle.std.specs.Vec.Iter.{into_iter_items}
use Rattle.rb_drive.specs.Owners.{publisher_lines}
use Rattle.rb_drive.proofs.owners.join_publishers.Given as goal

-- what came back, and what the threads that are left promise
abbrev pub invariant-loop-handle : goal.invariant-loop-handle
invariant-loop-handle g l =
    map (λ one. publisher_lines one.publisher one.lines.items) l.back.items
    ++ map (λ h. publisher_lines h.promise.0.value.publisher h.promise.0.value.lines.items)
    (into_iter_items l.handle-iterator)
    ≡ map (λ h. publisher_lines h.promise.0.value.publisher h.promise.0.value.lines.items) l.fn.handles.items
