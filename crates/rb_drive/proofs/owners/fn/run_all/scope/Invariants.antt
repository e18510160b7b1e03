use Rattle.std.proofs.Common.{◌≡◌, ◌++◌, map}
use Rattle.std.specs.Vec.Iter.{into_iter_items}
use Rattle.rb_drive.specs.Owners.{beginning_of, publisher_lines}
use Rattle.rb_drive.proofs.owners.fn.run_all.scope.Given as goal

-- the threads that were started promise the lines of their publishers, in order
abbrev pub invariant-loop-sender : goal.invariant-loop-sender
invariant-loop-sender g l =
    map (λ h. publisher_lines h.promise.0.value.publisher h.promise.0.value.lines.items) l.publishers.items
    ++ map (λ one. publisher_lines one.publisher one.lines.items) (into_iter_items l.sender-iterator)
    ≡ map (λ one. publisher_lines one.publisher one.lines.items) (into_iter_items l.initial.sender-iterator)

-- and those of the subscribers where they begin
abbrev pub invariant-loop-reader : goal.invariant-loop-reader
invariant-loop-reader g l =
    map (λ h. beginning_of h.promise.0.value.subscription) l.subscribers.items
    ++ map (λ one. beginning_of one.subscription) (into_iter_items l.reader-iterator)
    ≡ map (λ one. beginning_of one.subscription) (into_iter_items l.initial.reader-iterator)
