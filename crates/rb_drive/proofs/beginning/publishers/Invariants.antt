use Rattle.std.proofs.Common.{◌≡◌, ◌++◌, map}
use Rattle.std.specs.Arc.{arc_value}
use Rattle.std.specs.Vec.Iter.{into_iter_items}
use Rattle.rb_drive.specs.Owners.{numbered_lines, publisher_lines}
use Rattle.rb_drive.proofs.beginning.publishers.Given as goal

-- the publishers that are made, and the lines for those that come
abbrev pub invariant-loop-own : goal.invariant-loop-own
invariant-loop-own g l =
    map (λ one. publisher_lines one.publisher one.lines.items) l.all.items
    ++ numbered_lines l.maker (arc_value l.broker.schema) (map (λ v. v.items) (into_iter_items l.own-iterator))
    ≡ numbered_lines 0 (arc_value l.broker.schema) (map (λ v. v.items) l.fn.lines.items)
