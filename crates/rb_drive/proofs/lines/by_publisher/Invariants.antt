use Rattle.std.proofs.Common.{◌≡◌, ◌<◌, ◌++◌, List, map}
use Rattle.std.specs.List.{AllByRecursion}
use Rattle.std.specs.Vec.Iter.{into_iter_items}
use Rattle.rb_drive.specs.declared.input.Given.{Given}
use Rattle.rb_drive.specs.Published.{AreByPublisher}
use Rattle.rb_drive.proofs.lines.by_publisher.Given as goal

-- the lines so far are given to their publishers
abbrev pub invariant-loop-given : goal.invariant-loop-given
invariant-loop-given l = record {
  few : AllByRecursion (λ given. given.publisher < 64) (into_iter_items l.given-iterator);
  so_far : (front : List Given) × (front ++ into_iter_items l.given-iterator ≡ l.fn.givens.items)
      × AreByPublisher front (map (λ v. v.items) l.lines.items);
}
