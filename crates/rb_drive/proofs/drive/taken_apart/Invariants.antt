use Rattle.std.proofs.Common.{◌≡◌, ◌+◌, ◌++◌, map}
use Rattle.std.specs.List.{flat_map}
use Rattle.std.specs.Vec.Iter.{into_iter_items}
use Rattle.rb_drive.specs.Published.{unsent_lines}
use Rattle.rb_drive.proofs.drive.taken_apart.Given as goal

-- what is taken, and what those that are left have
abbrev pub invariant-loop-one : goal.invariant-loop-one
invariant-loop-one g l = record {
  publishers : l.publishers.items ++ map (λ one. one.publisher) (into_iter_items l.one-iterator)
      ≡ map (λ one. one.publisher) l.fn.publishing.items;
  unsent : l.unsent + unsent_lines (map (λ one. one.lines.items) (into_iter_items l.one-iterator))
      (map (λ one. one.done) (into_iter_items l.one-iterator))
      ≡ unsent_lines (map (λ one. one.lines.items) l.fn.publishing.items)
      (map (λ one. one.done) l.fn.publishing.items);
  faulty : l.faulty.items ++ flat_map (λ one. one.faulty.items) (into_iter_items l.one-iterator)
      ≡ flat_map (λ one. one.faulty.items) l.fn.publishing.items;
}
