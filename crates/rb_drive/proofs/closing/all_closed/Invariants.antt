use Rattle.std.proofs.Common.{◌≡◌, ◌++◌, map}
use Rattle.std.specs.List.{AllByRecursion}
use Rattle.std.specs.Vec.Iter.{into_iter_items}
use Rattle.rb_drive.specs.Ending.{HasShownConflict}
use Rattle.rb_drive.specs.Owners.{beginning_of}
use Rattle.rb_drive.proofs.closing.all_closed.Given as goal

-- those whose replicas are closed, and those that are left
abbrev pub invariant-loop-one : goal.invariant-loop-one
invariant-loop-one g l = record {
  begun : map (λ one. beginning_of one.subscription) l.all.items
      ++ map (λ one. beginning_of one.subscription) (into_iter_items l.one-iterator)
      ≡ map (λ one. beginning_of one.subscription) l.fn.accepting.items;
  shown : AllByRecursion (λ one. HasShownConflict g.L.StepLedger.cells one.subscription one.ending) l.all.items;
}
