use Rattle.std.specs.Vec.Iter.{into_iter_items}
use Rattle.rb_close.proofs.FinishLaws.{JoinsSo}
use Rattle.rb_close.proofs.finishing.join_all.Given as goal

-- those that were joined, and those that are left
abbrev pub invariant-loop-publisher : goal.invariant-loop-publisher
invariant-loop-publisher g l =
    JoinsSo l.fn.publishers.items (into_iter_items l.publisher-iterator) l.fn.pass l.pass
