use Rattle.rb_deliveries.specs.Taken.{held_in}
use Rattle.rb_deliveries.proofs.lists.OpenLaws.{IsOpening}
use Rattle.rb_deliveries.proofs.opening.open.Given as goal

abbrev pub invariant-loop-n : goal.invariant-loop-n
invariant-loop-n l = IsOpening l.first l.last l.latest (held_in l.fn.records) l.records l.rest l.n l.at
