use Rattle.std.proofs.Common.{◌≡◌, ◌+◌, ◌<◌, length, drop}
use Rattle.rb_deliveries.proofs.orders.TreeLaws.{NodesWinBut}
use Rattle.rb_deliveries.proofs.tournament.put.Given as goal

-- the places are as they were at the loop's start, and only node i may not be the winner of the two below it
abbrev pub invariant-loop-i : goal.invariant-loop-i
invariant-loop-i l = record {
  long : length l.nodes.items ≡ l.room + l.room;
  above : l.i < l.room;
  places : drop l.room l.nodes.items ≡ drop l.room l.initial.nodes.items;
  but : NodesWinBut l.nodes.items l.room l.i;
}

abbrev pub decreases-loop-i : goal.decreases-loop-i
decreases-loop-i l = l.i
