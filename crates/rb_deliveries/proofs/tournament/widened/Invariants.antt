use Rattle.std.proofs.Common.{◌≡◌, ◌+◌, ◌-◌, ◌++◌, length, take, drop, replicate, None}
use Rattle.rb_deliveries.specs.Tournament.{NodesWin}
use Rattle.rb_deliveries.proofs.tournament.widened.Given as goal

-- the places seen are set, and the others are empty
abbrev pub invariant-loop-place : goal.invariant-loop-place
invariant-loop-place l = record {
  long : length l.wider.items ≡ l.wide + l.wide;
  places : drop l.wide l.wider.items ≡ take l.place (drop l.room l.nodes) ++ replicate (l.wide - l.place) None;
  inner : NodesWin l.wider.items l.wide;
}
