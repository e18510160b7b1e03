use Rattle.std.proofs.Common.{◌≤◌, length, take}
use Rattle.std.specs.Io.KnownBytes.{Appends}
use Rattle.rb_script.proofs.streams.write_whole.Given as goal

-- what is written so far, of which each turn adds at least a byte
abbrev pub invariant-loop : goal.invariant-loop
invariant-loop g l = record {
  in_range : l.at ≤ length l.bytes;
  as_far : l.counter ≤ l.at;
  so_far : Appends (g.W.Write.contents l.fn.writer) (g.W.Write.contents l.writer) (take l.at l.bytes);
}
