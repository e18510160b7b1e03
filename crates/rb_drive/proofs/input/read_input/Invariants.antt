use Rattle.std.proofs.Common.{◌≡◌, length}
use Rattle.rb_drive.proofs.inputs.EndLaws.{ReadingProgress}
use Rattle.rb_drive.proofs.input.read_input.Given as goal

-- each turn has read a byte at least
abbrev pub invariant-loop : goal.invariant-loop
invariant-loop g l = record {
  room : length l.piece ≡ 65536;
  so_far : ReadingProgress (g.R.Read.remaining l.fn.reader) (g.R.Read.remaining l.reader) l.reading l.counter;
}
