use Rattle.std.proofs.Common.{◌≡◌, ◌≤◌, length}
use Rattle.rb_script.specs.Output.{place_at}
use Rattle.rb_script.proofs.endings.EndLaws.{EndProgress}
use Rattle.rb_script.proofs.script.answer_all.Given as goal

-- each turn has read a byte at least, and no more than the limit
abbrev pub invariant-loop : goal.invariant-loop
invariant-loop g l = record {
  as_far : l.counter ≤ l.count;
  within : l.count ≤ 16777216;
  room : length l.piece ≡ 65536;
  so_far : EndProgress l.how l.config (g.R.Read.remaining l.fn.reader) (g.R.Read.remaining l.reader)
      (g.W.Write.contents l.fn.writer) (g.W.Write.contents l.writer) l.place.number
      (place_at l.place.stage l.place.line.items) l.count;
}
