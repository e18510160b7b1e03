use Rattle.std.proofs.Common.{take}
use Rattle.rb_script.specs.Feeding.{AreFed}
use Rattle.rb_script.specs.Output.{place_at}
use Rattle.rb_script.proofs.script.feed.Given as goal

abbrev pub invariant-loop-byte : goal.invariant-loop-byte
invariant-loop-byte g l =
    AreFed l.how l.config l.fn.place.number (place_at l.fn.place.stage l.fn.place.line.items)
    (take l.byte-index l.bytes)
    (g.W.Write.contents l.fn.writer) (g.W.Write.contents l.writer) l.place.number
    (place_at l.place.stage l.place.line.items)
