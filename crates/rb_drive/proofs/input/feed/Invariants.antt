use Rattle.std.proofs.Common.{ℕ, List, ◌++◌, take}
use Rattle.rb_drive.specs.Reading.{IsReadUpTo}
use Rattle.rb_drive.proofs.input.feed.Given as goal

abbrev pub invariant-loop-byte : goal.invariant-loop-byte
invariant-loop-byte l = (before : List ℕ) → IsReadUpTo before l.fn.reading
    → IsReadUpTo (before ++ take l.byte-index l.bytes) l.reading
