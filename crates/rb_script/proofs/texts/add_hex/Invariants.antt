use Rattle.std.proofs.Common.{◌≡◌, ◌++◌}
use Rattle.std.specs.Slice.Iter.{chunks_rest}
use Rattle.hex.specs.Hex.{encode_lower}
use Rattle.rb_script.proofs.texts.add_hex.Given as goal

-- the text so far, and the bytes that are left, make the whole
abbrev pub invariant-loop-piece : goal.invariant-loop-piece
invariant-loop-piece l = l.text.items ++ encode_lower (chunks_rest l.piece-iterator)
    ≡ l.initial.text.items ++ encode_lower l.bytes
