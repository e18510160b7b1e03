use Rattle.std.proofs.Common.{◌≡◌, ◌++◌, length}
use Rattle.std.specs.Slice.Iter.{chunks_rest, chunks_size}
use Rattle.rb_cases.specs.Pieces.{pieces_text}
use Rattle.rb_cases.proofs.pieces.add_pieces.Given as goal

-- what is made so far, and the rest cut, is the whole cut
abbrev pub invariant-loop-piece : goal.invariant-loop-piece
invariant-loop-piece l = record {
  size : chunks_size l.piece-iterator ≡ l.size;
  so_far : l.all.items ++ pieces_text (length (chunks_rest l.piece-iterator)) l.size l.front
      (chunks_rest l.piece-iterator)
      ≡ l.initial.all.items ++ pieces_text (length l.digits) l.size l.front l.digits;
}
