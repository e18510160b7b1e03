use Rattle.std.proofs.Common.{◌≡◌}
use Rattle.std.specs.Slice.Iter.{chunks_rest, chunks_size}
use Rattle.cs_write.specs.Text.{text_of}
use Rattle.cs_write.proofs.texts.Cutting.{CuttingProgress}
use Rattle.cs_write.proofs.pieces.write_pieces.Given as goal

abbrev pub invariant-loop-piece : goal.invariant-loop-piece
invariant-loop-piece g l = record {
  size : chunks_size l.piece-iterator ≡ l.max;
  so_far : CuttingProgress l.max (text_of l.changeset) (chunks_rest l.piece-iterator) (g.S.Sink.taken l.initial.sink)
      (g.S.Sink.taken l.sink) (g.S.Sink.failed l.initial.sink) (g.S.Sink.failed l.sink);
}
