use Rattle.std.proofs.Common.{◌≡◌}
use Rattle.std.specs.Slice.Iter.{chunks_rest}
use Rattle.rb_drive.proofs.inputs.StagingLaws.{IsFedUpTo}
use Rattle.rb_drive.proofs.publishing.feed.Given as goal

-- the pieces so far are fed
abbrev pub invariant-loop-piece : goal.invariant-loop-piece
invariant-loop-piece g l = record {
  so_far : IsFedUpTo l.text (chunks_rest l.piece-iterator) l.publisher.stream;
  same : l.publisher ≡ record l.fn.publisher { stream = l.publisher.stream };
}
