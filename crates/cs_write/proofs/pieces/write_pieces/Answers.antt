use Rattle.std.proofs.Common.{◌∙◌, ap, rules}
use Rattle.std.proofs.lemmas.List.{nil_from_length}
use Rattle.std.proofs.lemmas.Result.{err_from_is_err_and}
use Rattle.std.specs.Slice.Iter.{chunks_rest, chunks_size}
use Rattle.cs_write.proofs.texts.Cutting.{begins, cut_off, ends, cutting_goes_on, stops}
use Rattle.cs_write.proofs.pieces.write_pieces.Goals as goal

pub loop-piece-init : goal.loop-piece-init
loop-piece-init g c =
    let same = c.into_iter-piece-iterator.ensures.into_iter_gives in
    let chunks = c.chunks-piece-items.ensures in
    record {
      size = ap chunks_size same ∙ chunks.size;
      so_far = begins (ap chunks_rest same ∙ chunks.rest ∙ search rules);
    }

pub loop-piece-preserved : goal.loop-piece-preserved
loop-piece-preserved g c =
    let was = c.loop-piece.invariant in
    let steps = c.in-Some.ensures.steps in
    record {
      size = steps.0 ∙ was.size;
      so_far = cutting_goes_on c.requires was.so_far (cut_off was.size steps) (search rules) (search rules);
    }

pub returns : goal.returns
returns g c = ends c.loop-piece.invariant.so_far (nil_from_length _ c.in-None.ensures.steps.1.0)

pub returns-in_err-put : goal.returns-in_err-put
returns-in_err-put g c =
    let was = c.loop-piece.invariant in
    let error = err_from_is_err_and c.from_residual-in_err-put.result c.from_residual-in_err-put.ensures.1 in
    rw (error.1, error.2) (stops c.requires was.so_far (cut_off was.size c.in-Some.ensures.steps)
    c.in_err-put.ensures.none_taken c.in_err-put.ensures.failed)
