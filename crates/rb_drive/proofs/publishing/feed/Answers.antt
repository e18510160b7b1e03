use Rattle.std.proofs.Common.{rules}
use Rattle.std.proofs.lemmas.Result.{err_from_is_err_and}
use Rattle.rb_drive.proofs.inputs.StagingLaws.{feeding_stops, feeds_next}
use Rattle.rb_drive.proofs.publishing.feed.Goals as goal

-- one more piece is fed
pub loop-piece-preserved : goal.loop-piece-preserved
loop-piece-preserved g c = record {
  so_far = feeds_next c.progress_goes_on.ensures.goes c.args.text.now _ _ _ _ _ c.are_bytes.ensures
      c.loop-piece.invariant.so_far c.in-Some.ensures.steps.1.0 c.in_ok-feed.ensures.stream.1;
  same = search rules;
}

-- the fault of a piece is the text's
pub returns-in_err-feed-clause-err : goal.returns-in_err-feed-clause-err
returns-in_err-feed-clause-err g c =
    let p = err_from_is_err_and c.from_residual.result c.from_residual.ensures.1 in
    rw (p.1, p.2) (feeding_stops c.progress_goes_on.ensures.goes c.progress_tells.ensures.answer c.args.text.now _ _ _ _ _
    c.in_err-feed.field-0.0 c.are_bytes.ensures c.loop-piece.invariant.so_far c.in-Some.ensures.steps.1.0
    c.in_err-feed.ensures.stream)
