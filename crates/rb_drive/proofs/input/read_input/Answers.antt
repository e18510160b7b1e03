use Rattle.std.proofs.Common.{arith, ◌∙◌}
use Rattle.std.proofs.lemmas.Result.{err_from_is_err_and}
use Rattle.rb_drive.proofs.inputs.EndLaws.{read_ends_by_reader, ends_in_piece, input_is_ended, input_goes_on, input_stops}
use Rattle.rb_drive.proofs.input.read_input.Goals as goal

pub returns-in-Err : goal.returns-in-Err
returns-in-Err g c =
    read_ends_by_reader c.in-Err.why _ _ _ c.loop.reading c.loop.counter c.loop.invariant.so_far c.in-Err.ensures.err

pub returns-then-read-eq0 : goal.returns-then-read-eq0
returns-then-read-eq0 g c =
    input_is_ended c.finish.result _ _ _ c.loop.reading c.loop.counter c.loop.invariant.so_far
    (rw c.if-read-eq0.true at c.in-Ok.ensures.bytes) (c.in-Ok.ensures.end c.if-read-eq0.true)
    c.finish.ensures

pub returns-in_err-feed : goal.returns-in_err-feed
returns-in_err-feed g c =
    let p = err_from_is_err_and c.from_residual-in_err-feed.result c.from_residual-in_err-feed.ensures.1 in
    rw (p.1, p.2) (ends_in_piece c.in_err-feed.field-0.0 _ _ _ c.loop.reading c.loop.counter _
    c.loop.invariant.so_far c.in-Ok.ensures.bytes c.in_err-feed.ensures)

pub loop-preserved : goal.loop-preserved
loop-preserved g c = record {
  room = c.in-Ok.ensures.length ∙ c.loop.invariant.room;
  so_far = input_goes_on _ _ _ c.loop.reading _ c.loop.counter c.in-Ok.n c.read_some.new.buffer
      c.loop.invariant.so_far c.in-Ok.ensures.bytes (omega (arith, c.if-read-eq0.false))
      c.in-Ok.ensures.bound c.in_ok-feed.ensures;
}

pub unreachable-requires : goal.unreachable-requires
unreachable-requires g c =
    input_stops _ _ c.loop.reading c.loop.counter c.loop.invariant.so_far (omega (arith, c.loop-test.false))
