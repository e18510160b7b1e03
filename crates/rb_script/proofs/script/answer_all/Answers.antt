use Rattle.std.proofs.Common.{◌-◌, arith, ◌∙◌}
use Rattle.std.proofs.lemmas.Result.{err_from_is_err_and}
use Rattle.rb_script.proofs.endings.EndLaws.{end_begins, goes_on_by, goes_on_flushed, ends_by_answers, cut_between}
use Rattle.rb_script.proofs.endings.EndLaws.{number_small, stop_within, stop_at_limit, stop_at_end, read_in_part}
use Rattle.rb_script.proofs.endings.EndLaws.{all_answered, overruns, length-front}
use Rattle.rb_script.proofs.script.answer_all.Goals as goal

pub loop-init : goal.loop-init
loop-init g c = record {
  as_far = omega arith;
  within = omega arith;
  room = c.as_mut_slice-piece.ensures.len ∙ c.in_ok-buffer.ensures;
  so_far = rw (c.first_place-place.ensures.place, c.first_place-place.ensures.number)
      (end_begins c.args.how c.args.config _ _);
}

pub returns-in_err-flush_answers : goal.returns-in_err-flush_answers
returns-in_err-flush_answers g c =
    let p = err_from_is_err_and c.from_residual-in_err-flush_answers.result
    c.from_residual-in_err-flush_answers.ensures.1 in
    let so_far = goes_on_flushed c.loop.invariant.so_far c.in_err-flush_answers.ensures.kept in
    rw (p.1, p.2) (ends_by_answers c.args.how c.args.config c.in_err-flush_answers.field-0.0 _ _ _ _
    c.in_err-flush_answers.ensures.fault (cut_between so_far c.loop.invariant.within))

pub returns-in-Err : goal.returns-in-Err
returns-in-Err g c =
    read_in_part _ (goes_on_flushed c.loop.invariant.so_far c.in_ok-flush_answers.ensures.kept) c.loop.invariant.within
    c.in-Err.ensures.err

pub answer_line-requires : goal.answer_line-requires
answer_line-requires g c = omega (arith, number_small c.loop.invariant.so_far, c.loop.invariant.within)

pub returns-in_err-answer_line : goal.returns-in_err-answer_line
returns-in_err-answer_line g c =
    let p = err_from_is_err_and c.from_residual-in_err-answer_line.result c.from_residual-in_err-answer_line.ensures.1
    in
    let so_far = goes_on_flushed c.loop.invariant.so_far c.in_ok-flush_answers.ensures.kept in
    rw (p.1, p.2) (stop_at_end _ _ c.in_err-answer_line.field-0.0 so_far
    (rw c.if-read-eq0.true at c.in-Ok.ensures.bytes) (c.in-Ok.ensures.end c.if-read-eq0.true) c.loop.invariant.within
    c.in_err-answer_line.ensures.err)

pub returns-then-read-eq0 : goal.returns-then-read-eq0
returns-then-read-eq0 g c =
    all_answered _ _ (goes_on_flushed c.loop.invariant.so_far c.in_ok-flush_answers.ensures.kept)
    (rw c.if-read-eq0.true at c.in-Ok.ensures.bytes) (c.in-Ok.ensures.end c.if-read-eq0.true) c.loop.invariant.within
    c.in_ok-answer_line.ensures.ok.0 c.in_ok-answer_line.ensures.ok.1

pub feed-requires : goal.feed-requires
feed-requires g c =
    let past = c.if-count-read.true in
    let front = length-front (16777216 - c.loop.count) c.read_some.new.buffer
    (omega (arith, past, c.in-Ok.ensures.bound)) in
    omega (arith, number_small c.loop.invariant.so_far, c.loop.invariant.within, front)

pub returns-in_err-feed : goal.returns-in_err-feed
returns-in_err-feed g c =
    let p = err_from_is_err_and c.from_residual-in_err-feed.result c.from_residual-in_err-feed.ensures.1 in
    let so_far = goes_on_flushed c.loop.invariant.so_far c.in_ok-flush_answers.ensures.kept in
    rw (p.1, p.2) (stop_at_limit _ _ c.in_err-feed.field-0.0 c.in-Ok.read c.read_some.new.buffer so_far
    c.in-Ok.ensures.bytes c.in-Ok.ensures.bound c.in_err-feed.ensures.err c.loop.invariant.within c.if-count-read.true)

pub returns-then-count-read : goal.returns-then-count-read
returns-then-count-read g c =
    overruns _ c.in-Ok.read c.read_some.new.buffer
    (goes_on_flushed c.loop.invariant.so_far c.in_ok-flush_answers.ensures.kept) c.in-Ok.ensures.bytes
    c.in-Ok.ensures.bound c.in_ok-feed.ensures.ok c.loop.invariant.within c.if-count-read.true

pub feed-requires-in-loop : goal.feed-requires-in-loop
feed-requires-in-loop g c =
    let fits = c.if-count-read.false in
    let front = length-front c.in-Ok.read c.read_some.new.buffer c.in-Ok.ensures.bound in
    omega (arith, number_small c.loop.invariant.so_far, fits, c.loop.invariant.within, front)

pub returns-in_err-place : goal.returns-in_err-place
returns-in_err-place g c =
    let p = err_from_is_err_and c.from_residual-in_err-place.result c.from_residual-in_err-place.ensures.1 in
    let so_far = goes_on_flushed c.loop.invariant.so_far c.in_ok-flush_answers.ensures.kept in
    rw (p.1, p.2) (stop_within _ _ c.in_err-place.field-0.0 c.in-Ok.read c.read_some.new.buffer so_far
    c.in-Ok.ensures.bytes c.in-Ok.ensures.bound c.in_err-place.ensures.err
    (omega (arith, c.if-count-read.false, c.loop.invariant.within)))

pub loop-preserved : goal.loop-preserved
loop-preserved g c =
    let some = c.if-read-eq0.false in
    let fits = c.if-count-read.false in
    record {
      as_far = omega (arith, some, c.loop.invariant.as_far);
      within = omega (arith, fits, c.loop.invariant.within);
      room = c.in-Ok.ensures.length ∙ c.loop.invariant.room;
      so_far = goes_on_by c.in-Ok.read c.read_some.new.buffer
          (goes_on_flushed c.loop.invariant.so_far c.in_ok-flush_answers.ensures.kept) c.in-Ok.ensures.bytes
          c.in-Ok.ensures.bound c.in_ok-place.ensures.ok;
    }
