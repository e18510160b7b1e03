use Rattle.std.proofs.Common.{length, inl, inr, sym, ◌∙◌, arith}
use Rattle.std.proofs.lemmas.Result.{err_from_is_err_and}
use Rattle.cs_parse.specs.Reading.{is_empty, section_at, many_at, sections_at}
use Rattle.cs_parse.specs.Count.{counted, changes_in}
use Rattle.cs_parse.proofs.counting.Skims.{count_goes_on, count_ends, count_is_done, counted_refused, size, sizes}
use Rattle.cs_parse.proofs.counting.Counts.{counted_fits}
use Rattle.cs_parse.proofs.section.sections_counted.Goals.{else-loop-test, then-loop-test+then-is_empty}
use Rattle.cs_parse.proofs.section.sections_counted.Goals as goal

pub returns-in_err-changes : goal.returns-in_err-changes
unfolding sections_at
returns-in_err-changes c =
    let n = length c.args.bytes.now in
    let e = c.in_err-changes.field-0.0 in
    let p = err_from_is_err_and c.from_residual.result c.from_residual.ensures.1 in
    rw (p.1, p.2) (count_ends is_empty section_at changes_in c.loop.count n c.loop.counter c.loop.rest.now e
    (counted changes_in (many_at is_empty section_at n c.args.bytes.now)) c.loop-test.true
    (sym c.is_empty.ensures ∙ c.if-is_empty.false)
    (counted_refused size (section_at c.loop.rest.now) e c.in_err-changes.ensures) c.loop.invariant.reads)

pub overflow_add-count : goal.overflow_add-count
overflow_add-count c =
    let fit = counted_fits c.loop.rest.now c.in_ok-changes.changes c.in_ok-changes.after.now c.loop.invariant.fits
    c.in_ok-changes.ensures in
    omega (arith, fit.1, c.loop.invariant.few, c.loop.auto.counter-end)

pub loop-preserved : goal.loop-preserved
loop-preserved c =
    let n = length c.args.bytes.now in
    let k = c.in_ok-changes.changes in
    let after = c.in_ok-changes.after.now in
    let fit = counted_fits c.loop.rest.now k after c.loop.invariant.fits c.in_ok-changes.ensures in
    record {
      fits = fit.0;
      few = omega (arith, fit.1, c.loop.invariant.few);
      reads = count_goes_on is_empty section_at changes_in size sizes c.loop.count n c.loop.counter c.loop.rest.now k
          after (counted changes_in (many_at is_empty section_at n c.args.bytes.now)) c.loop-test.true
          (sym c.is_empty.ensures ∙ c.if-is_empty.false) c.in_ok-changes.ensures c.loop.invariant.reads;
    }

pub returns : goal.returns
unfolding sections_at
returns c =
    let n = length c.args.bytes.now in
    count_is_done is_empty section_at changes_in size sizes c.loop.count n c.loop.counter c.loop.rest.now
    (counted changes_in (many_at is_empty section_at n c.args.bytes.now)) (elim c.loop-test.branch [
      | else-loop-test w ↦ inr (omega (arith, w.loop-test.false))
      | then-loop-test+then-is_empty w ↦ inl (sym w.is_empty.ensures ∙ w.if-is_empty.true)
    ]) c.loop.invariant.reads
