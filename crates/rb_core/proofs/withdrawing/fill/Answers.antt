use Rattle.std.proofs.Common.{◌<◌, ◌∷◌, [], Bool, false, List, length, ap, ◌∙◌, arith}
use Rattle.std.proofs.lemmas.List.{length-append}
use Rattle.rb_core.specs.State.{with_mark}
use Rattle.rb_core.proofs.invariants.Marks.{mark_push}
use Rattle.rb_core.proofs.withdrawing.fill.Goals as goal

pub loop-marks-preserved : goal.loop-marks-preserved
loop-marks-preserved c =
    let old = c.loop-marks.marks.items in
    let more : length old < c.args.place = omega (arith, c.loop-marks-test.true, c.len.ensures, c.loop-marks.marks.ok)
    in
    let items = c.push_reserved.ensures.items in (
      ap (with_mark c.args.place) items ∙ mark_push c.args.place old (omega (arith, more)) ∙ c.loop-marks.invariant.0,
      omega (arith, more, ap (λ (xs : List Bool). length xs) items, length-append old (false ∷ [])),
      c.push_reserved.ensures.capacity ∙ c.loop-marks.invariant.2,
    )
