use Rattle.std.proofs.Common.{◌≡◌, length, sym, ◌∙◌, arith}
use Rattle.std.proofs.lemmas.Bool.{eqb-true}
use Rattle.cs_parse.proofs.feeding.SectionFronts.{along_ends}
use Rattle.cs_parse.proofs.section.more_sections.Goals.{else-loop-test, then-loop-test+then-is_empty}
use Rattle.cs_parse.proofs.section.more_sections.Goals as goal

pub returns : goal.returns
returns c =
    let empty : length c.loop.rest.now ≡ 0 = elim c.loop-test.branch [
      | else-loop-test w ↦ omega (arith, w.loop-test.false, c.loop.invariant.few)
      | then-loop-test+then-is_empty w ↦ eqb-true (length c.loop.rest.now) 0
          (sym w.is_empty.ensures ∙ w.if-is_empty.true)
    ] in
    along_ends _ c.loop.rest.now _ empty
    c.loop.invariant.along.read
