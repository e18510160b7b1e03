use Rattle.std.proofs.Common.{◌≡◌, ◌∙◌, ◌++◌, ◌+◌, false, take, length, sym, ap, arith, length-drop}
use Rattle.std.specs.Prelude.{option_map}
use Rattle.cs_group.specs.Adding.{sections_in}
use Rattle.cs_group.specs.Group.{clashes, first_clash}
use Rattle.cs_group.proofs.schemas.Knowing.{clash_next, clashes_with_none, next_is}
use Rattle.cs_group.proofs.clash.first_clash_in.Goals as goal

pub loop-section-preserved : goal.loop-section-preserved
loop-section-preserved c =
    let i = c.loop-section.index in
    let all = c.args.sections.now in
    let between = sections_in c.args.earlier.now in
    let earlier = c.args.added.now ++ between in
    let section = c.in-Some.section in
    let rest = c.next.new.self in
    let so_far = c.loop-section.invariant in
    let step = next_is all i section rest (sym c.in-Some.ensures.steps ∙ so_far.rest) in
    let fits : clashes (earlier ++ take i all) section ≡ false =
    clashes_with_none c.args.added.now between (take i all) section c.if-clashes_with.ensures
    c.if-clashes_with_any.ensures c.if-clashes_with_first.ensures in
    record {
      rest = step.1;
      left = clash_next earlier (take i all) section rest i (first_clash earlier all) fits
          (so_far.left
          ∙ ap (λ ss. option_map (λ n. i + n) (first_clash (earlier ++ take i all) ss)) c.in-Some.ensures.steps)
          ∙ ap (λ ss. option_map (λ n. (i + 1) + n) (first_clash (earlier ++ ss) rest)) (sym step.0);
    }

pub overflow_add-index : goal.overflow_add-index
overflow_add-index c = omega (
  arith,
  ap length (sym c.in-Some.ensures.steps ∙ c.loop-section.invariant.rest),
  length-drop c.loop-section.index c.args.sections.now,
  c.len-len.ensures,
)
