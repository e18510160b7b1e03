use Rattle.std.proofs.Common.{inl, inr, ap, refl, arith}
use Rattle.cs_model.proofs.spelling.VarintLemmas.{unfilled_all, unfilled_end}
use Rattle.cs_model.proofs.varint.varint_of.Goals.{then-whole, else-whole}
use Rattle.cs_model.proofs.varint.varint_of.Goals as goal

pub loop-start-init : goal.loop-start-init
loop-start-init c = record {
  nine = refl;
  within = omega arith;
  filled = unfilled_all c.args.value c.if-whole.rest.0 c.if-whole.rest.1 (elim c.if-whole.branch [
    | then-whole w ↦ inl (omega arith, ap (λ p. p.0) w.rest-is, ap (λ p. p.1) w.rest-is)
    | else-whole w ↦ inr (omega arith, ap (λ p. p.0) w.rest-is, ap (λ p. p.1) w.rest-is)
  ]);
}

pub returns-else-rest-gt0-clause-text : goal.returns-else-rest-gt0-clause-text
returns-else-rest-gt0-clause-text c =
    unfilled_end c.args.value c.loop-start.start c.loop-start.rest _ _
    (inr (c.if-rest-gt0.false.0, omega (arith, c.if-rest-gt0.false))) c.loop-start.invariant.filled

pub returns-after-loop-start-clause-text : goal.returns-after-loop-start-clause-text
returns-after-loop-start-clause-text c =
    unfilled_end c.args.value c.loop-start.start c.loop-start.rest _ _ (inl (omega arith)) c.loop-start.invariant.filled
