use Rattle.std.proofs.Common.{◌≡◌, ◌≤◌, ◌-◌, ◌+◌, suc, ◌∷◌, [], length, sym, ap, ◌∙◌, subst, arith, ℕ}
use Rattle.std.proofs.lemmas.List.{length-append}
use Rattle.rb_sequence.specs.Cells.{AreInCells}
use Rattle.rb_subscriber.proofs.accepting.TokenLaws.{one_more_shown}
use Rattle.rb_subscriber.proofs.shown.fetch.Goals as goal

pub loop-past-preserved : goal.loop-past-preserved
loop-past-preserved c =
    let cells = c.args.sequence.now in
    let old = c.loop-past.shown.items in
    let t = c.in-Some.told in
    let inv = c.loop-past.invariant in
    let items = c.push_reserved.ensures.items in
    let number : t.number ≡ c.args.first + length old =
    c.in-Some.ensures.1 ∙ ap (λ (n : ℕ). c.args.first + n) (sym inv.1) in (
      subst (λ xs. AreInCells cells c.args.first xs) (sym items)
          (one_more_shown cells c.args.first old t inv.0 c.in-Some.ensures.0 number),
      omega (arith, ap length items, length-append old (t ∷ []), inv.1),
      omega (arith, c.push_reserved.ensures.len, inv.2),
      subst (λ n. suc c.args.last - c.args.first ≤ n) (sym c.push_reserved.ensures.capacity) inv.3,
    )
