use Rattle.std.proofs.Common.{◌≡◌, ◌∙◌, ◌-◌, ap, sym, subst, arith, slice_get}
use Rattle.std.proofs.lemmas.Bool.{le-leb, lt-leb}
use Rattle.rb_deliveries.proofs.orders.DueLaws.{winner_is_least, IsLeast, each_some}
use Rattle.rb_deliveries.proofs.orders.MomentLaws.{past_later}
use Rattle.rb_deliveries.proofs.kept.first_past.Goals as goal

pub returns-in_err-winner : goal.returns-in_err-winner
returns-in_err-winner c =
    let none = subst (IsLeast 0 c.args.moments.now) (sym (sym c.in_err-winner.was ∙ c.winner.ensures))
    (winner_is_least 0 c.args.moments.now) in
    rw c.from_residual.ensures (each_some (λ t e. absurd e) c.args.moments.now none)

pub returns-then-timeout-saturating_sub : goal.returns-then-timeout-saturating_sub
returns-then-timeout-saturating_sub c =
    let least = subst (IsLeast 0 c.args.moments.now) (sym (sym c.in_ok-winner.was ∙ c.winner.ensures))
    (winner_is_least 0 c.args.moments.now) in (
      c.in_ok-winner.winner.rank,
      ap (slice_get c.args.moments.now) (let e : c.in_ok-winner.winner.place ≡ least.0 = omega (arith, least.1) in e)
          ∙ least.2,
      le-leb c.args.timeout (c.args.clock - c.in_ok-winner.winner.rank.front)
          (omega (arith, c.if-timeout-saturating_sub.true, c.saturating_sub.ensures)),
    )

pub returns : goal.returns
returns c =
    let w = c.in_ok-winner.winner.rank in
    let least = subst (IsLeast 0 c.args.moments.now) (sym (sym c.in_ok-winner.was ∙ c.winner.ensures))
    (winner_is_least 0 c.args.moments.now) in
    let yet = lt-leb c.args.timeout (c.args.clock - w.front)
    (omega (arith, c.if-timeout-saturating_sub.false, c.saturating_sub.ensures)) in
    each_some (λ t le. past_later c.args.timeout c.args.clock w t le yet) c.args.moments.now least.3
