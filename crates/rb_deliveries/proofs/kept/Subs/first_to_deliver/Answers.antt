use Rattle.std.proofs.Common.{◌≡◌, ◌∙◌, ap, sym, refl, Some, None, option_map, arith, if◌then◌else◌}
use Rattle.std.proofs.lemmas.Bool.{lt-leb}
use Rattle.std.proofs.lemmas.Option.{slice_get_within}
use Rattle.rb_deliveries.specs.declared.rank.Held.{Held}
use Rattle.rb_deliveries.specs.Subs.{span_to_deliver}
use Rattle.rb_deliveries.proofs.orders.WaitingLaws.{first_there, line_delivers, none_in_line}
use Rattle.rb_deliveries.proofs.kept.Subs.first_to_deliver.Goals as goal

pub returns-in_err-winner : goal.returns-in_err-winner
returns-in_err-winner c =
    let none = none_in_line c.args.front c.args.batch c.self.invariant (rw (← c.self.view_is) at c.requires.belong)
    c.requires.limits.0 None (sym c.in_err-winner.was ∙ c.winner.ensures) refl in
    rw (← c.self.view_is) (c.from_residual.ensures ∙ sym (ap (option_map span_to_deliver) none))

pub returns-then-front-winner : goal.returns-then-front-winner
returns-then-front-winner c =
    let w = c.in_ok-winner.winner in
    let none = none_in_line c.args.front c.args.batch c.self.invariant (rw (← c.self.view_is) at c.requires.belong)
    c.requires.limits.0 (Some w) (sym c.in_ok-winner.was ∙ c.winner.ensures)
    (ap (λ t. if t then Some w else None) (lt-leb w.rank.front c.args.front c.if-front-winner.true)) in
    rw (← c.self.view_is) (sym (ap (option_map span_to_deliver) none))

pub index-requires : goal.index-requires
index-requires c =
    let d = c.self.inside in
    let goes = line_delivers c.args.front c.args.batch c.self.invariant (rw (← c.self.view_is) at c.requires.belong)
    c.requires.limits.0 _ (sym c.in_ok-winner.was ∙ c.winner.ensures) c.if-front-winner.false in
    omega (arith, slice_get_within d.subs.items c.in_ok-winner.winner.place goes.sub goes.there, d.subs.ok)

pub returns-in_err-held : goal.returns-in_err-held
returns-in_err-held c =
    let goes = line_delivers c.args.front c.args.batch c.self.invariant (rw (← c.self.view_is) at c.requires.belong)
    c.requires.limits.0 _ (sym c.in_ok-winner.was ∙ c.winner.ensures) c.if-front-winner.false in
    let none : None ≡ Some goes.held =
    sym c.in_err-held.was ∙ first_there goes c.index.result.now _ c.index.ensures c.first_in_line.ensures in
    absurd (let e = none in cc)

pub returns : goal.returns
returns c =
    let goes = line_delivers c.args.front c.args.batch c.self.invariant (rw (← c.self.view_is) at c.requires.belong)
    c.requires.limits.0 _ (sym c.in_ok-winner.was ∙ c.winner.ensures) c.if-front-winner.false in
    let found : Some c.in_ok-held.held ≡ Some goes.held =
    sym c.in_ok-held.was ∙ first_there goes c.index.result.now _ c.index.ensures c.first_in_line.ensures in
    rw (← c.self.view_is) (ap (option_map (λ (h : Held). (c.in_ok-winner.winner.place, h.span))) found
    ∙ sym (ap (option_map span_to_deliver) goes.first))
