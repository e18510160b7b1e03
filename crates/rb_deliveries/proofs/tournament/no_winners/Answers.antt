use Rattle.std.proofs.Common.{IfOk, ◌≡◌, Option, None, Some, Result, Ok, Err, refl}
use Rattle.rb_deliveries.proofs.tournament.no_winners.Goals as goal

when_ok : {V E : Type 0} {P Q : V → Type 0} (r : Result V E) → ((v : V) → P v → Q v) → IfOk r P → IfOk r Q
when_ok (Ok v) f p = f v p
when_ok (Err e) f p = tt

-- only none is a clone of none
abbrev IsNothing : {X : Type 0} → Option X → Type 0
IsNothing None = Unit {0}
IsNothing (Some x) = ⊥

must_be_none : {X : Type 0} (y : Option X) → IsNothing y → y ≡ None
must_be_none None is = refl
must_be_none (Some x) is = absurd is

pub returns : goal.returns
returns c =
    when_ok c.vec.result (λ v all. all (λ y is. must_be_none y is)) c.vec.ensures.items_if_clones_equal
