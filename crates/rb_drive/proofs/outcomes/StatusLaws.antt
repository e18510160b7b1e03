-- Whether a subscriber ended by a conflict.
use Rattle.std.proofs.Common.{◌≡◌, ℕ, zero, suc, ◌<◌, List, [], ◌∷◌, length, map, slice_index_or, sym, subst, arith}
use Rattle.cs_apply.specs.declared.conflict.Conflict.{Conflict}
use Rattle.rb_subscriber.specs.declared.shown.Shown.{Shown}
use Rattle.rb_drive.specs.declared.ending.SubscriberEnd.{SubscriberEnd}
use Rattle.rb_drive.specs.declared.ending.SubscriberEnd.TheVariants as ending
use Rattle.rb_drive.specs.Run.{HasConflict}

one_later : (e : SubscriberEnd) (rest : List SubscriberEnd) → HasConflict rest → HasConflict (e ∷ rest)
one_later ending.Drained rest has = has
one_later (ending.Conflict conflict shown) rest has = tt
one_later ending.Stopped rest has = has

-- this one did
pub conflict_among : {A : Type 0} (of : A → SubscriberEnd) (xs : List A) (i : ℕ) (d : A) (conflict : Conflict) (shown : Shown)
    → i < length xs → of (slice_index_or xs i d) ≡ ending.Conflict conflict shown → HasConflict (map of xs)
conflict_among of [] i d conflict shown less is = absurd (omega (arith, less))
conflict_among of (x ∷ xs) zero d conflict shown less is = subst (λ e. HasConflict (e ∷ map of xs)) (sym is) tt
conflict_among of (x ∷ xs) (suc i) d conflict shown less is =
    one_later (of x) (map of xs) (conflict_among of xs i d conflict shown (omega (arith, less)) is)
