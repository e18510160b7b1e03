-- The stored subscription that a subscription of the picture is.
use Rattle.std.proofs.Common.{◌≡◌, ◌⊎◌, inl, inr, ℕ, ◌≤◌, ◌<◌, List, map, length, Option, Some, None, option_map}
use Rattle.std.proofs.Common.{get_or, slice_get, refl, sym, ap, subst, ◌∙◌, arith}
use Rattle.std.proofs.lemmas.Option.{slice_get-map, slice_get_cases}
use Rattle.rb_deliveries.specs.declared.sub.Sub.{Sub}
use Rattle.rb_deliveries.specs.Picture.{Subscription}
use Rattle.rb_deliveries.specs.Pictured.{pictured_sub}

-- the stored subscription that a subscription of the picture is
pub record IsStored (batch front : ℕ) (subs : List Sub) (s : ℕ) (q : Subscription) : Type 0 where
  pub sub : Sub
  pub found : slice_get subs s ≡ Some sub
  pub same : pictured_sub batch front sub ≡ q

pub stored : (batch front : ℕ) (subs : List Sub) (s : ℕ) (q : Subscription)
    → slice_get (map (pictured_sub batch front) subs) s ≡ Some q → IsStored batch front subs s q
stored batch front subs s q h = by (slice_get subs s) refl (sym (slice_get-map (pictured_sub batch front) subs s) ∙ h)
  where
    by : (o : Option Sub) → slice_get subs s ≡ o → option_map (pictured_sub batch front) o ≡ Some q
        → IsStored batch front subs s q
    by None is e = absurd (let none : None ≡ Some q = e in cc)
    by (Some sub) is e = record { sub = sub; found = is; same = cc }

same_sub : {a b : Sub} → Some a ≡ Some b → a ≡ b
same_sub {a} {b} h = cc

-- so what holds of the one that was found holds of the subscription of the picture
pub of_stored : (batch front : ℕ) (subs : List Sub) (s : ℕ) (P : Subscription → Type 0) (sub : Sub)
    → slice_get subs s ≡ Some sub → P (pictured_sub batch front sub)
    → (q : Subscription) → slice_get (map (pictured_sub batch front) subs) s ≡ Some q → P q
of_stored batch front subs s P sub found holds q h =
    let t = stored batch front subs s q h in
    subst P (ap (pictured_sub batch front) (same_sub (sym found ∙ t.found)) ∙ t.same) holds

-- a number below a list's length is the place of an item
item_by : {X : Type 0} (xs : List X) (i : ℕ) → i < length xs
    → ((x : X) × (i < length xs) × (slice_get xs i ≡ Some x) × (get_or xs i x ≡ x))
    ⊎ ((length xs ≤ i) × (slice_get xs i ≡ None)) → (x : X) × (slice_get xs i ≡ Some x)
item_by xs i less (inl at) = (at.0, at.2)
item_by xs i less (inr past) = absurd (omega (arith, less, past.0))

pub slice_get_there : {X : Type 0} (xs : List X) (i : ℕ) → i < length xs → (x : X) × (slice_get xs i ≡ Some x)
slice_get_there xs i less = item_by xs i less (slice_get_cases xs i).1
