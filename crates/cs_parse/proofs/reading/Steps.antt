-- What a reader takes from the front, and the steps of the reading laws.
use Rattle.std.proofs.Common.{◌≡◌, ℕ, zero, suc, ◌+◌, ◌<◌, ◌⊎◌, inl, inr, [], ◌∷◌, sym, arith, ltb, Bool, true, false}
use Rattle.std.proofs.Common.{cond, List, ◌++◌, length, get_or, Option, Some, None, Result, Ok, Err, refl, subst, ap}
use Rattle.std.proofs.Common.{◌∙◌}
use Rattle.std.proofs.lemmas.List.{get_or-append-add}
use Rattle.std.specs.Prelude.{nat_lt}
use Rattle.std.specs.List.{list_all}
use Rattle.std.proofs.lemmas.Bool.{and_from, and_parts, lt-ltb, ltb-true}
use Rattle.std.proofs.lemmas.List.{get_or_past}
use Rattle.cs_model.specs.Bytes.{AreBytes}
use Rattle.cs_parse.specs.declared.fault.FaultKind.{FaultKind}
use Rattle.cs_parse.specs.declared.stop.ParseRefusal.{ParseRefusal}
use Rattle.cs_parse.specs.Reading.{◌>>=◌, unless_refused}

-- the same as AreBytes, as a test
abbrev pub steps_are_bytes : List ℕ → Type 0
steps_are_bytes bytes = list_all (λ byte. nat_lt byte 256) bytes ≡ true

pub bytes_from : (bytes : List ℕ) → steps_are_bytes bytes → AreBytes bytes
bytes_from [] h i = subst (λ n. n < 256) (sym (get_or_past [] i 0 (omega arith))) (omega arith)
bytes_from (byte ∷ bytes) h zero = ltb-true byte 256 (and_parts (ltb byte 256) _ h).0
bytes_from (byte ∷ bytes) h (suc i) = bytes_from bytes (and_parts (ltb byte 256) _ h).1 i

pub bytes_to : (bytes : List ℕ) → AreBytes bytes → steps_are_bytes bytes
bytes_to [] fits = refl
bytes_to (byte ∷ bytes) fits = and_from (ltb byte 256) _ (lt-ltb byte 256 (fits 0)) (bytes_to bytes (λ i. fits (suc i)))

-- the bytes are a spelling of what was read, and then those that are left
pub record Takes {A : Type 0} (Spelling : List ℕ → A → Type 0) (bytes : List ℕ) (x : A × List ℕ) : Type 0 where
  pub text : List ℕ
  pub parts : bytes ≡ text ++ x.1
  pub spelled : Spelling text x.0

pub back_fits : (bytes front back : List ℕ) → bytes ≡ front ++ back → AreBytes bytes → AreBytes back
back_fits bytes front back e fits i =
    subst (λ n. n < 256) (get_or-append-add front back i 0)
    (subst (λ w. get_or w (length front + i) 0 < 256) e (fits (length front + i)))

-- the value of a step that did not fail
pub bind_ok : {A B : Type 0} (r : Result A ParseRefusal) (f : A → Result B ParseRefusal) (y : B) → (r >>= f) ≡ Ok y
    → (x : A) × (r ≡ Ok x) × (f x ≡ Ok y)
bind_ok (Ok x) f y e = (x, refl, e)
bind_ok (Err d) f y e = absurd cc

abbrev pub done : {A : Type 0} → A → Result A ParseRefusal
done x = Ok x

pub ok_is : {A : Type 0} (x y : A) → done x ≡ done y → x ≡ y
ok_is x y e = cc

-- a test that did not fail
pub guard_ok : {A : Type 0} (b : Bool) (d : ParseRefusal) (x : Result A ParseRefusal) (y : A) → cond b (Err d) x ≡ Ok y
    → (b ≡ false) × (x ≡ Ok y)
guard_ok true d x y e = absurd cc
guard_ok false d x y e = (refl, e)

-- which way a test went
pub steps_chosen : {A : Type 0} (b : Bool) (x y z : A) → cond b x y ≡ z → ((b ≡ true) × (x ≡ z))
    ⊎ ((b ≡ false) × (y ≡ z))
steps_chosen true x y z e = inl (refl, e)
steps_chosen false x y z e = inr (refl, e)

pub unless_ok : {A : Type 0} (o : Option FaultKind) (rest : List ℕ) (read : Result A ParseRefusal) (x : A)
    → unless_refused o rest read ≡ Ok x → (o ≡ None) × (read ≡ Ok x)
unless_ok None rest read x e = (refl, e)
unless_ok (Some kind) rest read x e = absurd cc

-- a number and what is left, by what they are
pub counted_pair : {n m : ℕ} {rest left : List ℕ} → n ≡ m → rest ≡ left → done {A = ℕ × List ℕ} (m, left)
    ≡ done (n, rest)
counted_pair {n} {m} {rest} {left} many is = ap (λ k. done {A = ℕ × List ℕ} (k, left)) (sym many)
    ∙ ap (λ w. done {A = ℕ × List ℕ} (n, w)) (sym is)
