-- Reading items one after another, as a loop does.
use Rattle.std.proofs.Common.{◌≡◌, ℕ, zero, suc, ◌⊎◌, inl, inr, Bool, true, false, cond, List, [], ◌∷◌, ◌++◌, Result}
use Rattle.std.proofs.Common.{Ok, refl, ap, arith}
use Rattle.cs_model.specs.Rule.{Rule}
use Rattle.cs_parse.specs.Place.{type_refusal}
use Rattle.cs_parse.specs.declared.stop.ParseRefusal.{ParseRefusal}
use Rattle.cs_parse.specs.Reading.{◌>>=◌, many_at, typed_at, unless_refused, field_at}

-- what was read before, and what is still read
abbrev pub with_front : {A : Type 0} → List A → Result (List A × List ℕ) ParseRefusal
    → Result (List A × List ℕ) ParseRefusal
with_front front read = read >>= λ x. Ok (front ++ x.0, x.1)

abbrev pub then_others : {A : Type 0} → A → Result (List A × List ℕ) ParseRefusal
    → Result (List A × List ℕ) ParseRefusal
then_others first read = read >>= λ others. Ok (first ∷ others.0, others.1)

-- ---- many_at

-- the rest of a turn
abbrev pub loops_rest_of : {A : Type 0} → (List ℕ → Bool) → (List ℕ → Result (A × List ℕ) ParseRefusal) → ℕ → A × List ℕ
    → Result (List A × List ℕ) ParseRefusal
loops_rest_of over read fuel first = then_others first.0 (many_at over read fuel first.1)

pub many_more : {A : Type 0} (over : List ℕ → Bool) (read : List ℕ → Result (A × List ℕ) ParseRefusal) (fuel : ℕ)
    (bytes : List ℕ) → over bytes ≡ false
    → many_at over read (suc fuel) bytes ≡ (read bytes >>= loops_rest_of over read fuel)
unfolding many_at
many_more over read fuel bytes h = ap (λ b. cond b (Ok ([], bytes)) (read bytes >>= loops_rest_of over read fuel)) h

pub many_done : {A : Type 0} (over : List ℕ → Bool) (read : List ℕ → Result (A × List ℕ) ParseRefusal) (fuel : ℕ)
    (bytes : List ℕ) → (over bytes ≡ true) ⊎ (fuel ≡ 0) → many_at over read fuel bytes ≡ Ok ([], bytes)
unfolding many_at
many_done over read zero bytes h = refl
many_done over read (suc fuel) bytes (inl h) =
    ap (λ b. cond b (Ok ([], bytes)) (read bytes >>= loops_rest_of over read fuel)) h
many_done over read (suc fuel) bytes (inr h) = absurd (omega (arith, h))

-- ---- fields

-- rules that refuse the same bytes read the same
pub same_field : (a b : Rule) (bytes : List ℕ) → ((byte : ℕ) → type_refusal a byte ≡ type_refusal b byte)
    → field_at a bytes ≡ field_at b bytes
unfolding field_at
same_field a b [] h = refl
same_field a b (byte ∷ rest) h = ap (λ o. unless_refused o rest (typed_at byte rest)) (h byte)
