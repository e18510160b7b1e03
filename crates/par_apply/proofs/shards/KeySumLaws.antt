-- The sum of a key's bytes, one column after another.
use Rattle.std.proofs.Common.{◌≡◌, ◌∙◌, ℕ, ◌+◌, ◌%◌, ◌<◌, cond, List, [], ◌∷◌, ◌++◌, length, take, drop}
use Rattle.std.proofs.Common.{refl, sym, ap, arith}
use Rattle.std.specs.Prelude.{get_or, sum}
use Rattle.std.specs.List.{flat_map}
use Rattle.std.proofs.lemmas.Bool.{eq-eqb, ne_eqb}
use Rattle.std.proofs.lemmas.List.{append-nil, drop_more, drop-drop}
use Rattle.std.proofs.lemmas.List.Sums.{sum_by-append}
use Rattle.cs_model.specs.declared.value.Field.{Field}
use Rattle.cs_model.specs.FieldBytes.{field_bytes}
use Rattle.cs_model.specs.KeyBytes.{key_bytes, key_fields}
use Rattle.cs_model.specs.Packed.{packed}
use Rattle.par_apply.proofs.shards.ShardLaws.{same_remainder}

no_key_bytes : (flags : List ℕ) → key_bytes flags [] ≡ []
no_key_bytes [] = refl
no_key_bytes (flag ∷ flags) = refl

-- a column outside the key
column_passed : (flag : ℕ) (flags : List ℕ) (fields : List Field) → flag ≡ 0
    → key_bytes (flag ∷ flags) fields ≡ key_bytes flags (drop 1 fields)
column_passed flag flags [] is = sym (no_key_bytes flags)
column_passed flag flags (field ∷ fields) is =
    ap (λ b. flat_map field_bytes (cond b (key_fields flags fields) (field ∷ key_fields flags fields)))
    (eq-eqb flag 0 is)

-- a column of the key
column_added : (flag : ℕ) (flags : List ℕ) (fields : List Field) → 0 < flag
    → key_bytes (flag ∷ flags) fields ≡ packed (take 1 fields) ++ key_bytes flags (drop 1 fields)
column_added flag flags [] lt = sym (no_key_bytes flags)
column_added flag flags (field ∷ fields) lt =
    ap (λ b. flat_map field_bytes (cond b (key_fields flags fields) (field ∷ key_fields flags fields)))
    (ne_eqb flag 0 (λ is. omega (arith, is, lt)))
    ∙ ap (λ (w : List ℕ). w ++ key_bytes flags fields) (sym (append-nil (field_bytes field)))

module _ (flags : List ℕ) (n whole : ℕ) where
  -- the loop goes on behind a column outside the key
  pub sum_passed : (fields : List Field) (i passed s : ℕ) → i < length flags → get_or flags i 0 ≡ 0
      → (s + sum (key_bytes (drop i flags) (drop passed fields))) % n ≡ whole
      → (s + sum (key_bytes (drop (i + 1) flags) (drop (passed + 1) fields))) % n ≡ whole
  sum_passed fields i passed s within none so_far =
      ap (λ (w : List ℕ). (s + sum w) % n) (sym
      (ap (λ (fs : List ℕ). key_bytes fs (drop passed fields)) (drop_more flags i 0 within)
      ∙ column_passed (get_or flags i 0) (drop (i + 1) flags) (drop passed fields) none
      ∙ ap (λ (fs : List Field). key_bytes (drop (i + 1) flags) fs) (drop-drop 1 passed fields)))
      ∙ so_far

  -- the loop goes on behind a column of the key
  pub sum_added : (fields here behind : List Field) (bytes : List ℕ) (i passed s t : ℕ) → i < length flags
      → 0 < get_or flags i 0 → here ≡ drop passed fields → bytes ≡ packed (take 1 here) → behind ≡ drop 1 here
      → t % n ≡ (s + sum bytes) % n
      → (s + sum (key_bytes (drop i flags) (drop passed fields))) % n ≡ whole
      → (t + sum (key_bytes (drop (i + 1) flags) behind)) % n ≡ whole
  sum_added fields here behind bytes i passed s t within lt is first rest added so_far =
      same_remainder t (s + sum bytes) (sum (key_bytes (drop (i + 1) flags) behind)) n added
      ∙ ap (λ m. m % n) both ∙ ap (λ (fs : List Field). (s + sum (key_bytes (drop i flags) fs)) % n) is ∙ so_far
    where
      parts : key_bytes (drop i flags) here ≡ bytes ++ key_bytes (drop (i + 1) flags) behind
      parts = ap (λ (fs : List ℕ). key_bytes fs here) (drop_more flags i 0 within)
          ∙ column_added (get_or flags i 0) (drop (i + 1) flags) here lt
          ∙ (λ j. sym first j ++ key_bytes (drop (i + 1) flags) (sym rest j))

      both : s + sum bytes + sum (key_bytes (drop (i + 1) flags) behind) ≡ s + sum (key_bytes (drop i flags) here)
      both = omega (
        arith,
        ap (λ (w : List ℕ). sum w) parts,
        sum_by-append (λ x. x) bytes (key_bytes (drop (i + 1) flags) behind),
      )
