-- A key directly after another in a list: where the other stands, and which keys the list has then.
use Rattle.std.proofs.Common.{◌≡◌, ℕ, ◌||◌, Bool, true, false, cond, List, [], ◌∷◌, ◌++◌, eqb, refl, sym, ap}
use Rattle.std.proofs.Common.{subst, ◌∙◌, inl, inr}
use Rattle.std.specs.List.{flat_map}
use Rattle.std.proofs.lemmas.Bool.Decides.{eqb_tells}
use Rattle.std.proofs.lemmas.List.Folds.{list_any-append}
use Rattle.rb_deliveries.specs.Taken.{lists_key}
use Rattle.rb_deliveries.proofs.lists.KeyLaws.{key_differs, key_same, or_else}

put_neither : (a b : Bool) → (a || b) ≡ false → (a ≡ false) × (b ≡ false)
put_neither true b is = absurd cc
put_neither false b is = (refl, is)

-- a key that is not in a list is in put_neither part of it
pub not_in_parts : (key : ℕ) (xs ys : List ℕ) → lists_key key (xs ++ ys) ≡ false →
    (lists_key key xs ≡ false) × (lists_key key ys ≡ false)
not_in_parts key xs ys free =
    put_neither (lists_key key xs) (lists_key key ys) (sym (list_any-append (eqb key) xs ys) ∙ free)

-- ---- where a key stands first

pub record SplitsAt (key : ℕ) (keys : List ℕ) : Type 0 where
  pub before : List ℕ
  pub after : List ℕ
  pub parts : keys ≡ before ++ key ∷ after
  pub not_before : lists_key key before ≡ false

pub key_splits : (key : ℕ) (keys : List ℕ) → lists_key key keys ≡ true → SplitsAt key keys
key_splits key [] there = absurd cc
key_splits key (k ∷ keys) there = elim (eqb_tells key k) [
  | inl same ↦ record {
    before = [];
    after = keys;
    parts = ap (λ (q : ℕ). q ∷ keys) (sym same.1);
    not_before = refl;
  }
  | inr differs ↦
      let later = key_splits key keys (ap (λ b. b || lists_key key keys) (sym differs.0) ∙ there) in
      record {
        before = k ∷ later.before;
        after = later.after;
        parts = ap (λ ks. k ∷ ks) later.parts;
        not_before = ap (λ b. b || lists_key key later.before) differs.0 ∙ later.not_before;
      }
]

-- ---- a key directly after it

abbrev put_key : ℕ → ℕ → List ℕ → List ℕ
put_key at key = flat_map (λ other. cond (eqb at other) (other ∷ key ∷ []) (other ∷ []))

put_nowhere : (at key : ℕ) (keys : List ℕ) → lists_key at keys ≡ false → put_key at key keys ≡ keys
put_nowhere at key [] apart = refl
put_nowhere at key (k ∷ keys) apart =
    let both = put_neither (eqb at k) (lists_key at keys) apart in
    ap (λ b. cond b (k ∷ key ∷ []) (k ∷ []) ++ put_key at key keys) both.0
    ∙ ap (λ ks. k ∷ ks) (put_nowhere at key keys both.1)

pub put_key_there : (at key : ℕ) (before after : List ℕ) → lists_key at before ≡ false → lists_key at after ≡ false →
    put_key at key (before ++ at ∷ after) ≡ before ++ at ∷ key ∷ after
put_key_there at key [] after not_before not_after =
    ap (λ b. cond b (at ∷ key ∷ []) (at ∷ []) ++ put_key at key after) (key_same at)
    ∙ ap (λ ks. at ∷ key ∷ ks) (put_nowhere at key after not_after)
put_key_there at key (k ∷ before) after not_before not_after =
    let both = put_neither (eqb at k) (lists_key at before) not_before in
    ap (λ b. cond b (k ∷ key ∷ []) (k ∷ []) ++ put_key at key (before ++ at ∷ after)) both.0
    ∙ ap (λ ks. k ∷ ks) (put_key_there at key before after both.1 not_after)

-- what a list has with a key between two parts
pub put_has_between : (key other : ℕ) (xs ys : List ℕ) → lists_key other (xs ++ key ∷ ys)
    ≡ cond (eqb key other) true (lists_key other (xs ++ ys))
put_has_between key other [] ys = elim (eqb_tells key other) [
  | inl same ↦
      ap (λ b. b || lists_key other ys) (subst (λ o. eqb o key ≡ true) same.1 (key_same key))
      ∙ ap (λ b. cond b true (lists_key other ys)) (sym same.0)
  | inr differs ↦
      ap (λ b. b || lists_key other ys) (key_differs other key (λ e. differs.1 (sym e)))
      ∙ ap (λ b. cond b true (lists_key other ys)) (sym differs.0)
]
put_has_between key other (x ∷ xs) ys =
    ap (λ b. eqb other x || b) (put_has_between key other xs ys)
    ∙ by_key (eqb key other) (eqb other x) (lists_key other (xs ++ ys))
  where
    by_key : (b c d : Bool) → (c || cond b true d) ≡ cond b true (c || d)
    by_key true c d = or_else c
    by_key false c d = refl
