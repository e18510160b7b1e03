-- Rows in the order of their keys.
use Rattle.std.proofs.Common.{◌≡◌, ◌+◌, Bool, true, false, T, List, [], ◌∷◌, length, map as list_map, get_or, Option}
use Rattle.std.proofs.Common.{Some, None, refl, sym, ap, subst, ◌∙◌, arith, IsPermutation}
use Rattle.std.specs.Ordering.{is_eq, is_lt, ordering_reverse}
use Rattle.std.specs.Prelude.{◌&&◌}
use Rattle.std.proofs.lemmas.List.{get_or-map, length-map}
use Rattle.std.specs.declared.cmp.Ordering.{Ordering}
use Rattle.std.specs.declared.cmp.Ordering.TheVariants.{Less, Equal, Greater}
use Rattle.std.specs.List.{IsDistinct, AllByRecursion}
use Rattle.std.specs.List.Sorted.{IsSortedBy, IsStrictlySortedBy}
use Rattle.std.specs.Map.{lookup, keys_of}
use Rattle.std.specs.FinMap as map
use Rattle.std.specs.FinMap.{is_sorted}
use Rattle.std.specs.FinMap.Entries.{below_all}
use Rattle.std.proofs.lemmas.Bool.{false≢true}
use Rattle.std.proofs.lemmas.List.Sorted.{IsPermutation-map, IsPermutation-sym, Contains-permutation}
use Rattle.std.proofs.lemmas.Map.Keys.{IsDistinct-IsPermutation, apart_from_distinct, sorted_from_all_adjacent}
use Rattle.std.proofs.lemmas.Map.Keys.{sorted_head, sorted_tail}
use Rattle.std.proofs.lemmas.Map.Views.{Contains-from_lookup, lookup-from_Contains}
use Rattle.cs_model.specs.declared.row_key.RowKey.{RowKey}
use Rattle.cs_model.specs.declared.value.Value.{Value}
use Rattle.cs_model.specs.Key.{row_key_cmp}
use Rattle.cs_apply.specs.Steps.{FilledPlaces}
use Rattle.cs_apply.proofs.rows_by_key.Keys.{same_key, laws, exact, tied, exact_keys, keys_total, find_key, get_key}

-- entries with distinct keys answer alike in each order
alike : (es ys : FilledPlaces) → IsPermutation es ys → IsDistinct same_key (keys_of es)
    → IsDistinct same_key (keys_of ys) → (q : RowKey) → lookup (same_key q) es ≡ lookup (same_key q) ys
alike es ys moves distinct apart q = by (lookup (same_key q) es) (lookup (same_key q) ys) refl refl
  where
    by : (r s : Option (List Value)) → lookup (same_key q) es ≡ r → lookup (same_key q) ys ≡ s → r ≡ s
    by (Some v) s p e =
        sym (lookup-from_Contains laws q v ys apart
        (Contains-permutation es ys (q, v) moves (Contains-from_lookup exact q v es p))) ∙ e
    by None s p e = by_none s p e
      where
        by_none : (s : Option (List Value)) → lookup (same_key q) es ≡ None → lookup (same_key q) ys ≡ s → None ≡ s
        by_none None p e = refl
        by_none (Some v) p e = sym p
            ∙ lookup-from_Contains laws q v es distinct
            (Contains-permutation ys es (q, v) (IsPermutation-sym es ys moves) (Contains-from_lookup exact q v ys e))

both : (a b : Bool) → T a → T b → T (a && b)
both true b p q = q
both false b p q = p

below : (x : RowKey) (es : FilledPlaces) → AllByRecursion (λ y. row_key_cmp x y ≡ Less) (keys_of es)
    → T (below_all row_key_cmp x es)
below x [] h = tt
below x (e ∷ es) h = both (is_lt (row_key_cmp x e.0)) (below_all row_key_cmp x es)
    (subst (λ r. T (is_lt r)) (sym h.0) tt) (below x es h.1)

orders_in_order : (es : FilledPlaces) → IsStrictlySortedBy row_key_cmp (keys_of es) → T (is_sorted row_key_cmp es)
orders_in_order [] h = tt
orders_in_order (e ∷ es) h =
    both (below_all row_key_cmp e.0 es) (is_sorted row_key_cmp es)
    (below e.0 es (sorted_head row_key_cmp e.0 (keys_of es) h))
    (orders_in_order es (sorted_tail row_key_cmp e.0 (keys_of es) h))

-- the first is less where the second isn't and they differ
ahead : (a b : RowKey) → is_lt (row_key_cmp b a) ≡ false → same_key a b ≡ false → row_key_cmp a b ≡ Less
ahead a b up apart = by (row_key_cmp a b) refl
  where
    by : (r : Ordering) → row_key_cmp a b ≡ r → r ≡ Less
    by Less e = refl
    by Equal e = absurd (false≢true (sym apart ∙ sym (tied a b) ∙ ap is_eq e))
    by Greater e = absurd (false≢true (sym up ∙ ap is_lt (keys_total.antisymm b a ∙ ap ordering_reverse e)))

strictly : (ys : FilledPlaces) → IsDistinct same_key (keys_of ys) → IsSortedBy (λ x y. is_lt (row_key_cmp x.0 y.0)) ys
    → IsStrictlySortedBy row_key_cmp (keys_of ys)
strictly ys apart up =
    let none : RowKey = record { table = 0; bytes = [] } in
    let nothing : RowKey × List Value = (none, []) in
    let keys : List RowKey = keys_of ys in
    sorted_from_all_adjacent keys_total keys none (λ k lt.
    let long : length keys ≡ length ys = length-map ys (λ e. e.0) in
    let first : get_or keys k none ≡ (get_or ys k nothing).0 = get_or-map (λ e. e.0) ys k nothing none (omega arith) in
    let second : get_or keys (k + 1) none ≡ (get_or ys (k + 1) nothing).0 =
    get_or-map (λ e. e.0) ys (k + 1) nothing none (omega arith) in
    ahead (get_or keys k none) (get_or keys (k + 1) none)
    ((λ i. is_lt (row_key_cmp (second i) (first i))) ∙ up k nothing (omega arith) (omega arith))
    (apart_from_distinct same_key keys k (k + 1) none apart (omega arith) lt))

-- entries with distinct keys, in another order in which they don't fall, are those of the map
pub sorted_entries : (es ys : FilledPlaces) → IsDistinct same_key (keys_of es) → IsPermutation es ys
    → IsSortedBy (λ x y. is_lt (row_key_cmp x.0 y.0)) ys → ys ≡ map.entries (map.from_entries {R = row_key_cmp} es)
sorted_entries es ys distinct moves up =
    let apart : IsDistinct same_key (keys_of ys) =
    IsDistinct-IsPermutation same_key laws.symm (keys_of es) (keys_of ys) (IsPermutation-map (λ e. e.0) es ys moves)
    distinct in
    let h : T (is_sorted row_key_cmp ys) = orders_in_order ys (strictly ys apart up) in
    let same : map.from_entries es ≡ map.from_sorted {R = row_key_cmp} ys =
    map.same_map keys_total exact_keys (map.from_entries {R = row_key_cmp} es) (map.from_sorted ys)
    (λ q. get_key es q ∙ alike es ys moves distinct apart q ∙ sym (find_key ys q)
    ∙ sym (map.get-from_sorted row_key_cmp ys q h)) in
    sym (ap map.entries same ∙ map.entries-from_sorted row_key_cmp ys h)

-- the same, of pairs that show the entries
pub sorted_pairs : {X : Type 0} (show : X → RowKey × List Value) (es : FilledPlaces) (xs ys : List X)
    → IsDistinct same_key (keys_of es) → list_map show xs ≡ es → IsPermutation xs ys
    → IsSortedBy (λ x y. is_lt (row_key_cmp (show x).0 (show y).0)) ys → list_map show ys
    ≡ map.entries (map.from_entries {R = row_key_cmp} es)
sorted_pairs {X = X} show es xs ys distinct is moves up =
    sorted_entries es (list_map show ys) distinct
    (subst (λ (l : FilledPlaces). IsPermutation l (list_map show ys)) is (IsPermutation-map show xs ys moves))
    (shown ys up)
  where
    shown : (ys : List X) → IsSortedBy (λ x y. is_lt (row_key_cmp (show x).0 (show y).0)) ys
        → IsSortedBy (λ x y. is_lt (row_key_cmp x.0 y.0)) (list_map show ys)
    shown [] up k d low lt = absurd (omega arith)
    shown (y ∷ ys) up k d low lt =
        let long : length (list_map show (y ∷ ys)) ≡ length (y ∷ ys) = length-map (y ∷ ys) show in
        let first : get_or (list_map show (y ∷ ys)) k d ≡ show (get_or (y ∷ ys) k y) =
        get_or-map show (y ∷ ys) k y d (omega arith) in
        let second : get_or (list_map show (y ∷ ys)) (k + 1) d ≡ show (get_or (y ∷ ys) (k + 1) y) =
        get_or-map show (y ∷ ys) (k + 1) y d (omega arith) in
        (λ i. is_lt (row_key_cmp (second i).0 (first i).0)) ∙ up k y low (omega arith)
