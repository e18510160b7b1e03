-- Row keys: one order, and entries looked up by it.
use Rattle.std.proofs.Common.{◌≡◌, ℕ, true, cond, List, [], ◌∷◌, Some, refl, ap, subst, ◌∙◌, arith}
use Rattle.std.proofs.lemmas.Bool.Decides.{nat_tests}
use Rattle.std.proofs.lemmas.Map.Text.{is_eq-slice_cmp}
use Rattle.std.specs.declared.cmp.Ordering.{Ordering}
use Rattle.std.specs.declared.cmp.Ordering.TheVariants.{Less, Equal, Greater}
use Rattle.std.specs.Prelude.{◌&&◌, nat_eq}
use Rattle.std.specs.Ordering.{nat_cmp, ordering_then, eq_by_cmp, is_eq}
use Rattle.std.specs.Cmp.{IsTotalOrder, IsEquivalence, eq_by_cmp_equiv, Equal-is, nat_cmp_total, on_total, then_total}
use Rattle.std.specs.Cmp.Lexicographic.{slice_cmp, nat_list_cmp_total}
use Rattle.std.specs.FinMap as map
use Rattle.std.specs.FinMap.{find, IsAntisymmetric}
use Rattle.std.specs.Map.{lookup}
use Rattle.std.proofs.lemmas.Map.Lookups.{exact_pairs, exact_unsigned, exact_bytes}
use Rattle.cs_model.specs.declared.row_key.RowKey.{RowKey}
use Rattle.cs_model.specs.Key.{row_key_cmp}
pub use Rattle.cs_apply.specs.SameKey.{same_key}

-- keys that compare alike are one
pub exact_keys : IsAntisymmetric row_key_cmp
exact_keys a b h = ap (λ (p : ℕ × List ℕ). record { table = p.0; bytes = p.1 })
    (exact_pairs nat_cmp (slice_cmp nat_cmp) exact_unsigned exact_bytes (a.table, a.bytes) (b.table, b.bytes) h)

pub keys_total : IsTotalOrder row_key_cmp
keys_total = then_total (on_total (λ k. k.table) nat_cmp_total) (on_total (λ k. k.bytes) nat_list_cmp_total)

keys_joined : (r s : Ordering) → is_eq (ordering_then r s) ≡ (is_eq r && is_eq s)
keys_joined Less s = refl
keys_joined Equal s = refl
keys_joined Greater s = refl

numbers_tied : (x y : ℕ) → is_eq (nat_cmp x y) ≡ nat_eq x y
numbers_tied x y = grind (arith, nat_tests)

-- the order and `==` tell keys apart alike
pub tied : (a b : RowKey) → eq_by_cmp row_key_cmp a b ≡ same_key a b
tied a b = keys_joined (nat_cmp a.table b.table) (slice_cmp nat_cmp a.bytes b.bytes)
    ∙ (λ i. numbers_tied a.table b.table i && is_eq-slice_cmp a.bytes b.bytes i)

pub find_key : {X : Type 0} (es : List (RowKey × X)) (q : RowKey) → find row_key_cmp q es ≡ lookup (same_key q) es
find_key [] q = refl
find_key (e ∷ es) q = (λ i. cond (tied q e.0 i) (Some e.1) (find_key es q i))

-- what the map that the entries make has at a key
pub get_key : {X : Type 0} (es : List (RowKey × X)) (q : RowKey) → map.get (map.from_entries {R = row_key_cmp} es) q
    ≡ lookup (same_key q) es
get_key es q = map.get-from_entries keys_total es q ∙ find_key es q

pub laws : IsEquivalence same_key
laws = subst IsEquivalence (λ i a b. tied a b i) (eq_by_cmp_equiv keys_total)

pub exact : (a b : RowKey) → same_key a b ≡ true → a ≡ b
exact a b e = exact_keys a b ((Equal-is (row_key_cmp a b)).0 (tied a b ∙ e))
