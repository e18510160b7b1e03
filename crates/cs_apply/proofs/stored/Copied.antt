-- A copy of the rows: pairs of a key and a row, put into a map one after another.
use Rattle.std.proofs.Common.{◌≡◌, ℕ, zero, suc, ◌+◌, ◌<◌, ◌≤◌, false, cond, List, [], ◌∷◌, ◌++◌}
use Rattle.std.proofs.Common.{Option, Some, None, take, take_all, length, slice_index_or}
use Rattle.std.proofs.Common.{refl, sym, ap, subst, ◌∙◌, arith}
use Rattle.std.proofs.lemmas.List.{take_more}
use Rattle.std.specs.Borrow.{Bor}
use Rattle.std.specs.List.{IsDistinct, AllByRecursion}
use Rattle.std.specs.Map.{lookup, keys_of}
use Rattle.std.specs.FinMap as map
use Rattle.std.proofs.lemmas.Map.Keys.{IsDistinct-head, IsDistinct-tail}
use Rattle.indexmap.specs.IndexMap.{IndexMap, IsUnique}
use Rattle.cs_model.specs.declared.row_key.RowKey.{RowKey}
use Rattle.cs_model.specs.declared.value.Value.{Value}
use Rattle.cs_apply.specs.Seen.{listed}
use Rattle.cs_apply.specs.State.{Rows}
use Rattle.cs_apply.specs.Steps.{FilledPlaces, rows_of}
use Rattle.cs_apply.proofs.rows_by_key.Keys.{same_key, laws, exact_keys, keys_total, find_key}
use Rattle.cs_apply.proofs.stored.Filled.{get_put, get_row, in_place, row_in}

-- a row that is put under a key is one of the rows
pub put_copied : {S : Type 0} (old new : IndexMap RowKey (Option (List Value)) S) (key : RowKey) (row : List Value)
    → IsUnique same_key old → IsUnique same_key new
    → ((q : RowKey) → lookup (same_key q) new.entries
    ≡ cond (same_key key q) (Some (Some row)) (lookup (same_key q) old.entries))
    → rows_of new.entries ≡ map.insert (rows_of old.entries) key row
put_copied old new key row before after found =
    map.same_map keys_total exact_keys (rows_of new.entries) (map.insert (rows_of old.entries) key row)
    (λ q.
    get_row new.entries q after ∙ ap row_in (found q)
    ∙ in_place (same_key key q) (Some row) (lookup (same_key q) old.entries)
    ∙ (λ i. cond (laws.symm key q i) (Some row) (sym (get_row old.entries q before) i))
    ∙ sym (get_put (rows_of old.entries) key q (Some row)))

-- a key that differs from all keys differs from the one at a place
differs_at : (key : RowKey) (pairs : FilledPlaces) (i : ℕ) (pair : RowKey × List Value)
    → AllByRecursion (λ k. same_key key k ≡ false) (keys_of pairs) → i < length pairs
    → pair ≡ slice_index_or pairs i pair → same_key key pair.0 ≡ false
differs_at key [] i pair all less at = absurd (omega (arith, less))
differs_at key (p ∷ pairs) zero pair all less at = ap (λ (e : RowKey × List Value). same_key key e.0) at ∙ all.0
differs_at key (p ∷ pairs) (suc i) pair all less at = differs_at key pairs i pair all.1 (omega (arith, less)) at

-- the key at a place isn't one of those before it
is_not_before : (pairs : FilledPlaces) (i : ℕ) (pair : RowKey × List Value) → IsDistinct same_key (keys_of pairs)
    → i < length pairs → pair ≡ slice_index_or pairs i pair → lookup (same_key pair.0) (take i pairs) ≡ None
is_not_before [] i pair distinct less at = absurd (omega (arith, less))
is_not_before (p ∷ pairs) zero pair distinct less at = refl
is_not_before (p ∷ pairs) (suc i) pair distinct less at =
    let apart = laws.symm pair.0 p.0
    ∙ differs_at p.0 pairs i pair (IsDistinct-head same_key p.0 (keys_of pairs) distinct) (omega (arith, less)) at in
    ap (λ b. cond b (Some p.1) (lookup (same_key pair.0) (take i pairs))) apart
    ∙ is_not_before pairs i pair (IsDistinct-tail same_key p.0 (keys_of pairs) distinct) (omega (arith, less)) at

-- one pair more is put into the map of those before it
pub copied_more : (pairs : FilledPlaces) (i : ℕ) (pair : RowKey × List Value) (old new : Rows)
    → IsDistinct same_key (keys_of pairs) → i < length pairs → pair ≡ slice_index_or pairs i pair
    → old ≡ map.from_entries (take i pairs) → new ≡ map.insert old pair.0 pair.1
    → new ≡ map.from_entries (take (i + 1) pairs)
copied_more pairs i pair old new distinct less at so_far put =
    put ∙ ap (λ (rows : Rows). map.insert rows pair.0 pair.1) so_far
    ∙ sym (map.from_entries_push keys_total exact_keys (take i pairs) pair.0 pair.1
    (find_key (take i pairs) pair.0 ∙ is_not_before pairs i pair distinct less at))
    ∙ ap (λ (e : RowKey × List Value). map.from_entries (take i pairs ++ e ∷ [])) at
    ∙ ap map.from_entries (sym (take_more pairs i pair less))

-- ---- borrowed pairs
abbrev pub BorrowedPairs : Type 0
BorrowedPairs = List (Bor RowKey × Bor (List Value))

pub listed_at : (borrowed : BorrowedPairs) (i : ℕ) (p : Bor RowKey × Bor (List Value)) (pair : RowKey × List Value)
    → i < length borrowed → ((slice_index_or borrowed i p).0.now, (slice_index_or borrowed i p).1.now)
    ≡ slice_index_or (listed borrowed) i pair
listed_at [] i p pair less = absurd (omega (arith, less))
listed_at (b ∷ borrowed) zero p pair less = refl
listed_at (b ∷ borrowed) (suc i) p pair less = listed_at borrowed i p pair (omega (arith, less))

pub listed_long : (borrowed : BorrowedPairs) → length (listed borrowed) ≡ length borrowed
listed_long [] = refl
listed_long (b ∷ borrowed) = ap suc (listed_long borrowed)

-- all pairs are put in once the place is past the last
pub all_copied : (borrowed : BorrowedPairs) (i : ℕ) (rows : Rows) → length borrowed ≤ i
    → rows ≡ map.from_entries (take i (listed borrowed)) → rows ≡ map.from_entries (listed borrowed)
all_copied borrowed i rows past so_far =
    so_far ∙ ap map.from_entries (take_all i (listed borrowed)
    (subst (λ n. n ≤ i) (sym (listed_long borrowed)) past))
