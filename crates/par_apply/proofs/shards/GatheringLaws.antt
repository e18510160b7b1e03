-- The changes of all shards, laid over the rows, are what all changes leave.
use Rattle.std.proofs.Common.{◌≡◌, ◌∙◌, ◌⊎◌, inl, inr, ◌<◌, ◌≤◌, ◌+◌, ℕ, zero, suc, Bool, true, false, cond}
use Rattle.std.proofs.Common.{List, [], ◌∷◌, ◌++◌, Option, Some, None, Result, Ok, Err, refl, ap, sym, arith}
use Rattle.std.proofs.lemmas.Option.{none-some}
use Rattle.std.specs.FinMap as map
use Rattle.std.specs.Map.{lookup}
use Rattle.cs_model.specs.declared.row_key.RowKey.{RowKey}
use Rattle.cs_model.specs.declared.value.Value.{Value}
use Rattle.cs_apply.specs.declared.conflict.Conflict.{Conflict as Conflicts}
use Rattle.cs_apply.specs.State.{Rows}
use Rattle.cs_apply.proofs.stored.Filled.{get_put}
use Rattle.cs_apply.proofs.rows_by_key.Keys.{same_key, exact_keys, keys_total}
use Rattle.par_apply.specs.RowChanges.{RowChanges, overlaid}
use Rattle.par_apply.specs.Splitting.{AreAllShards, AreOfShard, SplitsInto, joined_parts, list_at}

-- ---- a look-up

-- the row of a change, or the one that was there
abbrev pub row_over : Option (Option (List Value)) → Option (List Value) → Option (List Value)
row_over None old = old
row_over (Some row) old = row

pub get_overlaid : (rows : Rows) (cs : RowChanges) (q : RowKey) → map.get (overlaid rows cs) q
    ≡ row_over (lookup (same_key q) cs) (map.get rows q)
get_overlaid rows [] q = refl
get_overlaid rows (c ∷ cs) q = get_put (overlaid rows cs) c.0 q c.1 ∙ by (same_key q c.0) (get_overlaid rows cs q)
  where
    by : (b : Bool)
        → map.get (overlaid rows cs) q ≡ row_over (lookup (same_key q) cs) (map.get rows q)
        → cond b c.1 (map.get (overlaid rows cs) q)
        ≡ row_over (cond b (Some c.1) (lookup (same_key q) cs)) (map.get rows q)
    by true h = refl
    by false h = h

-- ---- all shards

rows_of_ok : (a b : Rows) → ◌≡◌ {A = Result Rows Conflicts} (Ok a) (Ok b) → a ≡ b
rows_of_ok a b e = cc

ok_no_err : {P : Type 0} (a : Rows) (e : Conflicts) → ◌≡◌ {A = Result Rows Conflicts} (Ok a) (Err e) → P
ok_no_err a e h = absurd cc

-- where each shard has changes, so has the whole, and any gathering of them makes its rows
pub gathers : (shard : RowKey → ℕ) (answers : ℕ → Result Rows Conflicts) (whole : Result Rows Conflicts) (rows : Rows)
    (parts : ℕ → RowChanges) (changes : RowChanges) → SplitsInto shard answers whole
    → ((key : RowKey) → answers (shard key) ≡ Ok (overlaid rows (parts (shard key)))) → AreAllShards shard parts changes
    → whole ≡ Ok (overlaid rows changes)
gathers shard answers (Ok new) rows parts changes (news, is, same) done all =
    ap (λ (r : Rows). Ok r) (map.same_map keys_total exact_keys new (overlaid rows changes) (λ q.
    let here : news (shard q) ≡ overlaid rows (parts (shard q)) =
    rows_of_ok (news (shard q)) (overlaid rows (parts (shard q))) (sym (is (shard q)) ∙ done q) in
    sym (same q) ∙ ap (λ (r : Rows). map.get r q) here ∙ get_overlaid rows (parts (shard q)) q
    ∙ ap (λ o. row_over o (map.get rows q)) (sym (all q)) ∙ sym (get_overlaid rows changes q)))
gathers shard answers (Err conflict) rows parts changes (key, is, least) done all =
    ok_no_err (overlaid rows (parts (shard key))) conflict (sym (done key) ∙ is)

-- the least of the shards' conflicts is the first of all
pub first_of_shards : (shard : RowKey → ℕ) (answers : ℕ → Result Rows Conflicts) (whole : Result Rows Conflicts) (i : ℕ)
    (conflict : Conflicts) → SplitsInto shard answers whole → answers i ≡ Err conflict
    → ((key : RowKey) (other : Conflicts) → answers (shard key) ≡ Err other → conflict.position ≤ other.position)
    → whole ≡ Err conflict
first_of_shards shard answers (Ok new) i conflict (news, is, same) here least =
    ok_no_err (news i) conflict (sym (is i) ∙ here)
first_of_shards shard answers (Err first) i conflict (key, is, later) here least =
    by (later i conflict here) (least key first is)
  where
    by : (conflict ≡ first) ⊎ (first.position < conflict.position) → conflict.position ≤ first.position
        → ◌≡◌ {A = Result Rows Conflicts} (Err first) (Err conflict)
    by (inl same) low = ap (λ (c : Conflicts). Err c) (sym same)
    by (inr high) low = absurd (omega arith)

-- ---- one list after another

pub look_past : (q : RowKey) (xs ys : RowChanges) → lookup (same_key q) xs ≡ None
    → lookup (same_key q) (xs ++ ys) ≡ lookup (same_key q) ys
look_past q [] ys none = refl
look_past q (x ∷ xs) ys none = by (same_key q x.0) (look_past q xs ys) none
  where
    by : (b : Bool) → (lookup (same_key q) xs ≡ None → lookup (same_key q) (xs ++ ys) ≡ lookup (same_key q) ys)
        → cond b (Some x.1) (lookup (same_key q) xs) ≡ None
        → cond b (Some x.1) (lookup (same_key q) (xs ++ ys)) ≡ lookup (same_key q) ys
    by true rest none = absurd (none-some x.1 (sym none))
    by false rest none = rest none

look_before : (q : RowKey) (xs ys : RowChanges) → lookup (same_key q) ys ≡ None
    → lookup (same_key q) (xs ++ ys) ≡ lookup (same_key q) xs
look_before q [] ys none = none
look_before q (x ∷ xs) ys none = ap (cond (same_key q x.0) (Some x.1)) (look_before q xs ys none)

-- a list of another shard has no change of this key
not_in_other : (n k : ℕ) (q : RowKey) (xs : RowChanges)
    → ((row : Option (List Value)) → lookup (same_key q) xs ≡ Some row → n ≡ k) → (n ≡ k → ⊥)
    → lookup (same_key q) xs ≡ None
not_in_other n k q xs own apart = by (lookup (same_key q) xs) own
  where
    by : (r : Option (Option (List Value))) → ((row : Option (List Value)) → r ≡ Some row → n ≡ k) → r ≡ None
    by None h = refl
    by (Some row) h = absurd (apart (h row refl))

module _ (n : ℕ) (q : RowKey) where
  -- of the lists from a shard on, the key's shard's alone has a change of the key
  abbrev pub IsInOwn : List RowChanges → ℕ → Type 0
  IsInOwn [] start = Unit {0}
  IsInOwn (xs ∷ lists) start =
      ((row : Option (List Value)) → lookup (same_key q) xs ≡ Some row → n ≡ start) × IsInOwn lists (suc start)

  pub none_after : (lists : List RowChanges) (start : ℕ) → n < start → IsInOwn lists start
      → lookup (same_key q) (joined_parts lists) ≡ None
  none_after [] start low own = refl
  none_after (xs ∷ lists) start low own =
      look_past q xs (joined_parts lists) (not_in_other n start q xs own.0 (λ same. absurd (omega arith)))
      ∙ none_after lists (suc start) (omega arith) own.1

  in_own_list : (lists : List RowChanges) (start k : ℕ) → n ≡ start + k → IsInOwn lists start
      → lookup (same_key q) (joined_parts lists) ≡ lookup (same_key q) (list_at lists k)
  in_own_list [] start k is own = refl
  in_own_list (xs ∷ lists) start zero is own =
      look_before q xs (joined_parts lists) (none_after lists (suc start) (omega arith) own.1)
  in_own_list (xs ∷ lists) start (suc k) is own =
      look_past q xs (joined_parts lists) (not_in_other n start q xs own.0 (λ same. absurd (omega arith)))
      ∙ in_own_list lists (suc start) k (omega arith) own.1

  pub each_in_own : (lists : List RowChanges) (start : ℕ)
      → ((i : ℕ) (row : Option (List Value)) → lookup (same_key q) (list_at lists i) ≡ Some row → n ≡ start + i)
      → IsInOwn lists start
  each_in_own [] start h = tt
  each_in_own (xs ∷ lists) start h = (
    (λ row e. let z = h 0 row e in omega arith),
    each_in_own lists (suc start) (λ i row e. let z = h (suc i) row e in omega arith),
  )

pub joined_are_all : (shard : RowKey → ℕ) (lists : List RowChanges)
    → ((i : ℕ) → AreOfShard shard i (list_at lists i)) → AreAllShards shard (list_at lists) (joined_parts lists)
joined_are_all shard lists own key =
    in_own_list (shard key) key lists 0 (shard key) (omega arith)
    (each_in_own (shard key) key lists 0 (λ i row e. let h = own i key row e in omega arith))
