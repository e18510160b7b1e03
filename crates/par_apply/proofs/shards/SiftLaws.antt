-- Changes without those that keep a row: what a look-up finds, and that they leave the same rows.
use Rattle.std.proofs.Common.{◌≡◌, ◌∙◌, ◌⊎◌, inl, inr, ℕ, Bool, true, false, cond, List, [], ◌∷◌, ◌++◌}
use Rattle.std.proofs.Common.{Option, Some, None, Result, Ok, refl, ap, sym, subst}
use Rattle.std.proofs.lemmas.List.{append-nil, append_assoc}
use Rattle.std.proofs.lemmas.Option.{none-some}
use Rattle.std.proofs.lemmas.Map.{lookup-none}
use Rattle.std.proofs.lemmas.Map.Entries.{none_past_head}
use Rattle.std.proofs.lemmas.Map.Keys.{IsDistinct-head, IsDistinct-tail, IsDistinct-cons}
use Rattle.std.specs.FinMap as map
use Rattle.std.specs.List.{AllByRecursion, IsDistinct}
use Rattle.std.specs.Map.{lookup, keys_of}
use Rattle.cs_model.specs.declared.row_key.RowKey.{RowKey}
use Rattle.cs_model.specs.declared.value.Value.{Value}
use Rattle.cs_apply.specs.declared.conflict.Conflict.{Conflict as Conflicts}
use Rattle.cs_apply.specs.State.{Rows}
use Rattle.cs_apply.proofs.rows_by_key.Keys.{same_key, exact, exact_keys, keys_total, laws}
use Rattle.par_apply.specs.RowChanges.{RowChanges, overlaid}
use Rattle.par_apply.specs.Splitting.{AreOfShard}
use Rattle.par_apply.specs.Workers.{AreShardChanges, Sifts}
use Rattle.par_apply.proofs.shards.GatheringLaws.{get_overlaid, row_over}

-- what is left for a key whose row was `old`
abbrev SiftedAt : Option (List Value) → Option (Option (List Value)) → Option (Option (List Value)) → Type 0
SiftedAt old None left = left ≡ None
SiftedAt old (Some row) left = ((old ≡ row) × (left ≡ None)) ⊎ ((old ≡ row → ⊥) × (left ≡ Some row))

module _ (rows : Rows) where
  sifted_kept : (q k : RowKey) (row : Option (List Value)) (b : Bool) → same_key q k ≡ b
      → (there left : Option (Option (List Value))) → (same_key q k ≡ true → there ≡ None) → map.get rows k ≡ row
      → SiftedAt (map.get rows q) there left → SiftedAt (map.get rows q) (cond b (Some row) there) left
  sifted_kept q k row false e there left none same h = h
  sifted_kept q k row true e there left none same h =
      inl (ap (map.get rows) (exact q k e) ∙ same, subst (λ t. SiftedAt (map.get rows q) t left) (none e) h)

  sifted_changed : (q k : RowKey) (row : Option (List Value)) (b : Bool) → same_key q k ≡ b
      → (there left : Option (Option (List Value))) → (map.get rows k ≡ row → ⊥)
      → SiftedAt (map.get rows q) there left
      → SiftedAt (map.get rows q) (cond b (Some row) there) (cond b (Some row) left)
  sifted_changed q k row false e there left apart h = h
  sifted_changed q k row true e there left apart h =
      inr ((λ same. apart (sym (ap (map.get rows) (exact q k e)) ∙ same)), refl)

  sifted_at : (es cs : RowChanges) (q : RowKey) → IsDistinct same_key (keys_of es) → Sifts rows es cs
      → SiftedAt (map.get rows q) (lookup (same_key q) es) (lookup (same_key q) cs)
  sifted_at [] cs q one h = ap (lookup (same_key q)) h
  sifted_at (e ∷ es) cs q one h =
      by h (λ left s. sifted_at es left q (IsDistinct-tail same_key e.0 (keys_of es) one) s)
    where
      by : Sifts rows (e ∷ es) cs
          → ((left : RowChanges) → Sifts rows es left
          → SiftedAt (map.get rows q) (lookup (same_key q) es) (lookup (same_key q) left))
          → SiftedAt (map.get rows q) (lookup (same_key q) (e ∷ es)) (lookup (same_key q) cs)
      by (inl (same, s)) more =
          sifted_kept q e.0 e.1 (same_key q e.0) refl (lookup (same_key q) es) (lookup (same_key q) cs)
          (λ here. lookup-none (same_key q) es (none_past_head laws q e es one here)) same (more cs s)
      by (inr (apart, rest, is, s)) more =
          subst (λ (l : RowChanges). SiftedAt (map.get rows q) (lookup (same_key q) (e ∷ es)) (lookup (same_key q) l))
          (sym is)
          (sifted_changed q e.0 e.1 (same_key q e.0) refl (lookup (same_key q) es) (lookup (same_key q) rest) apart
          (more rest s))

  -- ---- what follows at a key

  same_over : (old : Option (List Value)) (there left : Option (Option (List Value))) → SiftedAt old there left
      → row_over there old ≡ row_over left old
  same_over old None left none = ap (λ o. row_over o old) (sym none)
  same_over old (Some row) left (inl (same, none)) = sym same ∙ ap (λ o. row_over o old) (sym none)
  same_over old (Some row) left (inr (apart, is)) = ap (λ o. row_over o old) (sym is)

  real_at : (old : Option (List Value)) (there left : Option (Option (List Value))) → SiftedAt old there left
      → (row : Option (List Value)) → left ≡ Some row → old ≡ row → ⊥
  real_at old None left none row found same = none-some row (sym none ∙ found)
  real_at old (Some own) left (inl (kept, none)) row found same = none-some row (sym none ∙ found)
  real_at old (Some own) left (inr (apart, is)) row found same =
      let both : Some own ≡ Some row = sym is ∙ found in
      let equal : own ≡ row = cc in apart (same ∙ sym equal)

  -- a change that is left was there
  was_there : (old : Option (List Value)) (there left : Option (Option (List Value))) → SiftedAt old there left
      → (row : Option (List Value)) → left ≡ Some row → there ≡ Some row
  was_there old None left none row found = absurd (none-some row (sym none ∙ found))
  was_there old (Some own) left (inl (kept, none)) row found = absurd (none-some row (sym none ∙ found))
  was_there old (Some own) left (inr (apart, is)) row found = sym is ∙ found

  -- ---- no two keys are the same

  all_apart : (k : RowKey) (es cs : RowChanges) → Sifts rows es cs
      → AllByRecursion (λ y. same_key k y ≡ false) (keys_of es)
      → AllByRecursion (λ y. same_key k y ≡ false) (keys_of cs)
  all_apart k [] cs h apart =
      subst (λ (l : RowChanges). AllByRecursion (λ y. same_key k y ≡ false) (keys_of l)) (sym h) tt
  all_apart k (e ∷ es) cs h apart = by h (λ left s. all_apart k es left s apart.1)
    where
      by : Sifts rows (e ∷ es) cs
          → ((left : RowChanges) → Sifts rows es left → AllByRecursion (λ y. same_key k y ≡ false) (keys_of left))
          → AllByRecursion (λ y. same_key k y ≡ false) (keys_of cs)
      by (inl (same, s)) more = more cs s
      by (inr (real, rest, is, s)) more =
          subst (λ (l : RowChanges). AllByRecursion (λ y. same_key k y ≡ false) (keys_of l)) (sym is)
          (apart.0, more rest s)

  pub sifted_distinct : (es cs : RowChanges) → Sifts rows es cs → IsDistinct same_key (keys_of es)
      → IsDistinct same_key (keys_of cs)
  sifted_distinct [] cs h one = subst (λ (l : RowChanges). IsDistinct same_key (keys_of l)) (sym h) one
  sifted_distinct (e ∷ es) cs h one =
      by h (λ left s. sifted_distinct es left s (IsDistinct-tail same_key e.0 (keys_of es) one))
    where
      by : Sifts rows (e ∷ es) cs
          → ((left : RowChanges) → Sifts rows es left → IsDistinct same_key (keys_of left))
          → IsDistinct same_key (keys_of cs)
      by (inl (same, s)) more = more cs s
      by (inr (real, rest, is, s)) more =
          subst (λ (l : RowChanges). IsDistinct same_key (keys_of l)) (sym is)
          (IsDistinct-cons same_key e.0 (keys_of rest)
          (all_apart e.0 es rest s (IsDistinct-head same_key e.0 (keys_of es) one)) (more rest s))

  -- ---- all of it

  pub sifted_part : (shard : RowKey → ℕ) (i : ℕ) (es cs : RowChanges) (answer : Result Rows Conflicts)
      → answer ≡ Ok (overlaid rows es) → AreOfShard shard i es → IsDistinct same_key (keys_of es) → Sifts rows es cs
      → AreShardChanges shard i rows cs answer
  sifted_part shard i es cs answer done own one s = record {
    applied = done ∙ ap (λ (r : Rows). Ok r)
        (map.same_map keys_total exact_keys (overlaid rows es) (overlaid rows cs) (λ q.
        get_overlaid rows es q
        ∙ same_over (map.get rows q) (lookup (same_key q) es) (lookup (same_key q) cs) (sifted_at es cs q one s)
        ∙ sym (get_overlaid rows cs q)));
    own = λ q row found. own q row
        (was_there (map.get rows q) (lookup (same_key q) es) (lookup (same_key q) cs) (sifted_at es cs q one s) row
        found);
    distinct = sifted_distinct es cs s one;
    real = λ q row found same.
        real_at (map.get rows q) (lookup (same_key q) es) (lookup (same_key q) cs) (sifted_at es cs q one s) row found
        same;
  }

-- ---- a loop: whatever the rest leaves, all leave with what is left so far in front

abbrev pub SiftsOn : Rows → RowChanges → RowChanges → RowChanges → Type 0
SiftsOn rows all left rest = (more : RowChanges) → Sifts rows rest more → Sifts rows all (left ++ more)

pub sifts_all : (rows : Rows) (all : RowChanges) → SiftsOn rows all [] all
sifts_all rows all more s = s

pub sifts_kept : (rows : Rows) (all left rest next : RowChanges) (key : RowKey) (row : Option (List Value))
    → rest ≡ (key, row) ∷ next → map.get rows key ≡ row → SiftsOn rows all left rest → SiftsOn rows all left next
sifts_kept rows all left rest next key row is same on more s =
    on more (subst (λ (l : RowChanges). Sifts rows l more) (sym is) (inl (same, s)))

pub sifts_changed : (rows : Rows) (all left longer rest next : RowChanges) (key : RowKey) (row : Option (List Value))
    → rest ≡ (key, row) ∷ next → longer ≡ left ++ (key, row) ∷ [] → (map.get rows key ≡ row → ⊥)
    → SiftsOn rows all left rest → SiftsOn rows all longer next
sifts_changed rows all left longer rest next key row is more_is apart on more s =
    subst (Sifts rows all) (append_assoc' ∙ ap (λ (l : RowChanges). l ++ more) (sym more_is))
    (on ((key, row) ∷ more) (subst (λ (l : RowChanges). Sifts rows l ((key, row) ∷ more)) (sym is)
    (inr (apart, more, refl, s))))
  where
    append_assoc' : left ++ (key, row) ∷ more ≡ (left ++ (key, row) ∷ []) ++ more
    append_assoc' = sym (append_assoc left ((key, row) ∷ []) more)

pub sifts_end : (rows : Rows) (all left rest : RowChanges) → rest ≡ [] → SiftsOn rows all left rest
    → Sifts rows all left
sifts_end rows all left rest is on =
    subst (Sifts rows all) (append-nil left) (on [] (subst (λ (l : RowChanges). Sifts rows l []) (sym is) refl))
