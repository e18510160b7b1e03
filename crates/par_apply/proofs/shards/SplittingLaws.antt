-- The splitting law: one induction over the changes, with the shards' rows and the whole's side by side.
use Rattle.std.proofs.Common.{◌≡◌, ◌∙◌, ◌⊎◌, inl, inr, ◌<◌, ℕ, suc, Bool, true, false, cond, List, [], ◌∷◌}
use Rattle.std.proofs.Common.{Option, Some, None, Result, Ok, Err, refl, ap, sym, subst, arith}
use Rattle.std.proofs.lemmas.Bool.{false≢true}
use Rattle.std.proofs.lemmas.Bool.Decides.{Decides-eqb}
use Rattle.std.specs.FinMap as map
use Rattle.cs_model.specs.declared.change.Change.{Change}
use Rattle.cs_model.specs.declared.row_key.RowKey.{RowKey}
use Rattle.cs_model.specs.declared.shape.Shape.{Shape}
use Rattle.cs_model.specs.declared.value.Value.{Value}
use Rattle.cs_model.specs.Key.{key_of}
use Rattle.cs_apply.specs.declared.conflict.Conflict.{Conflict as Conflicts}
use Rattle.cs_apply.specs.declared.conflict.ConflictKind.{ConflictKind}
use Rattle.cs_apply.specs.Effect.{effect}
use Rattle.cs_apply.specs.RowAfter.{RowOrKind, row_after}
use Rattle.cs_apply.specs.Single.{effect_at, next_or_conflict, single_from}
use Rattle.cs_apply.specs.State.{Rows, compatible}
use Rattle.cs_apply.specs.Steps.{put}
use Rattle.cs_apply.proofs.stored.Filled.{get_put}
use Rattle.cs_apply.proofs.rows_by_key.Keys.{same_key, exact}
use Rattle.cs_apply.proofs.effects.RowEffect.{effect_is, put_or_kind}
use Rattle.par_apply.specs.Parts.{effect_if_taken, part_from}
use Rattle.par_apply.specs.Shards.{of_shard}
use Rattle.par_apply.specs.Splitting.{AreShardRows, SplitsInto}

abbrev RowsOrConflict : Type 0
RowsOrConflict = Result Rows Conflicts

-- ---- a conflict is not before the position where counting began

not_before_next : (rest : ℕ → Rows → RowsOrConflict) (at : ℕ) (r : Result Rows ConflictKind) (c : Conflicts)
    → ((rows : Rows) → rest (suc at) rows ≡ Err c → suc at < suc c.position) → next_or_conflict rest at r ≡ Err c
    → at < suc c.position
not_before_next rest at (Ok rows) c more e = let h = more rows e in omega arith
not_before_next rest at (Err kind) c more e =
    let same : record { position = at; kind = kind } ≡ c = cc e in
    let here : at ≡ c.position = ap (λ (d : Conflicts). d.position) same in omega arith

pub not_before : (schema : List Shape) (kept : List Bool) (takes : RowKey → Bool) (xs : List (Shape × Change)) (at : ℕ)
    (rows : Rows) (c : Conflicts) → part_from schema kept takes xs at rows ≡ Err c → at < suc c.position
unfolding part_from
not_before schema kept takes [] at rows c e = absurd cc
not_before schema kept takes (x ∷ xs) at rows c e =
    not_before_next (λ next after. part_from schema kept takes xs next after) at
    (effect_if_taken (compatible schema kept x.0) takes rows x.0 x.1) c
    (λ mid h. not_before schema kept takes xs (suc at) mid c h) e

module _ (shard : RowKey → ℕ) where
  -- ---- a row put at a key of one shard

  abbrev put_in_shard : RowKey → Option (List Value) → (ℕ → Rows) → ℕ → Rows
  put_in_shard own row parts i = cond (of_shard shard i own) (put (parts i) own row) (parts i)

  still_shard_rows : (own : RowKey) (row : Option (List Value)) (rows : Rows) (parts : ℕ → Rows)
      → AreShardRows shard parts rows → AreShardRows shard (put_in_shard own row parts) (put rows own row)
  still_shard_rows own row rows parts joined key =
      by (of_shard shard (shard key) own) refl ∙ sym (get_put rows own key row)
    where
      apart : (s : Bool) → same_key key own ≡ s → of_shard shard (shard key) own ≡ false
          → map.get rows key ≡ cond s row (map.get rows key)
      apart false e out = refl
      apart true e out = absurd (false≢true (sym out ∙ (Decides-eqb (shard own) (shard key)).1
          (ap shard (sym (exact key own e)))))

      by : (b : Bool) → of_shard shard (shard key) own ≡ b
          → map.get (cond b (put (parts (shard key)) own row) (parts (shard key))) key
          ≡ cond (same_key key own) row (map.get rows key)
      by true e = get_put (parts (shard key)) own key row ∙ ap (cond (same_key key own) row) (joined key)
      by false e = joined key ∙ apart (same_key key own) refl e

  -- ---- one change

  change_splits : (x : Shape × Change) (table at : ℕ) (rows : Rows) (parts : ℕ → Rows)
      (rest : ℕ → ℕ → Rows → RowsOrConflict) (whole : ℕ → Rows → RowsOrConflict) → AreShardRows shard parts rows
      → ((i : ℕ) (old : Rows) (c : Conflicts) → rest i (suc at) old ≡ Err c → suc at < suc c.position)
      → ((mid : Rows) (mids : ℕ → Rows) → AreShardRows shard mids mid
      → SplitsInto shard (λ i. rest i (suc at) (mids i)) (whole (suc at) mid))
      → SplitsInto shard
      (λ i. next_or_conflict (rest i) at (effect_if_taken (Some table) (of_shard shard i) (parts i) x.0 x.1))
      (next_or_conflict whole at (effect table x.0.flags rows x.1))
  change_splits x table at rows parts rest whole joined later more =
      subst (λ r. SplitsInto shard
      (λ i. next_or_conflict (rest i) at (effect_if_taken (Some table) (of_shard shard i) (parts i) x.0 x.1))
      (next_or_conflict whole at r)) (sym (effect_is x.1.op rows own x.0.flags x.1.before x.1.after))
      (by (row_after x.0.flags x.1 (map.get rows own)) refl)
    where
      own : RowKey
      own = key_of table x.0.flags x.1

      -- the key's own shard answers as all do
      here : (i : ℕ) (r : RowOrKind) → row_after x.0.flags x.1 (map.get rows own) ≡ r
          → of_shard shard i own ≡ true → effect table x.0.flags (parts i) x.1 ≡ put_or_kind (parts i) own r
      here i r is mine =
          let same : shard own ≡ i = (Decides-eqb (shard own) i).0 mine in
          effect_is x.1.op (parts i) own x.0.flags x.1.before x.1.after
          ∙ ap (put_or_kind (parts i) own) (ap (row_after x.0.flags x.1)
          (ap (λ j. map.get (parts j) own) (sym same) ∙ joined own) ∙ is)

      goes : (i : ℕ) (row : Option (List Value)) → row_after x.0.flags x.1 (map.get rows own) ≡ Ok row
          → (b : Bool) → of_shard shard i own ≡ b
          → next_or_conflict (rest i) at (cond b (effect table x.0.flags (parts i) x.1) (Ok (parts i)))
          ≡ rest i (suc at) (cond b (put (parts i) own row) (parts i))
      goes i row is true mine = ap (next_or_conflict (rest i) at) (here i (Ok row) is mine)
      goes i row is false mine = refl

      -- another shard's conflict comes later
      other : (i : ℕ) (kind : ConflictKind) (d : Conflicts)
          → row_after x.0.flags x.1 (map.get rows own) ≡ Err kind → (b : Bool) → of_shard shard i own ≡ b
          → next_or_conflict (rest i) at (cond b (effect table x.0.flags (parts i) x.1) (Ok (parts i))) ≡ Err d
          → (d ≡ record { position = at; kind = kind }) ⊎ (at < d.position)
      other i kind d is true mine e =
          let both : Err (record { position = at; kind = kind }) ≡ Err d =
          sym (ap (next_or_conflict (rest i) at) (here i (Err kind) is mine)) ∙ e in inl cc
      other i kind d is false mine e = let h = later i (parts i) d e in inr (omega arith)

      by : (r : RowOrKind) → row_after x.0.flags x.1 (map.get rows own) ≡ r
          → SplitsInto shard
          (λ i. next_or_conflict (rest i) at (effect_if_taken (Some table) (of_shard shard i) (parts i) x.0 x.1))
          (next_or_conflict whole at (put_or_kind rows own r))
      by (Ok row) is =
          subst (λ answers. SplitsInto shard answers (whole (suc at) (put rows own row)))
          (λ k i. sym (goes i row is (of_shard shard i own) refl) k)
          (more (put rows own row) (put_in_shard own row parts) (still_shard_rows own row rows parts joined))
      by (Err kind) is = (
        own,
        (let mine : of_shard shard (shard own) own ≡ true = (Decides-eqb (shard own) (shard own)).1 refl in
            ap (λ b. next_or_conflict (rest (shard own)) at
            (cond b (effect table x.0.flags (parts (shard own)) x.1) (Ok (parts (shard own))))) mine
            ∙ ap (next_or_conflict (rest (shard own)) at) (here (shard own) (Err kind) is mine)),
        λ i d e. other i kind d is (of_shard shard i own) refl e,
      )

  -- ---- all changes

  pub splits : (schema : List Shape) (kept : List Bool) (xs : List (Shape × Change)) (at : ℕ) (rows : Rows)
      (parts : ℕ → Rows) → AreShardRows shard parts rows
      → SplitsInto shard (λ i. part_from schema kept (of_shard shard i) xs at (parts i))
      (single_from schema kept xs at rows)
  unfolding part_from single_from
  splits schema kept [] at rows parts joined = (parts, λ i. refl, joined)
  splits schema kept (x ∷ xs) at rows parts joined =
      by (compatible schema kept x.0) (λ mid mids j. splits schema kept xs (suc at) mid mids j)
    where
      by : (o : Option ℕ)
          → ((mid : Rows) (mids : ℕ → Rows) → AreShardRows shard mids mid
          → SplitsInto shard (λ i. part_from schema kept (of_shard shard i) xs (suc at) (mids i))
          (single_from schema kept xs (suc at) mid))
          → SplitsInto shard
          (λ i. next_or_conflict (λ next after. part_from schema kept (of_shard shard i) xs next after) at
          (effect_if_taken o (of_shard shard i) (parts i) x.0 x.1))
          (next_or_conflict (λ next after. single_from schema kept xs next after) at (effect_at o rows x.0 x.1))
      by None more = more rows parts joined
      by (Some table) more = change_splits x table at rows parts
          (λ i next after. part_from schema kept (of_shard shard i) xs next after)
          (λ next after. single_from schema kept xs next after) joined
          (λ i old c e. not_before schema kept (of_shard shard i) xs (suc at) old c e) more
