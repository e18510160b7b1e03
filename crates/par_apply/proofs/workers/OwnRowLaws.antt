-- A worker's changes so far over the rows: one more, and what it conflicts with.
use Rattle.std.proofs.Common.{◌≡◌, ◌∙◌, Bool, true, false, cond, List, ℕ, Option, Some, Ok, refl, ap, sym}
use Rattle.std.specs.FinMap as map
use Rattle.std.specs.Map.{lookup}
use Rattle.cs_model.specs.declared.change.Change.{Change}
use Rattle.cs_model.specs.declared.row_key.RowKey.{RowKey}
use Rattle.cs_model.specs.declared.value.Value.{Value}
use Rattle.cs_apply.specs.declared.change_error.ChangeError.{ChangeError}
use Rattle.cs_apply.specs.declared.change_error.ChangeError.TheVariants as error
use Rattle.cs_apply.specs.Effect.{effect_by}
use Rattle.cs_apply.specs.Errors.{ReportsKind}
use Rattle.cs_apply.specs.RowAfter.{row_after}
use Rattle.cs_apply.specs.SameKey.{IsEditAt}
use Rattle.cs_apply.specs.State.{Rows}
use Rattle.cs_apply.specs.Steps.{put}
use Rattle.cs_apply.proofs.stored.Filled.{get_put}
use Rattle.cs_apply.proofs.rows_by_key.Keys.{same_key, exact, exact_keys, keys_total, laws}
use Rattle.cs_apply.proofs.effects.RowEffect.{effect_is, put_or_kind}
use Rattle.par_apply.specs.RowChanges.{RowChanges, overlaid}
use Rattle.par_apply.specs.Splitting.{AreOfShard}
use Rattle.par_apply.proofs.shards.GatheringLaws.{get_overlaid, row_over}

pub overlaid_edit : (rows : Rows) (es fs : RowChanges) (key : RowKey) (row : Option (List Value))
    → IsEditAt es fs key (Some row) → overlaid rows fs ≡ put (overlaid rows es) key row
overlaid_edit rows es fs key row edit =
    map.same_map keys_total exact_keys (overlaid rows fs) (put (overlaid rows es) key row)
    (λ q.
    get_overlaid rows fs q ∙ ap (λ o. row_over o (map.get rows q)) (edit q) ∙ by q (same_key key q)
    ∙ ap (λ b. cond b row (map.get (overlaid rows es) q)) (laws.symm key q)
    ∙ sym (get_put (overlaid rows es) key q row))
  where
    by : (q : RowKey) (b : Bool) → row_over (cond b (Some row) (lookup (same_key q) es)) (map.get rows q)
        ≡ cond b row (map.get (overlaid rows es) q)
    by q true = refl
    by q false = sym (get_overlaid rows es q)

-- a change that has its effect
pub own_row_changed : (rows : Rows) (es fs : RowChanges) (key : RowKey) (flags : List ℕ) (change : Change)
    (there row : Option (List Value)) → there ≡ map.get (overlaid rows es) key → row_after flags change there ≡ Ok row
    → IsEditAt es fs key (Some row)
    → effect_by change.op (overlaid rows es) key flags change.before change.after ≡ Ok (overlaid rows fs)
own_row_changed rows es fs key flags change there row is after edit =
    effect_is change.op (overlaid rows es) key flags change.before change.after
    ∙ ap (put_or_kind (overlaid rows es) key) (ap (row_after flags change) (sym is) ∙ after)
    ∙ ap (λ (r : Rows). Ok r) (sym (overlaid_edit rows es fs key row edit))

-- one that has none
pub own_row_refused : (rows : Rows) (es : RowChanges) (key : RowKey) (flags : List ℕ) (change : Change)
    (there : Option (List Value)) (e : ChangeError) → there ≡ map.get (overlaid rows es) key
    → ReportsKind e (row_after flags change there)
    → ReportsKind e (effect_by change.op (overlaid rows es) key flags change.before change.after)
own_row_refused rows es key flags change there error.Memory is stops = tt
own_row_refused rows es key flags change there (error.Conflict kind) is stops =
    effect_is change.op (overlaid rows es) key flags change.before change.after
    ∙ ap (put_or_kind (overlaid rows es) key) (ap (row_after flags change) (sym is) ∙ stops)

-- the keys are still of one shard
pub own_keys_edit : (es fs : RowChanges) (key : RowKey) (row : Option (List Value)) → IsEditAt es fs key (Some row)
    → (shard : RowKey → ℕ) (i : ℕ) → shard key ≡ i → AreOfShard shard i es → AreOfShard shard i fs
own_keys_edit es fs key row edit shard i mine own q there found = by (same_key key q) refl (sym (edit q) ∙ found)
  where
    by : (b : Bool) → same_key key q ≡ b → cond b (Some row) (lookup (same_key q) es) ≡ Some there → shard q ≡ i
    by true same e = ap shard (sym (exact key q same)) ∙ mine
    by false same e = own q there e
