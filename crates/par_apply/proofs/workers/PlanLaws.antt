-- What a plan is, from what the workers answer.
use Rattle.std.proofs.Common.{◌≡◌, ◌∙◌, ◌⊎◌, ◌<◌, ◌+◌, ℕ, Bool, true, false, cond, List, [], ◌∷◌, length}
use Rattle.std.proofs.Common.{Option, Some, None, Result, Ok, Err, IfOk, IfErr, IfSome}
use Rattle.std.proofs.Common.{slice_index_or, refl, ap, sym, subst}
use Rattle.std.proofs.lemmas.Nat.{mod_below}
use Rattle.std.proofs.lemmas.Option.{none-some}
use Rattle.std.proofs.lemmas.Map.{lookup-none}
use Rattle.std.proofs.lemmas.Map.Entries.{none_past_head}
use Rattle.std.proofs.lemmas.Map.Keys.{IsDistinct-tail}
use Rattle.std.specs.Bool.{Decides}
use Rattle.std.specs.Prelude.{sum}
use Rattle.std.specs.FinMap as map
use Rattle.std.specs.List.{IsDistinct}
use Rattle.std.specs.Map.{lookup, keys_of}
use Rattle.cs_model.specs.declared.row_key.RowKey.{RowKey}
use Rattle.cs_model.specs.declared.value.Value.{Value}
use Rattle.cs_model.specs.Section.{Section}
use Rattle.cs_apply.specs.declared.conflict.ApplyError.{ApplyError}
use Rattle.cs_apply.specs.declared.conflict.ApplyError.TheVariants.{Conflict, Memory}
use Rattle.cs_apply.specs.declared.conflict.Conflict.{Conflict as Conflicts}
use Rattle.cs_apply.specs.Changed.{IsChanged, row_after_change}
use Rattle.cs_apply.specs.Columns.{HaveColumns, table_flags}
use Rattle.cs_apply.specs.Errors.{ReportsConflict}
use Rattle.cs_apply.specs.Single.{changes_of, single, single_from, with_rows}
use Rattle.cs_apply.specs.State.{Rows, TableState}
use Rattle.cs_apply.proofs.rows_by_key.Keys.{same_key, exact_keys, keys_total, laws}
use Rattle.par_apply.specs.declared.planned.RowPlan.{RowPlan}
use Rattle.par_apply.specs.Durable.{changed_tables}
use Rattle.par_apply.specs.Parts.{applied_part}
use Rattle.par_apply.specs.Planned.{IsPlanOf, RowsFit, planned_changes}
use Rattle.par_apply.specs.RowChanges.{IsRowChange, RowChanges, overlaid}
use Rattle.par_apply.specs.Shards.{of_shard, shard_number}
use Rattle.par_apply.specs.Splitting.{SplitsInto}
use Rattle.par_apply.specs.Workers.{AreReal, ReportsPart, WorkerAnswer, changes_answered, first_error_from}
use Rattle.par_apply.proofs.workers.AnswerLaws.{AllPlanned, all_planned, all_refused, answered_joined}
use Rattle.par_apply.proofs.shards.GatheringLaws.{get_overlaid, row_over}
use Rattle.par_apply.proofs.shards.SplittingLaws.{splits}

-- changes that make a difference are those between the rows and the rows that they leave
real_changes : (rows : Rows) (changes : RowChanges) → AreReal rows changes → (key : RowKey)
    → IsRowChange (map.get rows key) (map.get (overlaid rows changes) key) (lookup (same_key key) changes)
real_changes rows changes real key =
    subst (λ (new : Option (List Value)). IsRowChange (map.get rows key) new (lookup (same_key key) changes))
    (sym (get_overlaid rows changes key)) (by (lookup (same_key key) changes) (real key))
  where
    by : (found : Option (Option (List Value)))
        → ((row : Option (List Value)) → found ≡ Some row → map.get rows key ≡ row → ⊥)
        → IsRowChange (map.get rows key) (row_over found (map.get rows key)) found
    by None apart = refl
    by (Some row) apart = (refl, apart row refl)

-- each change's row fits, if the rows that they leave do
planned_fit : (tables : TableState) (changes : RowChanges) → IsDistinct same_key (keys_of changes)
    → ((key : RowKey) (row : List Value) → lookup (same_key key) changes ≡ Some (Some row)
    → length row ≡ length (table_flags tables.schema key.table)) → RowsFit tables changes
planned_fit tables [] one fit = tt
planned_fit tables ((key, row) ∷ changes) one fit = (
  here row (λ values is. fit key values
      (ap (λ b. cond b (Some row) (lookup (same_key key) changes)) (laws.refl key)
      ∙ ap (λ (r : Option (List Value)). Some r) is)),
  planned_fit tables changes (IsDistinct-tail same_key key (keys_of changes) one)
      (λ q values found. fit q values (later q (same_key q key) refl (Some values) found)),
)
  where
    here : (r : Option (List Value))
        → ((values : List Value) → r ≡ Some values → length values ≡ length (table_flags tables.schema key.table))
        → IfSome r (λ values. length values ≡ length (table_flags tables.schema key.table))
    here None h = tt
    here (Some values) h = h values refl

    later : (q : RowKey) (b : Bool) → same_key q key ≡ b → (there : Option (List Value))
        → lookup (same_key q) changes ≡ Some there → cond b (Some row) (lookup (same_key q) changes) ≡ Some there
    later q true same there found =
        absurd (none-some there
        (sym (lookup-none (same_key q) changes (none_past_head laws q (key, row) changes one same))
        ∙ found))
    later q false same there found = found

module _ (old : TableState) (sections : List Section) (n : ℕ) (some : 0 < n) where
  abbrev pub EachPart : List WorkerAnswer → Type 0
  EachPart rs = (i : ℕ) (d : WorkerAnswer) → i < n
      → ReportsPart (shard_number n) i old.rows (slice_index_or rs i d)
      (applied_part old (of_shard (shard_number n) i) sections)

  abbrev all : Result Rows Conflicts
  all = single_from old.schema old.kept (changes_of sections) 0 old.rows

  law : SplitsInto (shard_number n) (λ i. applied_part old (of_shard (shard_number n) i) sections) all
  law = splits (shard_number n) old.schema old.kept (changes_of sections) 0 old.rows (λ i. old.rows) (λ key. refl)

  below : (key : RowKey) → shard_number n key < n
  below key = mod_below (sum key.bytes + key.table) n some

  abbrev KeepsColumns : Type 0
  KeepsColumns = (new : TableState) → HaveColumns old → single old sections ≡ Ok new → HaveColumns new

  is_plan : KeepsColumns → HaveColumns old → (changes : RowChanges)
      → AllPlanned (shard_number n) (λ i. applied_part old (of_shard (shard_number n) i) sections) all old.rows n law
      below
      changes → IsPlanOf old sections changes
  is_plan keeps have changes planned =
      let applied : single old sections ≡ Ok (record old { rows = overlaid old.rows changes }) =
      ap (with_rows old) planned.applied in
      let left = keeps (record old { rows = overlaid old.rows changes }) have applied in record {
        after = overlaid old.rows changes;
        applied = applied;
        changed = (planned.distinct, real_changes old.rows changes planned.real);
        fit = planned_fit old changes planned.distinct (λ key row found. left key row
            (get_overlaid old.rows changes key ∙ ap (λ o. row_over o (map.get old.rows key)) found));
      }

  pub plan_ok : KeepsColumns → HaveColumns old → (rs : List WorkerAnswer) (r : Result RowPlan ApplyError)
      → length rs ≡ n → EachPart rs
      → IfOk r (λ plan. (first_error_from None rs ≡ None) × (planned_changes plan ≡ changes_answered rs))
      → IfOk r (λ plan. IsPlanOf old sections (planned_changes plan))
  plan_ok keeps have rs (Ok plan) long each (ok, is) =
      subst (λ (changes : RowChanges). IsPlanOf old sections changes) (sym (is ∙ answered_joined rs))
      (is_plan keeps have _ (all_planned (shard_number n)
      (λ i. applied_part old (of_shard (shard_number n) i) sections) all old.rows n law below rs long each ok))
  plan_ok keeps have rs (Err e) long each is = tt

  -- the changes of all workers, if none of them refused, are each of another key
  pub answers_distinct : (rs : List WorkerAnswer) → length rs ≡ n → EachPart rs → first_error_from None rs ≡ None
      → IsDistinct same_key (keys_of (changes_answered rs))
  answers_distinct rs long each ok =
      subst (λ (changes : RowChanges). IsDistinct same_key (keys_of changes)) (sym (answered_joined rs))
      (all_planned (shard_number n) (λ i. applied_part old (of_shard (shard_number n) i) sections) all old.rows n law
      below rs long each ok).distinct

  reports_all : (e : ApplyError) → ReportsConflict e all → ReportsConflict e (single old sections)
  reports_all Memory h = tt
  reports_all (Conflict c) h = ap (with_rows old) h

  pub plan_refused : (rs : List WorkerAnswer) (r : Result RowPlan ApplyError) → length rs ≡ n → EachPart rs
      → IfErr r (λ e. (e ≡ Memory) ⊎ (first_error_from None rs ≡ Some e))
      → IfErr r (λ e. ReportsConflict e (single old sections))
  plan_refused rs (Ok plan) long each is = tt
  plan_refused rs (Err e) long each is =
      reports_all e (all_refused (shard_number n) (λ i. applied_part old (of_shard (shard_number n) i) sections) all
      old.rows n law below rs e long each is)

-- ---- the rows that a plan leaves

plan_at : (old new : Option (List Value)) (found : Option (Option (List Value))) → IsRowChange old new found
    → new ≡ row_over found old
plan_at old new None same = sym same
plan_at old new (Some row) (is, apart) = sym is

pub plan_leaves : (tables : TableState) (sections : List Section) (changes : RowChanges)
    → IsPlanOf tables sections changes
    → single tables sections ≡ Ok (record tables { rows = overlaid tables.rows changes })
plan_leaves tables sections changes plan =
    plan.applied ∙ ap (λ (r : Rows). Ok (record tables { rows = r }))
    (map.same_map keys_total exact_keys plan.after (overlaid tables.rows changes) (λ q.
    plan_at (map.get tables.rows q) (map.get plan.after q) (lookup (same_key q) changes) (plan.changed.1 q)
    ∙ sym (get_overlaid tables.rows changes q)))

-- the tables once a plan is staged and committed
pub plan_done : (tables staged done : TableState) (sections : List Section) (changes made : RowChanges)
    → IsPlanOf tables sections changes → done ≡ record staged { rows = overlaid staged.rows made }
    → made ≡ changes → staged ≡ tables → single tables sections ≡ Ok done
plan_done tables staged done sections changes made plan is same_changes same =
    plan_leaves tables sections changes plan
    ∙ sym (ap (λ (t : TableState). Ok t)
    (is ∙ (λ i. record (same i) { rows = overlaid (same i).rows (same_changes i) })))

-- ---- tables compared with those that changes leave

after_over : (change : Option (Option (List Value))) (old : Option (List Value))
    → row_after_change change old ≡ row_over change old
after_over None old = refl
after_over (Some row) old = refl

changed_at : (rows : Rows) (changes : RowChanges) (q : RowKey)
    → row_after_change (lookup (same_key q) changes) (map.get rows q) ≡ map.get (overlaid rows changes) q
changed_at rows changes q = after_over (lookup (same_key q) changes) (map.get rows q) ∙ sym (get_overlaid rows changes q)

-- key by key they are the tables that the changes leave exactly if they are these tables
pub leads_decide : (before after : TableState) (changes : RowChanges) (value : Bool)
    → Decides value (IsChanged before changes after) → Decides value (after ≡ changed_tables before changes)
leads_decide before after changes value says = (
  λ v. joined (says.0 v),
  λ same. says.1 (
    (ap (λ (t : TableState). t.schema) (sym same), ap (λ (t : TableState). t.kept) (sym same)),
    λ q. ap (λ (t : TableState). map.get t.rows q) same ∙ sym (changed_at before.rows changes q),
  ),
)
  where
    joined : IsChanged before changes after → after ≡ changed_tables before changes
    joined is =
        let rows = map.same_map keys_total exact_keys after.rows (overlaid before.rows changes)
        (λ q. is.1 q ∙ changed_at before.rows changes q) in
        λ i. record { schema = sym is.0.0 i; kept = sym is.0.1 i; rows = rows i }
