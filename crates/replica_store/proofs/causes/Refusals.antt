-- Why a change of a replica's tables stops: no rule refuses it.
use Rattle.std.proofs.Common.{◌≡◌, ◌⊎◌, inl, inr, ℕ, zero, suc, Bool, true, false}
use Rattle.std.proofs.Common.{List, [], ◌∷◌, length, Option, Some, None, option_map, Ok, Err, IsSome, Any}
use Rattle.std.proofs.Common.{refl, ap, ◌∙◌, arith, length-append}
use Rattle.std.specs.List.{list_all}
use Rattle.std.proofs.lemmas.Bool.{both_ways}
use Rattle.sqlite_schema.specs.declared.schema.Constraint.TheVariants.{Datatype, NotNull, Check, PrimaryKey, Unique}
use Rattle.sqlite_schema.specs.declared.schema.Constraint.TheVariants.{ForeignKey}
use Rattle.sqlite_schema.specs.declared.schema.Keys.TheVariants.{Enforced}
use Rattle.sqlite_schema.specs.declared.schema.Among.TheVariants.{All}
use Rattle.sqlite_schema.specs.declared.program.Program.{Program}
use Rattle.sqlite_schema.specs.Rules.{passes, Keeps, Refers}
use Rattle.sqlite_rules.specs.declared.error.Refusal.{Refusal}
use Rattle.sqlite_rules.specs.declared.error.Refusal.TheVariants.{Violates, Mismatch, NoRowid, BadReference, TooDeep}
use Rattle.sqlite_rules.specs.Action.{works, Leads, Writes}
use Rattle.sqlite_rules.specs.Lists.{Has}
use Rattle.sqlite_rules.specs.Edit.{IsOversized, IsRefused, is_referred, left_by, taken_by, have_rowids}
use Rattle.sqlite_rules.proofs.ListLemmas.{all_from}
use Rattle.sqlite_sql.specs.Ops.{fits_i64}
use Rattle.sqlite_trees.specs.Tree.{with_tree, rowid}
use Rattle.sqlite.specs.Command.{Command}
use Rattle.sqlite.specs.Does.{OnRows, WritesRows}
use Rattle.sqlite.specs.Edit.{Edit, are_fresh, edited, id_in}
use Rattle.sqlite.specs.Effect.{Database, RefusesQuery, edit_error}
use Rattle.sqlite.specs.Order.{Row}
use Rattle.sqlite.specs.Rows.{Edited, Gives, Queried, Then, Written}
use Rattle.sqlite.specs.State.{State, mode_of}
use Rattle.sqlite.specs.Table.{Table}
use Rattle.sqlite.specs.Tree.{Trees}
use Rattle.sqlite.specs.declared.error.Error.{Error}
use Rattle.replica_store.specs.Layout.{replica_schema}
use Rattle.replica_store.proofs.causes.Stops.{stopped_or}
use Rattle.replica_store.proofs.statements.Inserts.{task_of}

-- ---- an edit

-- each rule holds of the edit, but for the one on rowids
pub record PassesRules (db : Trees) (edit : Edit) : Type 0 where
  pub typed : list_all (passes Datatype replica_schema db edit.table) edit.news ≡ true
  pub present : list_all (passes NotNull replica_schema db edit.table) edit.news ≡ true
  pub checked : list_all (passes Check replica_schema db edit.table) edit.news ≡ true
  pub fresh : are_fresh (left_by db edit) edit.news ≡ true
  pub unique : Keeps Unique replica_schema (with_tree db edit.table.tree (edited db edit))
  pub keyed : have_rowids edit.news ≡ true
  pub referred : is_referred replica_schema Enforced edit ≡ true

-- no rowid of a new row is too far for 64 bits
abbrev pub have_near_ids : List Row → Bool
have_near_ids = list_all (λ r. fits_i64 (id_in (rowid r)))

pub refused_for_ids : (db : Trees) (edit : Edit) (why : Refusal) → PassesRules db edit
    → IsRefused replica_schema Enforced db edit why → have_near_ids edit.news ≡ false
refused_for_ids db edit (Violates Datatype) p h = absurd (both_ways _ h p.typed)
refused_for_ids db edit (Violates NotNull) p h = absurd (both_ways _ h p.present)
refused_for_ids db edit (Violates Check) p h = absurd (both_ways _ h p.checked)
refused_for_ids db edit (Violates PrimaryKey) p h = absurd (both_ways _ h p.fresh)
refused_for_ids db edit (Violates Unique) p h = absurd (h p.unique)
refused_for_ids db edit (Violates ForeignKey) p h = absurd h
refused_for_ids db edit Mismatch p h = absurd (both_ways _ h p.keyed)
refused_for_ids db edit NoRowid p h = h
refused_for_ids db edit BadReference p h = absurd (both_ways _ h p.referred)
refused_for_ids db edit TooDeep p h = absurd h

-- a rule refuses the edit, or one of its rows can't be stored
abbrev pub EditStops : Trees → Edit → Option Error → Type 0
EditStops db edit stop =
    ((why : Refusal) × IsRefused replica_schema Enforced db edit why × (stop ≡ Some (edit_error why)))
    ⊎ ((row : Row) × Has edit.news row × IsOversized replica_schema edit.table row × (stop ≡ None))

pub edit_stopped : (db : Trees) (edit : Edit) (stop : Option Error)
    → works replica_schema Enforced 0 edit.table.tree (taken_by db edit) edit.news ≡ []
    → Edited replica_schema Enforced db edit (Err stop) → EditStops db edit stop
edit_stopped db edit stop none h = by h.0 h.1 h.2
  where
    never : (why : Option Refusal) (next : Trees) (n : ℕ) → Leads replica_schema Enforced n next [] (Err why) → ⊥
    never why next zero h = let e = h.1 in cc
    never why next (suc n) h = omega (arith, ap length h.2, length-append h.0 (h.1 ∷ []))

    by : (why : Option Refusal) → Writes replica_schema Enforced db edit (Err why)
        → stop ≡ option_map edit_error why → EditStops db edit stop
    by why (inl refused) is =
        let same : why ≡ Some refused.0 = let e = refused.2 in cc in
        inl (refused.0, refused.1, is ∙ ap (option_map edit_error) same)
    by why (inr (inl big)) is =
        let same : why ≡ None = let e = big.3 in cc in
        inr (big.0, big.1, big.2, is ∙ ap (option_map edit_error) same)
    by why (inr (inr went)) is = absurd (never why went.0 went.2.0 (rw none at went.2.1))

-- ---- a query, and an edit by its rows

-- the query is refused without a limit on steps
abbrev pub IsBadQuery : Database → Program → Row → Type 0
IsBadQuery d q params = (e : Error) × RefusesQuery None d q params e

pub query_refused : (limit : Option ℕ) (d : Database) (q : Program) (params : Row) (e : Error)
    → (IsBadQuery d q params → ⊥) → RefusesQuery limit d q params e → IsSome limit
query_refused limit d q params e good (inl wrong) = absurd (good (e, inl wrong))
query_refused limit d q params e good (inr (inl over)) = absurd (good (e, inr (inl over)))
query_refused limit d q params e good (inr (inr steps)) = steps.1

pub query_stopped : (limit : Option ℕ) (d : Database) (q : Program) (params : Row) (stop : Option Error)
    → (IsBadQuery d q params → ⊥) → Queried limit d q params (Err stop) → IsSome limit
query_stopped limit d q params None good h = absurd h
query_stopped limit d q params (Some e) good h = query_refused limit d q params e good h

pub none_overflows : (rows : List Row) → Any (λ (r : Row). ⊥) rows → ⊥
none_overflows rows h = h.4

-- the steps are used up, or the edit by the rows of the query stops
pub write_stopped : (limit : Option ℕ) (d : Database) (q : Program) (params : Row) (edit : List Row → Edit)
    (done : List Row → Trees → Written) (stop : Option Error)
    → (IsBadQuery d q params → ⊥)
    → ((rows : List Row) → works replica_schema Enforced 0 (edit rows).table.tree (taken_by d.trees (edit rows))
    (edit rows).news ≡ [])
    → Then (Queried limit d q params)
    (λ rows. Then (Edited replica_schema Enforced d.trees (edit rows)) (λ next. Gives (done rows next))) (Err stop)
    → IsSome limit ⊎ ((rows : List Row) × Queried limit d q params (Ok rows) × EditStops d.trees (edit rows) stop)
write_stopped limit d q params edit done stop good none h = elim (stopped_or h) [
  | inl query ↦ inl (query_stopped limit d q params stop good query)
  | inr found ↦ elim (stopped_or found.2) [
    | inl write ↦ inr (found.0, found.1, edit_stopped d.trees (edit found.0) stop (none found.0) write)
    | inr gives ↦ absurd (let e = gives.2 in cc)
  ]
]

-- ---- what comes after the rows are written

refers_none : (db : Trees) → Refers All replica_schema db
refers_none db = (all_from _ (db 0) (λ r there. refl), (all_from _ (db 2) (λ r there. refl), tt))

-- once its rows are written, a statement does not stop
pub rows_stopped : (old : State) (table : Table) (params : Row) (command : Command) (db : Trees) (stop : Option Error)
    → OnRows (task_of old table params) (mode_of old) None command db (Err stop)
    → WritesRows (task_of old table params) db command (Err stop)
rows_stopped old table params command db stop h = elim (stopped_or h) [
  | inl write ↦ write
  | inr wrote ↦ elim (stopped_or wrote.2) [
    | inl tested ↦ absurd (tested.0 (refers_none wrote.0.trees))
    | inr passed ↦ elim (stopped_or passed.2) [
      | inl returns ↦ absurd (let e = returns in cc)
      | inr gives ↦ absurd (let e = gives.2 in cc)
    ]
  ]
]
