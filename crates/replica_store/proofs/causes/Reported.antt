-- The cause of an error that a replica reports as `Store`, for each statement and each call.
use Rattle.std.proofs.Common.{◌≡◌, ◌⊎◌, inl, inr, ℕ, ◌+◌, ◌<◌, pos, true, false, List, [], ◌∷◌, length, Option, Some}
use Rattle.std.proofs.Common.{None}
use Rattle.std.proofs.Common.{Ok, Err, Result, IfErr, IsErrAnd, IsSome, IsTrue, true≢false, refl, sym, ap, subst, ◌∙◌}
use Rattle.std.proofs.Common.{arith}
use Rattle.std.proofs.lemmas.Result.{err_from_is_err_and}
use Rattle.sqlite_value.specs.declared.value.Value.TheVariants.{Int}
use Rattle.sqlite_schema.specs.declared.schema.Schema.{Schema}
use Rattle.sqlite_rules.specs.Lists.{Has}
use Rattle.sqlite_sql.specs.Term.{Term}
use Rattle.sqlite_tied.specs.Compute.{everything}
use Rattle.sqlite.specs.Command.{Command}
use Rattle.sqlite.specs.Command.TheVariants.{CreateTable, Delete, Insert, Update}
use Rattle.sqlite.specs.Disk.{MoreFaults}
use Rattle.sqlite.specs.Does.{Does}
use Rattle.sqlite.specs.Effect.{Database, RefusesToRead}
use Rattle.sqlite.specs.Listing.{IsSourceOf, reads_listing, understood}
use Rattle.sqlite.specs.Order.{Row}
use Rattle.sqlite.specs.Source.TheVariants.{Values}
use Rattle.sqlite.specs.State.{ExecutesInside, Fails, FailsToQuery, HasCleanDisk, IsNotRun, State, Survives, mode_of}
use Rattle.sqlite.specs.Steps.{FailsToCommit}
use Rattle.sqlite.specs.Tree.{Trees}
use Rattle.sqlite.specs.declared.error.Error.{Error}
use Rattle.sqlite.proofs.Callers.{IsPlain, command_of, statement_of}
use Rattle.cs_model.specs.declared.row_key.RowKey.{RowKey}
use Rattle.cs_model.specs.declared.value.Value.{Value}
use Rattle.replica_store.specs.Causes.{CannotCommit, CannotMake, ErrorHasCause, HasIdsFor, HasStoreCause}
use Rattle.replica_store.specs.Causes.{IsTooBig, UsesIds}
use Rattle.par_apply.specs.RowChanges.{RowChanges}
use Rattle.replica_store.specs.Changes.{row_body}
use Rattle.replica_store.specs.Errors.{replica_error, reported_result}
use Rattle.replica_store.specs.Inside.{HasBothTables, HasRowTable, IsBlankInside, IsInside}
use Rattle.replica_store.specs.Layout.{empty_schema, replica_schema, rb_row, rows_schema}
use Rattle.replica_store.specs.Picture.{Stores}
use Rattle.replica_store.specs.Steps.{AddsNone}
use Rattle.replica_store.specs.declared.error.ReplicaError.{ReplicaError}
use Rattle.replica_store.specs.declared.error.ReplicaError.TheVariants.{Store}
use Rattle.replica_store.proofs.causes.Ids.{fewer_ids}
use Rattle.replica_store.proofs.causes.MarkStops.{cursor_stopped, first_mark_stopped}
use Rattle.replica_store.proofs.causes.Refusals.{IsBadQuery, none_overflows, query_refused}
use Rattle.replica_store.proofs.causes.RowStops.{delete_stopped, insert_stopped, update_stopped}
use Rattle.replica_store.proofs.causes.Stops.{IsOneStatement, failed_for, is_writing, never_unread, stopped_inside}
use Rattle.replica_store.proofs.causes.TableStops.{mark_table_makeable, row_table_makeable, table_never_stopped}
use Rattle.replica_store.proofs.replicas.ReadLaws.{Asks, asks_marks, asks_rows, marks_query_text, query_of_all}
use Rattle.replica_store.proofs.replicas.ReadLaws.{rows_query_text}
use Rattle.replica_store.proofs.replicas.ReadLaws.{marks_terms, rows_terms}
use Rattle.replica_store.proofs.statements.KeyRows.{HasRowOf, key_params}
use Rattle.replica_store.proofs.statements.Parts.{was_clean}
use Rattle.replica_store.proofs.statements.Puts.{row_params}
use Rattle.replica_store.proofs.statements.Texts.{create_mark_text, create_row_text, cursor_query, delete_query}
use Rattle.replica_store.proofs.statements.Texts.{delete_text}
use Rattle.replica_store.proofs.statements.Texts.{first_mark_terms, first_mark_text, insert_terms, insert_text}
use Rattle.replica_store.proofs.statements.Texts.{makes_mark_table}
use Rattle.replica_store.proofs.statements.Texts.{makes_row_table, means_delete, means_first_mark, means_insert}
use Rattle.replica_store.proofs.statements.Texts.{means_set_cursor, means_update, set_cursor_text, unplaced_mark}
use Rattle.replica_store.proofs.statements.Texts.{update_query}
use Rattle.replica_store.proofs.statements.Texts.{update_text}
use Rattle.replica_store.proofs.statements.Updates.{HasUpdated}

-- ---- each text is one statement

one_delete : IsOneStatement replica_schema delete_text 2
unfolding understood everything
one_delete = (_, refl, omega arith, refl)

one_update : IsOneStatement replica_schema update_text 3
unfolding understood everything
one_update = (_, refl, omega arith, refl)

one_insert : IsOneStatement replica_schema insert_text 3
unfolding understood everything
one_insert = (_, refl, omega arith, refl)

one_cursor : IsOneStatement replica_schema set_cursor_text 1
unfolding understood everything
one_cursor = (_, refl, omega arith, refl)

one_first_mark : IsOneStatement replica_schema first_mark_text 0
unfolding understood everything
one_first_mark = (_, refl, omega arith, refl)

one_row_table : IsOneStatement empty_schema create_row_text 0
unfolding understood everything
one_row_table = (_, refl, omega arith, refl)

one_mark_table : IsOneStatement rows_schema create_mark_text 0
unfolding understood everything
one_mark_table = (_, refl, omega arith, refl)

one_rows_query : IsOneStatement replica_schema rows_query_text 0
unfolding understood everything
one_rows_query = (_, refl, omega arith, refl)

one_marks_query : IsOneStatement replica_schema marks_query_text 0
unfolding understood everything
one_marks_query = (_, refl, omega arith, refl)

-- ---- over more than one call

-- a cause of a later step is one of the whole
pub cause_since : (old mid new : State) (Own : Type 0) (Commits : Trees → Type 0) → Survives old mid Commits
    → HasStoreCause Own mid new → HasStoreCause Own old new
cause_since old mid new Own Commits s (inl faults) = inl (let f : MoreFaults mid.faults new.faults = faults in
    omega (arith, f, s.counts))
cause_since old mid new Own Commits s (inr (inl steps)) = inr (inl (subst (λ l. IsSome l) s.limit steps))
cause_since old mid new Own Commits s (inr (inr own)) = inr (inr own)

-- and so is one of an earlier step
pub cause_until : (old mid new : State) (Own : Type 0) (Commits : Trees → Type 0) → Survives mid new Commits
    → HasStoreCause Own old mid → HasStoreCause Own old new
cause_until old mid new Own Commits s (inl faults) = inl (let f : MoreFaults old.faults mid.faults = faults in
    omega (arith, f, s.counts))
cause_until old mid new Own Commits s (inr other) = inr other

-- what holds of the error that a `?` hands on
pub handed_on : {T E : Type 0} (r : Result T E) (e : E) (P : E → Type 0) → IsErrAnd r (λ y. y ≡ e) → P e → IfErr r P
handed_on r e P left h = let p = err_from_is_err_and r left in rw p.1 (subst P (sym p.2) h)

pub own_cause : (old new : State) (First Second : Type 0) → (First → Second) → HasStoreCause First old new
    → HasStoreCause Second old new
own_cause old new First Second f (inl faults) = inl faults
own_cause old new First Second f (inr (inl steps)) = inr (inl steps)
own_cause old new First Second f (inr (inr own)) = inr (inr (f own))

-- ---- a statement inside a transaction

never_shut : (s : State) (Own : Type 0) → IsTrue s.is_open → s.is_open ≡ false → Own
never_shut s Own is_open shut = absurd (true≢false (sym is_open ∙ shut))

-- what a text says over a replica's tables
abbrev said : List ℕ → List ℕ
said text = statement_of text (understood replica_schema text)

module _ (schema : Schema) (text : List ℕ) (params : Row) (command : Command)
    (is : command_of (understood schema text) ≡ command) (plain : IsPlain (understood schema text))
    (one : IsOneStatement schema text (length params)) (change : is_writing command ≡ true) where
  abbrev Ends : State → Option Error → Type 0
  Ends old stop = Does old.step_limit (mode_of old) params (record old.now { schema = schema })
      (statement_of text (understood schema text)) None command (Err stop)

  by_stop : (old new : State) (Own : Type 0) (e : Error) → (old.is_open ≡ false → Own)
      → ((stop : Option Error) → Ends old stop → IsSome old.step_limit ⊎ Own)
      → Fails old new ⊥ e ⊎ (Ends old (Some e) ⊎ Fails old new (Ends old None) e) → replica_error e ≡ Store
      → HasStoreCause Own old new
  by_stop old new Own e shut why (inl fails) says = elim (failed_for old new ⊥ e fails says) [
    | inl faults ↦ inl faults
    | inr other ↦ elim other [ inl closed ↦ inr (inr (shut closed)) | inr none ↦ absurd none ]
  ]
  by_stop old new Own e shut why (inr (inl does)) says = inr (why (Some e) does)
  by_stop old new Own e shut why (inr (inr fails)) says = elim (failed_for old new (Ends old None) e fails says) [
    | inl faults ↦ inl faults
    | inr other ↦ elim other [ inl closed ↦ inr (inr (shut closed)) | inr big ↦ inr (why None big) ]
  ]

  caused : (old new : State) (Own : Type 0) (e : Error) → old.now.schema ≡ schema → (old.is_open ≡ false → Own)
      → ((stop : Option Error) → Ends old stop → IsSome old.step_limit ⊎ Own)
      → ExecutesInside 0 text params old new (Err e) → replica_error e ≡ Store → HasStoreCause Own old new
  caused old new Own e has shut why h =
      by_stop old new Own e shut why (stopped_inside text params old new schema has command is plain one change e h)

pub delete_cause : (old new : State) (key : RowKey) (e : Error) → IsInside old
    → ExecutesInside 0 delete_text (key_params key) old new (Err e) → replica_error e ≡ Store
    → HasStoreCause ⊥ old new
delete_cause old new key e i = caused replica_schema delete_text (key_params key)
    (Delete 0 (record { lets = []; body = delete_query })) means_delete.command means_delete.plain one_delete refl
    old new ⊥ e i.schema (never_shut old ⊥ i.is_open)
    (λ stop does. inl (delete_stopped old key (said delete_text) stop i does))

-- why a row is not put
abbrev pub CannotPut : RowKey → List ℕ → Trees → Type 0
CannotPut key body db = IsTooBig key body ⊎ (HasIdsFor 1 db → ⊥)

pub update_cause : (old new : State) (key : RowKey) (body : List ℕ) (e : Error) → IsInside old
    → ExecutesInside 0 update_text (row_params key body) old new (Err e) → replica_error e ≡ Store
    → HasStoreCause (CannotPut key body old.now.trees) old new
update_cause old new key body e i = caused replica_schema update_text (row_params key body)
    (Update 0 (record { lets = []; body = update_query })) means_update.command means_update.plain one_update refl
    old new (CannotPut key body old.now.trees) e i.schema (never_shut old _ i.is_open)
    (λ stop does. update_stopped old key body (said update_text) stop i does)

pub insert_cause : (old new : State) (key : RowKey) (body : List ℕ) (e : Error) → IsInside old
    → (HasRowOf key (Stores old.now.trees) → ⊥)
    → ExecutesInside 0 insert_text (row_params key body) old new (Err e) → replica_error e ≡ Store
    → HasStoreCause (CannotPut key body old.now.trees) old new
insert_cause old new key body e i none = caused replica_schema insert_text (row_params key body)
    (Insert 0 (Values insert_terms 4)) means_insert.command means_insert.plain one_insert refl
    old new (CannotPut key body old.now.trees) e i.schema (never_shut old _ i.is_open)
    (λ stop does. insert_stopped old key body (said insert_text) stop i (λ id b there. none (b, (id, there))) does)

cursor_cause : (old new : State) (place : ℕ) (e : Error) → IsInside old
    → ExecutesInside 0 set_cursor_text (Int (pos place) ∷ []) old new (Err e) → replica_error e ≡ Store
    → HasStoreCause ⊥ old new
cursor_cause old new place e i = caused replica_schema set_cursor_text (Int (pos place) ∷ [])
    (Update 1 (record { lets = []; body = cursor_query })) means_set_cursor.command means_set_cursor.plain
    one_cursor refl old new ⊥ e i.schema (never_shut old ⊥ i.is_open)
    (λ stop does. inl (cursor_stopped old place (said set_cursor_text) stop i does))

-- the same, after an update that found no row
pub update_and_insert_cause : (old mid new : State) (key : RowKey) (body : List ℕ) (count : ℕ) (e : Error)
    → HasUpdated old mid key body count → count ≡ 0 → AddsNone old mid
    → ExecutesInside 0 insert_text (row_params key body) mid new (Err e) → replica_error e ≡ Store
    → HasStoreCause (CannotPut key body old.now.trees) old new
update_and_insert_cause old mid new key body count e u zero survives h says =
    let same = u.same zero in
    let none = λ (has : HasRowOf key (Stores mid.now.trees)). u.no_key zero (has.0, (same.rows key has.0).0 has.1) in
    let why = insert_cause mid new key body e same.inside none h says in
    cause_since old mid new (CannotPut key body old.now.trees) (λ _. ⊥) survives
    (own_cause mid new (CannotPut key body mid.now.trees) (CannotPut key body old.now.trees)
    (λ cannot. elim cannot [ inl big ↦ inl big | inr no_id ↦ inr (λ ids. no_id (u.ids 1 ids)) ]) why)

-- the cause, in words of the change
pub put_cause : (old new : State) (key : RowKey) (row : List Value) (db : Trees)
    → HasStoreCause (CannotPut key (row_body row) db) old new → HasStoreCause (CannotMake (key, Some row) db) old new
put_cause old new key row db = own_cause old new (CannotPut key (row_body row) db) (CannotMake (key, Some row) db)
    (λ cannot. elim cannot [ inl big ↦ inl (inr (row, refl, big)) | inr none ↦ inr none ])

pub cursor_answer : (old new : State) (place : ℕ) (r : Result ℕ Error) → IsInside old
    → ExecutesInside 0 set_cursor_text (Int (pos place) ∷ []) old new r
    → IfErr r (λ e. replica_error e ≡ Store → HasStoreCause ⊥ old new)
cursor_answer old new place (Ok n) i h = tt
cursor_answer old new place (Err e) i h = cursor_cause old new place e i h

pub row_table_cause : (old new : State) (e : Error) → IsBlankInside old
    → ExecutesInside 0 create_row_text [] old new (Err e) → replica_error e ≡ Store
    → HasStoreCause (old.is_open ≡ false) old new
row_table_cause old new e was = caused empty_schema create_row_text [] CreateTable makes_row_table.command
    makes_row_table.plain one_row_table refl old new (old.is_open ≡ false) e was.schema (λ shut. shut)
    (λ stop does. absurd (table_never_stopped old empty_schema create_row_text rb_row stop row_table_makeable
    (subst (λ t. Does old.step_limit (mode_of old) [] (record old.now { schema = empty_schema }) t None CreateTable
    (Err stop)) makes_row_table.statement does)))

pub mark_table_cause : (old new : State) (e : Error) → HasRowTable old
    → ExecutesInside 0 create_mark_text [] old new (Err e) → replica_error e ≡ Store → HasStoreCause ⊥ old new
mark_table_cause old new e was = caused rows_schema create_mark_text [] CreateTable makes_mark_table.command
    makes_mark_table.plain one_mark_table refl old new ⊥ e was.schema (never_shut old ⊥ was.is_open)
    (λ stop does. absurd (table_never_stopped old rows_schema create_mark_text unplaced_mark stop mark_table_makeable
    (subst (λ t. Does old.step_limit (mode_of old) [] (record old.now { schema = rows_schema }) t None CreateTable
    (Err stop)) makes_mark_table.statement does)))

pub first_mark_cause : (old new : State) (e : Error) → HasBothTables old
    → ExecutesInside 0 first_mark_text [] old new (Err e) → replica_error e ≡ Store → HasStoreCause ⊥ old new
first_mark_cause old new e was = caused replica_schema first_mark_text [] (Insert 1 (Values first_mark_terms 3))
    means_first_mark.command means_first_mark.plain one_first_mark refl old new ⊥ e was.schema
    (never_shut old ⊥ was.is_open)
    (λ stop does. inl (first_mark_stopped old (said first_mark_text) stop was does))

pub table_cause_since : (old mid new : State) → AddsNone old mid → HasStoreCause ⊥ mid new
    → HasStoreCause (old.is_open ≡ false) old new
table_cause_since old mid new survives why = own_cause old new ⊥ (old.is_open ≡ false) (λ none. absurd none)
    (cause_since old mid new ⊥ (λ _. ⊥) survives why)

-- ---- the end of a transaction

pub commit_cause : (old new : State) (e : Error) → IsTrue old.is_open → IsTrue old.in_transaction
    → FailsToCommit old new e → replica_error e ≡ Store → HasStoreCause ⊥ old new
commit_cause old new e is_open inside (inl fails) says = elim (failed_for old new ⊥ e fails says) [
  | inl faults ↦ inl faults
  | inr other ↦ elim other [ inl shut ↦ never_shut old _ is_open shut | inr none ↦ absurd none ]
]
commit_cause old new e is_open inside (inr late) says = absurd (true≢false (sym inside ∙ late.1))

-- ---- a query

good_rows : (d : Database) → d.schema ≡ replica_schema
    → IsBadQuery d (record { lets = []; body = query_of_all 0 rows_terms }) [] → ⊥
good_rows d is (e, inl wrong) = true≢false (rw is at wrong.1)
good_rows d is (e, inr (inl over)) = elim over.1 [ inl group ↦ group | inr fold ↦ none_overflows _ fold ]
good_rows d is (e, inr (inr none)) = true≢false (sym none.1)

good_marks : (d : Database) → d.schema ≡ replica_schema
    → IsBadQuery d (record { lets = []; body = query_of_all 2 marks_terms }) [] → ⊥
good_marks d is (e, inl wrong) = true≢false (rw is at wrong.1)
good_marks d is (e, inr (inl over)) = elim over.1 [ inl group ↦ group | inr fold ↦ none_overflows _ fold ]
good_marks d is (e, inr (inr none)) = true≢false (sym none.1)

module _ (text : List ℕ) (tree : ℕ) (terms : List Term) (names : List (List ℕ)) (asks : Asks text tree terms names)
    (one : IsOneStatement replica_schema text 0)
    (good : (d : Database) → d.schema ≡ replica_schema
    → IsBadQuery d (record { lets = []; body = query_of_all tree terms }) [] → ⊥) where
  query_stops : (old new : State) (e : Error) → old.now.schema ≡ replica_schema → FailsToQuery text [] old new e
      → Fails old new ⊥ e ⊎ IsSome old.step_limit
  unfolding FailsToQuery IsNotRun
  query_stops old new e has (inl (inl unread)) = absurd (never_unread old text [] e
      (subst (λ (s : Schema). IsPlain (understood s text)) (sym has) asks.plain)
      (subst (λ (s : Schema). IsOneStatement s text 0) (sym has) one) unread.0)
  query_stops old new e has (inl (inr fails)) = inl fails
  query_stops old new e has (inr ran) =
      let known = sym ran.1.is ∙ ap (λ s. understood s text) has in
      let bare = subst IsPlain (sym known) asks.plain in
      let shows = rw (bare.0, bare.1) at ran.2 in
      let db : shows.0 ≡ old.now = subst (λ b. IsSourceOf b old.now shows.0)
      (ap (λ s. reads_listing s text) has ∙ asks.unlisted) shows.1 in
      let command = ap command_of known ∙ asks.command in
      let refused = subst (λ k. RefusesToRead old.step_limit k shows.0 [] e) command shows.2 in
      inr (query_refused old.step_limit shows.0 (record { lets = []; body = query_of_all tree terms }) [] e
      (good shows.0 (ap (λ (d : Database). d.schema) db ∙ has)) refused)

  -- why the query fails
  query_cause : {T : Type 0} (r : Result T Error) (old new : State) (Commits : Trees → Type 0)
      → (HasCleanDisk old → old.now.schema ≡ replica_schema) → Survives old new Commits
      → (HasCleanDisk new → IfErr r (FailsToQuery text [] old new)) → ErrorHasCause r (old.is_open ≡ false) old new
  query_cause (Ok x) old new Commits has survives fails clean = tt
  query_cause (Err e) old new Commits has survives fails clean = λ says.
      elim (query_stops old new e (has (was_clean old new Commits survives clean)) (fails clean)) [
        | inl failed ↦ elim (failed_for old new ⊥ e failed says) [
          | inl faults ↦ inl faults
          | inr other ↦ elim other [ inl shut ↦ inr (inr shut) | inr none ↦ absurd none ]
        ]
        | inr steps ↦ inr (inl steps)
      ]

pub rows_query_cause : {T : Type 0} (r : Result T Error) (old new : State) (Commits : Trees → Type 0)
    → (HasCleanDisk old → old.now.schema ≡ replica_schema) → Survives old new Commits
    → (HasCleanDisk new → IfErr r (FailsToQuery rows_query_text [] old new))
    → ErrorHasCause r (old.is_open ≡ false) old new
rows_query_cause = query_cause rows_query_text 0 rows_terms _ asks_rows one_rows_query good_rows

pub marks_query_cause : {T : Type 0} (r : Result T Error) (old new : State) (Commits : Trees → Type 0)
    → (HasCleanDisk old → old.now.schema ≡ replica_schema) → Survives old new Commits
    → (HasCleanDisk new → IfErr r (FailsToQuery marks_query_text [] old new))
    → ErrorHasCause r (old.is_open ≡ false) old new
marks_query_cause = query_cause marks_query_text 2 marks_terms _ asks_marks one_marks_query good_marks

-- ---- one change of many

pub change_cause : {T : Type 0} (r : Result T Error) (old new : State) (change : RowKey × Option (List Value))
    (row : List Value) (db : Trees) → change.1 ≡ Some row
    → ErrorHasCause r (CannotMake (change.0, Some row) db) old new → ErrorHasCause r (CannotMake change db) old new
change_cause r old new change row db is h = subst (λ (c : RowKey × Option (List Value)).
    ErrorHasCause r (CannotMake c db) old new) (λ i. (change.0, sym is i)) h

pub no_ids_used : (s : State) → UsesIds 0 s s
no_ids_used s n ids = fewer_ids (n + 0) n s.now.trees (omega arith) ids

pub one_id_more : (old mid new : State) (used : ℕ) → UsesIds used old mid → UsesIds 1 mid new
    → UsesIds (used + 1) old new
one_id_more old mid new used first second n ids =
    second n (first (n + 1) (fewer_ids (n + (used + 1)) (n + 1 + used) old.now.trees (omega arith) ids))

-- the change at this place stops the commit
pub commit_stopped : (old mid new : State) (changes : RowChanges) (at : ℕ) (change : RowKey × Option (List Value))
    → at < length changes → Has changes change → AddsNone old mid → UsesIds at old mid
    → HasStoreCause (CannotMake change mid.now.trees) mid new
    → HasStoreCause (CannotCommit changes old.now.trees) old new
commit_stopped old mid new changes at change within there survives ids why =
    cause_since old mid new (CannotCommit changes old.now.trees) (λ _. ⊥) survives
    (own_cause mid new (CannotMake change mid.now.trees) (CannotCommit changes old.now.trees)
    (λ cannot. elim cannot [
      | inl store ↦ inl (change, there, store)
      | inr no_id ↦ inr (λ enough.
          no_id (ids 1 (fewer_ids (length changes) (1 + at) old.now.trees (omega arith) enough)))
    ]) why)

-- ---- what is reported

pub reported_cause : {T : Type 0} (r : Result T Error) (why : ReplicaError) (old new : State) (Own : Type 0)
    → ErrorHasCause r Own old new → reported_result r ≡ Err why → HasCleanDisk new → why ≡ Store
    → HasStoreCause Own old new
reported_cause (Ok x) why old new Own h is clean says = absurd cc
reported_cause (Err e) why old new Own h is clean says = let same : replica_error e ≡ why = cc in h clean (same ∙ says)
