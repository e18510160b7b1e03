-- Why a statement on the table of rows stops.
use Rattle.std.proofs.Common.{◌≡◌, ◌⊎◌, inl, inr, ℕ, ℤ, pos, Bool, true, false, not, ◌&&◌, ◌||◌}
use Rattle.std.proofs.Common.{nat_lt, List, [], ◌∷◌, length, map, Option, Some, None, Err, IsSome, refl, sym, ap, subst}
use Rattle.std.proofs.Common.{◌∙◌, arith, true≢false, IsPermutation, IsTrue}
use Rattle.std.proofs.lemmas.Bool.{and_from, both_ways, false_from_ne_true}
use Rattle.std.proofs.lemmas.Int.{ints}
use Rattle.std.proofs.lemmas.List.Sorted.{length_permutation}
use Rattle.sqlite_value.specs.declared.value.Value.TheVariants.{Null, Int, Blob}
use Rattle.sqlite_schema.specs.declared.schema.Constraint.TheVariants.{Unique}
use Rattle.sqlite_schema.specs.declared.schema.Schema.{Schema}
use Rattle.sqlite_catalog.specs.Listing.{IsSound}
use Rattle.sqlite_rules.specs.Calls.{ids_of}
use Rattle.sqlite_rules.specs.Lists.{Has}
use Rattle.sqlite_rules.proofs.ListLemmas.{all_from, some_has}
use Rattle.sqlite_rules.specs.Edit.{IsOversized}
use Rattle.sqlite_trees.specs.View.{is_int}
use Rattle.sqlite_rules.proofs.PlaceLemmas.{next_is_free}
use Rattle.sqlite_rules.proofs.TableLemmas.{put_all_has, without_all_has}
use Rattle.sqlite_sql.specs.Query.{IsAnswer, Output, output, matches, inner, end}
use Rattle.sqlite_sql.specs.Program.{overlay}
use Rattle.sqlite_sql.specs.Term.{Term}
use Rattle.sqlite_trees.specs.Tree.{has_rowid, rowid, with_tree}
use Rattle.sqlite.specs.Command.TheVariants.{Delete, Insert, Update}
use Rattle.sqlite.specs.Does.{Does}
use Rattle.sqlite.specs.Edit.{Edit, are_fresh, edit_of, next_rowid, put_all, without_all}
use Rattle.sqlite.specs.Effect.{Database, RefusesSource}
use Rattle.sqlite.specs.Order.{Row}
use Rattle.sqlite.specs.Rowids.TheVariants.{Chosen, Given}
use Rattle.sqlite.specs.Rows.{Sourced}
use Rattle.sqlite.specs.Source.TheVariants.{Values}
use Rattle.sqlite.specs.State.{State, mode_of}
use Rattle.sqlite.specs.Tree.{Trees, IsTable}
use Rattle.sqlite.specs.declared.error.Error.{Error}
use Rattle.sqlite.proofs.Callers.{one_permutation}
use Rattle.cs_model.specs.declared.row_key.RowKey.{RowKey}
use Rattle.replica_store.specs.Causes.{HasIdsFor, IsTooBig}
use Rattle.replica_store.specs.Inside.{IsInside}
use Rattle.replica_store.specs.Layout.{replica_schema, rb_row}
use Rattle.replica_store.specs.Picture.{row_record}
use Rattle.replica_store.specs.Reading.{AreRowRecords}
use Rattle.replica_store.proofs.causes.Ids.{near_id, next_is_near}
use Rattle.replica_store.proofs.causes.Keys.{HasKeysOnce, once_by_rule, one_shown, rule_by_once}
use Rattle.replica_store.proofs.causes.Refusals.{EditStops, IsBadQuery, PassesRules, edit_stopped, none_overflows}
use Rattle.replica_store.proofs.causes.Refusals.{refused_for_ids, rows_stopped, write_stopped}
use Rattle.replica_store.proofs.causes.Sizes.{oversized_row}
use Rattle.replica_store.proofs.causes.Stops.{stopped_or}
use Rattle.replica_store.proofs.statements.KeyRows.{is_of_key, has_that_key, key_params, no_rowid_left}
use Rattle.replica_store.proofs.statements.Parts.{cast_int, cast_null}
use Rattle.replica_store.proofs.statements.Puts.{row_params, same_record}
use Rattle.replica_store.proofs.statements.Texts.{delete_query, insert_terms, key_tests, update_query}
use Rattle.replica_store.proofs.statements.Updates.{cast_record}

-- a replica's rows have each key once
pub keys_once : (s : State) → IsInside s → HasKeysOnce (s.now.trees 0)
keys_once s i = once_by_rule s.now.trees
    ((subst (λ (d : Schema). IsSound d s.now.trees) i.schema i.sound).obeys.rules Unique)

-- no table refers to another
pub referred : (adds removes : Bool) → ((not adds || true) && (not removes || true)) ≡ true
referred true true = refl
referred true false = refl
referred false true = refl
referred false false = refl

-- ---- an edit of the table of rows

abbrev row_edit : List ℤ → List Row → Edit
row_edit gone news = record { table = rb_row; gone = gone; news = news }

-- An edit whose rows are there, but for some bodies, or have a new key.
none_passes : (db : Trees) (gone : List ℤ) → AreRowRecords (db 0) → HasKeysOnce (db 0)
    → PassesRules db (row_edit gone [])
none_passes db gone are once = record {
  typed = refl;
  present = refl;
  checked = refl;
  fresh = refl;
  unique = rule_by_once (with_tree db 0 (without_all (db 0) gone))
      (λ r there. are r (without_all_has gone (db 0) r there))
      (λ i j key b c x y. once i j key b c (without_all_has gone (db 0) _ x) (without_all_has gone (db 0) _ y));
  keyed = refl;
  referred = referred false (nat_lt 0 (length gone));
}

one_passes : (db : Trees) (gone : List ℤ) (id : ℤ) (key : RowKey) (body : List ℕ)
    → are_fresh (without_all (db 0) gone) (row_record id key body ∷ []) ≡ true
    → AreRowRecords (put_all (without_all (db 0) gone) (row_record id key body ∷ []))
    → HasKeysOnce (put_all (without_all (db 0) gone) (row_record id key body ∷ []))
    → PassesRules db (row_edit gone (row_record id key body ∷ []))
one_passes db gone id key body fresh are once = record {
  typed = refl;
  present = refl;
  checked = refl;
  fresh = fresh;
  unique = rule_by_once (with_tree db 0 (put_all (without_all (db 0) gone) (row_record id key body ∷ []))) are once;
  keyed = refl;
  referred = referred true (nat_lt 0 (length gone));
}

-- what is put is that row, or was left
one_put : (rows : List Row) (gone : List ℤ) (new x : Row) → Has (put_all (without_all rows gone) (new ∷ [])) x
    → (x ≡ new) ⊎ Has rows x
one_put rows gone new x there = elim (put_all_has (new ∷ []) (without_all rows gone) x there) [
  | inl put ↦ elim put [ inl same ↦ inl same | inr none ↦ absurd none ]
  | inr left ↦ inr (without_all_has gone rows x left)
]

one_put_records : (rows : List Row) (gone : List ℤ) (id : ℤ) (key : RowKey) (body : List ℕ) → AreRowRecords rows
    → AreRowRecords (put_all (without_all rows gone) (row_record id key body ∷ []))
one_put_records rows gone id key body are x there = elim (one_put rows gone (row_record id key body) x there) [
  | inl new ↦ (id, key, body, new)
  | inr old ↦ are x old
]

-- ---- DELETE

good_delete : (d : Database) (key : RowKey) → d.schema ≡ replica_schema
    → IsBadQuery d (record { lets = []; body = delete_query }) (key_params key) → ⊥
good_delete d key is (e, inl wrong) = true≢false (rw is at wrong.1)
good_delete d key is (e, inr (inl over)) = elim over.1 [ inl group ↦ group | inr fold ↦ none_overflows _ fold ]
good_delete d key is (e, inr (inr none)) = true≢false (sym none.1)

pub delete_stopped : (old : State) (key : RowKey) (text : List ℕ) (stop : Option Error) → IsInside old
    → Does old.step_limit (mode_of old) (key_params key) (record old.now { schema = replica_schema }) text None
    (Delete 0 (record { lets = []; body = delete_query })) (Err stop)
    → IsSome old.step_limit
delete_stopped old key text stop i h =
    let db = old.now.trees in
    let d : Database = record old.now { schema = replica_schema } in
    let q = delete_query in
    let edit = λ (rows : List Row). edit_of db rb_row (ids_of rows) Given 0 [] in
    let stops = write_stopped old.step_limit d (record { lets = []; body = q }) (key_params key) edit _ stop
    (good_delete d key refl) (λ rows. refl)
    (rows_stopped old rb_row (key_params key) (Delete 0 (record { lets = []; body = q })) db stop h) in
    elim stops [
      | inl steps ↦ steps
      | inr found ↦ elim found.2 [
        | inl refused ↦ absurd (true≢false (refused_for_ids db (edit found.0) refused.0
            (none_passes db (ids_of found.0) i.replica.rows (keys_once old i)) refused.1))
        | inr big ↦ absurd big.1
      ]
    ]

-- ---- INSERT

-- why a row is not put: the limit on steps, its size, or no id for it
abbrev pub PutStops : State → RowKey → List ℕ → Type 0
PutStops old key body = IsSome old.step_limit ⊎ (IsTooBig key body ⊎ (HasIdsFor 1 old.now.trees → ⊥))

pub source_stopped : (limit : Option ℕ) (d : Database) (params : Row) (terms : List Term) (width : ℕ)
    (stop : Option Error) → ((e : Error) → RefusesSource None d params (Values terms width) e → ⊥)
    → Sourced limit d params (Values terms width) (Err stop) → IsSome limit
source_stopped limit d params terms width None good h = absurd h
source_stopped limit d params terms width (Some e) good (inl wrong) = absurd (good e (inl wrong))
source_stopped limit d params terms width (Some e) good (inr steps) = steps.1

good_insert : (d : Database) (key : RowKey) (body : List ℕ) (e : Error)
    → RefusesSource None d (row_params key body) (Values insert_terms 4) e → ⊥
good_insert d key body e (inl wrong) = true≢false wrong.1
good_insert d key body e (inr none) = true≢false (sym none.1)

insert_fresh : (rows : List Row) (key : RowKey) (body : List ℕ) → IsTable rows → AreRowRecords rows
    → are_fresh rows (row_record (next_rowid rows) key body ∷ []) ≡ true
insert_fresh rows key body up are = ap (λ b. not b && true)
    (next_is_free Chosen rows (Int (pos key.table) ∷ Blob key.bytes ∷ Blob body ∷ []) up
    (all_from (λ (r : Row). IsTrue (is_int (rowid r))) rows (λ r there. let x = are r there in rw x.3 refl)))

insert_passes : (s : State) (key : RowKey) (body : List ℕ) → IsInside s
    → ((id : ℤ) (b : List ℕ) → Has (s.now.trees 0) (row_record id key b) → ⊥)
    → PassesRules s.now.trees (row_edit [] (row_record (next_rowid (s.now.trees 0)) key body ∷ []))
insert_passes s key body i none =
    let rows = s.now.trees 0 in
    let id = next_rowid rows in
    one_passes s.now.trees [] id key body (insert_fresh rows key body i.replica.rising i.replica.rows)
    (one_put_records rows [] id key body i.replica.rows)
    (λ a b k c d first second.
    elim (one_put rows [] (row_record id key body) _ first) [
      | inl new ↦
          let one = same_record id a key k body c new in
          elim (one_put rows [] (row_record id key body) _ second) [
            | inl also ↦ let x : a ≡ id = cc in let y : b ≡ id = cc in x ∙ sym y
            | inr old ↦ absurd (none b d (subst (λ q. Has rows (row_record b q d)) one.0 old))
          ]
      | inr old ↦ elim (one_put rows [] (row_record id key body) _ second) [
        | inl new ↦
            let one = same_record id b key k body d new in
            absurd (none a c (subst (λ q. Has rows (row_record a q c)) one.0 old))
        | inr also ↦ keys_once s i a b k c d old also
      ]
    ])

pub insert_stopped : (old : State) (key : RowKey) (body : List ℕ) (text : List ℕ) (stop : Option Error) → IsInside old
    → ((id : ℤ) (b : List ℕ) → Has (old.now.trees 0) (row_record id key b) → ⊥)
    → Does old.step_limit (mode_of old) (row_params key body) (record old.now { schema = replica_schema }) text None
    (Insert 0 (Values insert_terms 4)) (Err stop)
    → PutStops old key body
insert_stopped old key body text stop i none h =
    let db = old.now.trees in
    let d : Database = record old.now { schema = replica_schema } in
    let params = row_params key body in
    elim (stopped_or (rows_stopped old rb_row params (Insert 0 (Values insert_terms 4)) db stop h)) [
      | inl source ↦ inl (source_stopped old.step_limit d params insert_terms 4 stop (good_insert d key body) source)
      | inr given_rows ↦ elim (stopped_or given_rows.2) [
        | inl counter ↦ absurd (let e = counter in cc)
        | inr counted ↦ elim (stopped_or counted.2) [
          | inl write ↦ inr (
              let rows = given_rows.0 in
              let edit = edit_of db rb_row [] Chosen 0 rows in
              let id = next_rowid (db 0) in
              let news : edit.news ≡ row_record id key body ∷ [] =
              ap (λ sources. (edit_of db rb_row [] Chosen 0 sources).news) given_rows.1.1
              ∙ rw (cast_null, cast_int (pos key.table)) in
              let is : edit ≡ row_edit [] (row_record id key body ∷ []) = ap (row_edit []) news in
              elim (subst (λ x. EditStops db x stop) is (edit_stopped db edit stop refl write)) [
                | inl refused ↦ inr (λ ids.
                    let far = refused_for_ids db (row_edit [] (row_record id key body ∷ [])) refused.0
                    (insert_passes old key body i none) refused.1 in
                    both_ways _ far (and_from _ _ (next_is_near db i.replica.rows ids) refl))
                | inr big ↦ elim big.1 [
                  | inl same ↦ inl (oversized_row id key body (subst (IsOversized replica_schema rb_row) same big.2))
                  | inr no_row ↦ absurd no_row
                ]
              ])
          | inr wrote ↦ elim (stopped_or wrote.2) [
            | inl counts ↦ absurd (let e = counts in cc)
            | inr gives ↦ absurd (let e = gives.2 in cc)
          ]
        ]
      ]
    ]

-- ---- UPDATE

no_element : {X : Type 0} (xs : List X) → length xs ≡ 0 → xs ≡ []
no_element [] h = refl
no_element (x ∷ xs) h = absurd (omega arith)

-- the answer has the row of the key, if there is one, with the body
found_once : (db : Trees) (key : RowKey) (value : List ℕ) (found : List Row) → IsTable (db 0) → AreRowRecords (db 0)
    → HasKeysOnce (db 0) → IsAnswer update_query db (row_params key value) found
    → (found ≡ []) ⊎ ((id : ℤ) × (body : List ℕ) × Has (db 0) (row_record id key body)
    × (found ≡ (Int id ∷ row_record id key value) ∷ []))
found_once db key value found up are once a =
    let params = row_params key value in
    let env = λ (r : Row). params ∷ r ∷ [] in
    let there = matches db key_tests (inner 0 end) (params ∷ []) in
    let kept : a.kept ≡ map (output update_query) there = a.distinct ∙ ap (map (output update_query)) a.grouped in
    elim (one_shown (is_of_key key) env (db 0) up (λ r s first second one other.
    let x = are r first in
    let y = are s second in
    let key_x = has_that_key x.0 key x.1 x.2 (ap (is_of_key key) (sym x.3) ∙ one) in
    let key_y = has_that_key y.0 key y.1 y.2 (ap (is_of_key key) (sym y.3) ∙ other) in
    let at_x = subst (Has (db 0)) (x.3 ∙ ap (λ k. row_record x.0 k x.2) key_x) first in
    let at_y = subst (Has (db 0)) (y.3 ∙ ap (λ k. row_record y.0 k y.2) key_y) second in
    ap rowid x.3 ∙ ap Int (once x.0 y.0 key x.2 y.2 at_x at_y) ∙ sym (ap rowid y.3))) [
      | inl none ↦ inl (
          let no_kept : a.kept ≡ [] = kept ∙ ap (map (output update_query)) none in
          let ordered : a.ordered ≡ [] = no_element a.ordered
          (length_permutation a.kept a.ordered a.same ∙ ap length no_kept) in
          a.shown ∙ ap (map (λ (k : Output). k.1)) ordered)
      | inr one ↦
          let x = are one.0 one.1 in
          let same = has_that_key x.0 key x.1 x.2 (ap (is_of_key key) (sym x.3) ∙ one.2) in
          let is : one.0 ≡ row_record x.0 key x.2 = x.3 ∙ ap (λ k. row_record x.0 k x.2) same in
          let o = output update_query (env one.0) in
          let one_kept : a.kept ≡ o ∷ [] = kept ∙ ap (map (output update_query)) one.3 in
          let ordered = one_permutation o a.ordered (subst (λ k. IsPermutation k a.ordered) one_kept a.same) in
          inr (
            x.0,
            x.2,
            subst (Has (db 0)) is one.1,
            a.shown ∙ ap (map (λ (k : Output). k.1)) ordered
                ∙ ap (λ (r : Row). (output update_query (env r)).1 ∷ []) is,
          )
    ]

update_fresh : (rows : List Row) (id : ℤ) (key : RowKey) (body : List ℕ)
    → are_fresh (without_all rows (id ∷ [])) (row_record id key body ∷ []) ≡ true
update_fresh rows id key body = ap (λ b. not b && true) (false_from_ne_true _ (λ taken.
    let x = some_has (has_rowid id) (without_all rows (id ∷ [])) taken in
    both_ways _ (no_rowid_left (id ∷ []) rows x.0 id x.1 (inl refl)) x.2))

update_passes : (s : State) (id : ℤ) (key : RowKey) (was body : List ℕ) → IsInside s
    → Has (s.now.trees 0) (row_record id key was)
    → PassesRules s.now.trees (row_edit (id ∷ []) (row_record id key body ∷ []))
update_passes s id key was body i there =
    let rows = s.now.trees 0 in
    let gone = id ∷ [] in
    let new = row_record id key body in
    one_passes s.now.trees gone id key body (update_fresh rows id key body)
    (one_put_records rows gone id key body i.replica.rows)
    (λ a b k c d first second.
    elim (one_put rows gone new _ first) [
      | inl is ↦
          let one = same_record id a key k body c is in
          let at : a ≡ id = cc in
          elim (one_put rows gone new _ second) [
            | inl also ↦ let x : b ≡ id = cc in at ∙ sym x
            | inr old ↦ at ∙ keys_once s i id b key was d there (subst (λ q. Has rows (row_record b q d)) one.0 old)
          ]
      | inr old ↦ elim (one_put rows gone new _ second) [
        | inl is ↦
            let one = same_record id b key k body d is in
            let at : b ≡ id = cc in
            keys_once s i a id key c was (subst (λ q. Has rows (row_record a q c)) one.0 old) there ∙ sym at
        | inr also ↦ keys_once s i a b k c d old also
      ]
    ])

good_update : (d : Database) (key : RowKey) (value : List ℕ) → d.schema ≡ replica_schema
    → IsBadQuery d (record { lets = []; body = update_query }) (row_params key value) → ⊥
good_update d key value is (e, inl wrong) = true≢false (rw is at wrong.1)
good_update d key value is (e, inr (inl over)) = elim over.1 [ inl group ↦ group | inr fold ↦ none_overflows _ fold ]
good_update d key value is (e, inr (inr none)) = true≢false (sym none.1)

pub update_stopped : (old : State) (key : RowKey) (body : List ℕ) (text : List ℕ) (stop : Option Error) → IsInside old
    → Does old.step_limit (mode_of old) (row_params key body) (record old.now { schema = replica_schema }) text None
    (Update 0 (record { lets = []; body = update_query })) (Err stop)
    → PutStops old key body
update_stopped old key body text stop i h =
    let db = old.now.trees in
    let d : Database = record old.now { schema = replica_schema } in
    let params = row_params key body in
    let edit = λ (rows : List Row). edit_of db rb_row (ids_of rows) Given 1 rows in
    let stops = write_stopped old.step_limit d (record { lets = []; body = update_query }) params edit _ stop
    (good_update d key body refl) (λ rows. refl)
    (rows_stopped old rb_row params (Update 0 (record { lets = []; body = update_query })) db stop h) in
    elim stops [
      | inl steps ↦ inl steps
      | inr found ↦ inr (elim (found_once (overlay db []) key body found.0 i.replica.rising i.replica.rows
          (keys_once old i) (found.1.answer Null)) [
            | inl none ↦
                let is : edit found.0 ≡ row_edit [] [] = ap edit none in
                elim (subst (λ x. EditStops db x stop) is found.2) [
                  | inl refused ↦ absurd (true≢false (refused_for_ids db (row_edit [] []) refused.0
                      (none_passes db [] i.replica.rows (keys_once old i)) refused.1))
                  | inr big ↦ absurd big.1
                ]
            | inr one ↦
                let id = one.0 in
                let is : edit found.0 ≡ row_edit (id ∷ []) (row_record id key body ∷ []) = ap edit one.3
                ∙ ap (λ r. row_edit (id ∷ []) (r ∷ [])) (cast_record id key body) in
                elim (subst (λ x. EditStops db x stop) is found.2) [
                  | inl refused ↦ inr (λ ids.
                      let far = refused_for_ids db (row_edit (id ∷ []) (row_record id key body ∷ [])) refused.0
                      (update_passes old id key one.1 body i one.2) refused.1 in
                      let it = ids.1 id key one.1 one.2 in
                      both_ways _ far (and_from _ _ (near_id id it.0 (omega (arith, ints, it.1))) refl))
                  | inr big ↦ elim big.1 [
                    | inl same ↦ inl (oversized_row id key body (subst (IsOversized replica_schema rb_row) same big.2))
                    | inr no_row ↦ absurd no_row
                  ]
                ]
          ])
    ]
