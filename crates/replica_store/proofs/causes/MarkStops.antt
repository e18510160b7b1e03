-- Why a statement on the mark stops.
use Rattle.std.proofs.Common.{◌≡◌, inl, inr, ℕ, ℤ, pos, Bool, true, false, List, [], ◌∷◌, map}
use Rattle.std.proofs.Common.{Option, None, Err, IsSome, IsPermutation, true≢false, refl, sym, ap, subst, ◌∙◌}
use Rattle.sqlite_value.specs.declared.value.Value.TheVariants.{Null, Int}
use Rattle.sqlite_rules.specs.Calls.{ids_of}
use Rattle.sqlite_rules.specs.Edit.{IsOversized}
use Rattle.sqlite_sql.specs.Query.{IsAnswer, Output, output, page}
use Rattle.sqlite_sql.specs.Program.{overlay}
use Rattle.sqlite_trees.specs.Tree.{with_tree}
use Rattle.sqlite.specs.Command.TheVariants.{Insert, Update}
use Rattle.sqlite.specs.Does.{Does}
use Rattle.sqlite.specs.Edit.{Edit, are_fresh, edit_of, put_all, without_all}
use Rattle.sqlite.specs.Effect.{Database, RefusesSource}
use Rattle.sqlite.specs.Order.{Row}
use Rattle.sqlite.specs.Rowids.TheVariants.{Chosen, Given}
use Rattle.sqlite.specs.Source.TheVariants.{Values}
use Rattle.sqlite.specs.State.{State, mode_of}
use Rattle.sqlite.specs.Tree.{Trees}
use Rattle.sqlite.specs.declared.error.Error.{Error}
use Rattle.sqlite.proofs.Callers.{one_permutation}
use Rattle.replica_store.specs.Inside.{HasBothTables, IsInside}
use Rattle.replica_store.specs.Layout.{replica_schema, rb_mark}
use Rattle.replica_store.specs.Picture.{mark_record}
use Rattle.replica_store.specs.Reading.{AreRowRecords}
use Rattle.replica_store.proofs.causes.Keys.{HasKeysOnce, rule_by_once}
use Rattle.replica_store.proofs.causes.Refusals.{EditStops, IsBadQuery, PassesRules, edit_stopped, none_overflows}
use Rattle.replica_store.proofs.causes.Refusals.{refused_for_ids, rows_stopped, write_stopped}
use Rattle.replica_store.proofs.causes.RowStops.{keys_once, referred, source_stopped}
use Rattle.replica_store.proofs.causes.Sizes.{mark_is_small}
use Rattle.replica_store.proofs.causes.Stops.{stopped_or}
use Rattle.replica_store.proofs.statements.Parts.{cast_int, cast_null, mark_at_one}
use Rattle.replica_store.proofs.statements.Texts.{cursor_query, first_mark_terms}

abbrev mark_edit : List ℤ → List Row → Edit
mark_edit gone news = record { table = rb_mark; gone = gone; news = news }

-- a mark that is put where none is left
mark_passes : (db : Trees) (gone : List ℤ) (place : ℕ) (removes : Bool)
    → are_fresh (without_all (db 2) gone) (mark_record place ∷ []) ≡ true → AreRowRecords (db 0) → HasKeysOnce (db 0)
    → PassesRules db (mark_edit gone (mark_record place ∷ []))
mark_passes db gone place removes fresh are once = record {
  typed = refl;
  present = refl;
  checked = refl;
  fresh = fresh;
  unique = rule_by_once (with_tree db 2 (put_all (without_all (db 2) gone) (mark_record place ∷ []))) are once;
  keyed = refl;
  referred = referred true _;
}

-- such a mark is put
mark_put : (db : Trees) (gone : List ℤ) (place : ℕ) (stop : Option Error)
    → PassesRules db (mark_edit gone (mark_record place ∷ []))
    → EditStops db (mark_edit gone (mark_record place ∷ [])) stop → ⊥
mark_put db gone place stop passes (inl refused) =
    true≢false (refused_for_ids db (mark_edit gone (mark_record place ∷ [])) refused.0 passes refused.1)
mark_put db gone place stop passes (inr big) = elim big.1 [
  | inl same ↦ mark_is_small place (subst (λ r. IsOversized replica_schema rb_mark r) same big.2)
  | inr none ↦ none
]

-- ---- UPDATE

good_cursor : (d : Database) (place : ℕ) → d.schema ≡ replica_schema
    → IsBadQuery d (record { lets = []; body = cursor_query }) (Int (pos place) ∷ []) → ⊥
good_cursor d place is (e, inl wrong) = true≢false (rw is at wrong.1)
good_cursor d place is (e, inr (inl over)) = elim over.1 [ inl group ↦ group | inr fold ↦ none_overflows _ fold ]
good_cursor d place is (e, inr (inr none)) = true≢false (sym none.1)

-- the answer has the mark, with the place
mark_found : (db : Trees) (was place : ℕ) (found : List Row) → db 2 ≡ mark_record was ∷ []
    → IsAnswer cursor_query (overlay db []) (Int (pos place) ∷ []) found
    → found ≡ (Int (pos 1) ∷ Int (pos 1) ∷ Null ∷ Int (pos place) ∷ []) ∷ []
mark_found db was place found is a =
    let params : Row = Int (pos place) ∷ [] in
    let staged : a.staged ≡ (params ∷ mark_record was ∷ []) ∷ [] = a.grouped ∙ rw is in
    let o : Output = ([], Int (pos 1) ∷ Int (pos 1) ∷ Null ∷ Int (pos place) ∷ []) in
    let kept : a.kept ≡ o ∷ [] = a.distinct ∙ ap (map (output cursor_query)) staged in
    let ordered = one_permutation o a.ordered (subst (λ k. IsPermutation k a.ordered) kept a.same) in
    a.shown ∙ ap (λ xs. page cursor_query params (map (λ (p : Output). p.1) xs)) ordered

mark_left : (rows : List Row) (was place : ℕ) → rows ≡ mark_record was ∷ []
    → are_fresh (without_all rows (pos 1 ∷ [])) (mark_record place ∷ []) ≡ true
mark_left rows was place is = rw (is, mark_at_one was) refl

pub cursor_stopped : (old : State) (place : ℕ) (text : List ℕ) (stop : Option Error) → IsInside old
    → Does old.step_limit (mode_of old) (Int (pos place) ∷ []) (record old.now { schema = replica_schema }) text None
    (Update 1 (record { lets = []; body = cursor_query })) (Err stop)
    → IsSome old.step_limit
cursor_stopped old place text stop i h =
    let db = old.now.trees in
    let d : Database = record old.now { schema = replica_schema } in
    let params : Row = Int (pos place) ∷ [] in
    let edit = λ (rows : List Row). edit_of db rb_mark (ids_of rows) Given 1 rows in
    let stops = write_stopped old.step_limit d (record { lets = []; body = cursor_query }) params edit _ stop
    (good_cursor d place refl) (λ rows. refl)
    (rows_stopped old rb_mark params (Update 1 (record { lets = []; body = cursor_query })) db stop h) in
    elim stops [
      | inl steps ↦ steps
      | inr found ↦ absurd (
          let one = mark_found db i.replica.mark.0 place found.0 i.replica.mark.1 (found.1.answer Null) in
          let is : edit found.0 ≡ mark_edit (pos 1 ∷ []) (mark_record place ∷ []) = ap edit one
          ∙ rw (cast_int (pos 1), cast_null, cast_int (pos place)) refl in
          mark_put db (pos 1 ∷ []) place stop
          (mark_passes db (pos 1 ∷ []) place true (mark_left (db 2) i.replica.mark.0 place i.replica.mark.1)
          i.replica.rows (keys_once old i))
          (subst (λ x. EditStops db x stop) is found.2))
    ]

-- ---- INSERT

good_first_mark : (d : Database) (e : Error) → RefusesSource None d [] (Values first_mark_terms 3) e → ⊥
good_first_mark d e (inl wrong) = true≢false wrong.1
good_first_mark d e (inr none) = true≢false (sym none.1)

none_fresh : (rows : List Row) (place : ℕ) → rows ≡ [] → are_fresh (without_all rows []) (mark_record place ∷ []) ≡ true
none_fresh rows place is = rw is refl

pub first_mark_stopped : (old : State) (text : List ℕ) (stop : Option Error) → HasBothTables old
    → Does old.step_limit (mode_of old) [] (record old.now { schema = replica_schema }) text None
    (Insert 1 (Values first_mark_terms 3)) (Err stop)
    → IsSome old.step_limit
first_mark_stopped old text stop was h =
    let db = old.now.trees in
    let d : Database = record old.now { schema = replica_schema } in
    elim (stopped_or (rows_stopped old rb_mark [] (Insert 1 (Values first_mark_terms 3)) db stop h)) [
      | inl source ↦ source_stopped old.step_limit d [] first_mark_terms 3 stop (good_first_mark d) source
      | inr given ↦ absurd (elim (stopped_or given.2) [
        | inl counter ↦ let e = counter in cc
        | inr counted ↦ elim (stopped_or counted.2) [
          | inl write ↦
              let edit = λ (rows : List Row). edit_of db rb_mark [] Chosen 0 rows in
              let is : edit given.0 ≡ mark_edit [] (mark_record 0 ∷ []) = ap edit given.1.1
              ∙ rw (cast_null, cast_int (pos 1), cast_int (pos 0)) refl in
              mark_put db [] 0 stop
              (mark_passes db [] 0 false (none_fresh (db 2) 0 was.unmarked) (λ r there. absurd (rw was.empty at there))
              (λ i j key b c there. absurd (rw was.empty at there)))
              (subst (λ x. EditStops db x stop) is (edit_stopped db (edit given.0) stop refl write))
          | inr wrote ↦ elim (stopped_or wrote.2) [
            | inl counts ↦ let e = counts in cc
            | inr gives ↦ let e = gives.2 in cc
          ]
        ]
      ])
    ]
