-- When a database is a replica's.
use Rattle.std.proofs.Common.{◌≡◌, inl, inr, ℕ, ℤ, pos, negsuc, List, [], ◌∷◌, length, drop, codes, Bool, true, false}
use Rattle.std.proofs.Common.{◌&&◌, Some, None, Option, MatchOption, IsTrue, refl, sym, ap, subst, ◌∙◌, arith}
use Rattle.std.proofs.Common.{true≢false}
use Rattle.std.specs.List.{list_all}
use Rattle.std.specs.Option.{is_some}
use Rattle.std.proofs.lemmas.Bool.{and_parts}
use Rattle.sqlite_value.specs.declared.value.Value.{Value}
use Rattle.sqlite_value.specs.declared.value.Value.TheVariants.{Null, Int, Real, Text, Blob}
use Rattle.sqlite_value.specs.Order.{column}
use Rattle.sqlite.specs.Effect.{Database}
use Rattle.sqlite.specs.Order.{Row}
use Rattle.sqlite.specs.State.{State, HasCleanDisk, IsUnchanged}
use Rattle.sqlite.specs.Tree.{Trees, rowid}
use Rattle.sqlite_trees.specs.View.{View, is_int, IsOrdered, IsShaped}
use Rattle.sqlite_trees.specs.Objects.{catalog_tree, IsListed}
use Rattle.sqlite_schema.specs.declared.schema.Constraint.TheVariants.{Datatype, NotNull}
use Rattle.sqlite_sql.specs.Ops.{is_null}
use Rattle.sqlite.specs.Kind.TheVariants.{Integer, Any}
use Rattle.sqlite_schema.specs.Rules.{are_typed, are_present, suits}
use Rattle.sqlite_catalog.specs.Listing.{IsSound}
use Rattle.sqlite_catalog.proofs.LayoutLemmas.{laid_out, objects_rise}
use Rattle.sqlite_rules.specs.Lists.{Has}
use Rattle.sqlite_rules.proofs.ListLemmas.{all_has, test_has, fails_has}
use Rattle.sqlite_rules.proofs.TableLemmas.{int_is}
use Rattle.cs_model.specs.declared.row_key.RowKey.{RowKey}
use Rattle.replica_store.specs.Layout.{plain_column, replica_schema, rb_row, rb_mark}
use Rattle.replica_store.specs.Picture.{row_record, mark_record, HasCursor, HoldsReplica, IsReplica}
use Rattle.replica_store.specs.Reading.{HasTableColumns, AreRowRecords, ListsRows, shown_row, shown_mark, is_natural}
use Rattle.replica_store.specs.Reading.{is_blob_value, is_shown_record, IsMarkAnswer}
use Rattle.replica_store.specs.Steps.{AddsNone, KeepsColumns, WhereClean}
use Rattle.replica_store.proofs.statements.Parts.{was_clean}

ends_falsely : (a b : Bool) → (b ≡ true → ⊥) → (a && b) ≡ true → ⊥
ends_falsely true b never h = never h
ends_falsely false b never h = true≢false (sym h)

row_columns : (r : Row) → IsTrue (is_int (rowid r)) → are_typed None 0 rb_row.columns (drop 1 r) ≡ true
    → are_present None 0 rb_row.columns r ≡ true
    → (id : ℤ) × (tab : Value) × (rowkey : Value) × (body : Value) × (r ≡ Int id ∷ tab ∷ rowkey ∷ body ∷ [])
row_columns [] i t p = absurd (true≢false (sym i))
row_columns (x ∷ []) i t p = absurd (true≢false (sym p))
row_columns (x ∷ a ∷ []) i t p = absurd (true≢false (sym (and_parts _ _ p).1))
row_columns (x ∷ a ∷ b ∷ []) i t p = absurd (true≢false (sym (and_parts _ _ (and_parts _ _ p).1).1))
row_columns (x ∷ a ∷ b ∷ c ∷ []) i t p = (_, a, b, c, ap (λ v. v ∷ a ∷ b ∷ c ∷ []) (int_is x i))
row_columns (x ∷ a ∷ b ∷ c ∷ d ∷ more) i t p =
    absurd (ends_falsely (suits (plain_column (codes "tab") Integer true) a)
    (suits (plain_column (codes "rowkey") Any true) b &&
    (suits (plain_column (codes "body") Any true) c && false))
    (ends_falsely (suits (plain_column (codes "rowkey") Any true) b)
    (suits (plain_column (codes "body") Any true) c && false)
    (ends_falsely (suits (plain_column (codes "body") Any true) c) false (λ h. true≢false (sym h)))) t)

stored_null : (v : Value) → is_null v ≡ true → v ≡ Null
stored_null Null h = refl
stored_null (Int n) h = absurd (true≢false (sym h))
stored_null (Real x) h = absurd (true≢false (sym h))
stored_null (Text t) h = absurd (true≢false (sym h))
stored_null (Blob b) h = absurd (true≢false (sym h))

mark_columns : (r : Row) → IsTrue (is_int (rowid r)) → are_typed (Some 0) 0 rb_mark.columns (drop 1 r) ≡ true
    → are_present (Some 0) 0 rb_mark.columns r ≡ true
    → (id : ℤ) × (place : Value) × (r ≡ Int id ∷ Null ∷ place ∷ [])
mark_columns [] i t p = absurd (true≢false (sym i))
mark_columns (x ∷ []) i t p = absurd (true≢false (sym p))
mark_columns (x ∷ a ∷ []) i t p = absurd (true≢false (sym p))
mark_columns (x ∷ a ∷ b ∷ []) i t p = (_, b, (λ j. int_is x i j ∷ stored_null a (and_parts _ _ t).0 j ∷ b ∷ []))
mark_columns (x ∷ a ∷ b ∷ c ∷ more) i t p =
    absurd (ends_falsely (is_null a) (suits (plain_column (codes "place") Integer true) b && false)
    (ends_falsely (suits (plain_column (codes "place") Integer true) b) false (λ h. true≢false (sym h))) t)

-- a sound database with a replica's schema has the columns of its tables
pub columns_are_there : (v : View) → IsOrdered v.shape v.trees → IsListed (v.trees catalog_tree) v.shape v.reals
    → IsSound replica_schema v.trees → HasTableColumns v.trees
columns_are_there v ordered listed sound =
    let laid = laid_out listed (objects_rise v listed ordered) sound.lists.listed in
    let rows = subst (λ s. IsShaped s (v.trees 0)) laid.tables.0 (ordered 0) in
    let marks = subst (λ s. IsShaped s (v.trees 2)) laid.tables.1.0 (ordered 2) in
    let typed = sound.obeys.rules Datatype in
    let present = sound.obeys.rules NotNull in
    record {
      rising = rows.0;
      rows = λ r there. row_columns r (all_has _ (v.trees 0) r rows.1 there)
          (and_parts _ _ (all_has _ (v.trees 0) r typed.0 there)).0 (all_has _ (v.trees 0) r present.0 there);
      marks = λ r there. mark_columns r (all_has _ (v.trees 2) r marks.1 there)
          (and_parts _ _ (all_has _ (v.trees 2) r typed.1.0 there)).0 (all_has _ (v.trees 2) r present.1.0 there);
    }

stored_natural : (v : Value) → is_natural v ≡ true → (n : ℕ) × (v ≡ Int (pos n))
stored_natural Null h = absurd (true≢false (sym h))
stored_natural (Int (pos n)) h = (n, refl)
stored_natural (Int (negsuc n)) h = absurd (true≢false (sym h))
stored_natural (Real x) h = absurd (true≢false (sym h))
stored_natural (Text t) h = absurd (true≢false (sym h))
stored_natural (Blob b) h = absurd (true≢false (sym h))

stored_blob : (v : Value) → is_blob_value v ≡ true → (b : List ℕ) × (v ≡ Blob b)
stored_blob Null h = absurd (true≢false (sym h))
stored_blob (Int n) h = absurd (true≢false (sym h))
stored_blob (Real x) h = absurd (true≢false (sym h))
stored_blob (Text t) h = absurd (true≢false (sym h))
stored_blob (Blob b) h = (b, refl)

is_a_record : (r : Row) (id : ℤ) (tab rowkey body : Value) → r ≡ Int id ∷ tab ∷ rowkey ∷ body ∷ []
    → is_shown_record (shown_row r) ≡ true
    → (i : ℤ) × (key : RowKey) × (bytes : List ℕ) × (r ≡ row_record i key bytes)
is_a_record r id tab rowkey body is shown =
    let all = and_parts _ _ (rw is at shown) in
    let both = and_parts _ _ all.1 in
    let n = stored_natural tab all.0 in
    let k = stored_blob rowkey both.0 in
    let b = stored_blob body both.1 in
    (id, record { table = n.0; bytes = k.0 }, b.0, is ∙ (λ j. Int id ∷ n.1 j ∷ k.1 j ∷ b.1 j ∷ []))

pub rows_are_records : (db : Trees) (answer : List Row) → HasTableColumns db → ListsRows shown_row (db 0) answer
    → (IsTrue (list_all is_shown_record answer) → AreRowRecords (db 0))
    × (AreRowRecords (db 0) → IsTrue (list_all is_shown_record answer))
rows_are_records db answer has lists = (
  λ all r there.
      let c = has.rows r there in
      is_a_record r c.0 c.1 c.2 c.3 c.4 (test_has is_shown_record answer (shown_row r) all (lists.complete r there)),
  λ are. all_pass (list_all is_shown_record answer) refl are,
)
  where
    all_pass : (b : Bool) → list_all is_shown_record answer ≡ b → AreRowRecords (db 0) → b ≡ true
    all_pass true is are = refl
    all_pass false is are = absurd (
        let x = fails_has is_shown_record answer is in
        let r = lists.sound x.0 x.1 in
        let it = are r.0 r.1 in
        true≢false (sym (ap (λ y. is_shown_record (shown_row y)) it.3) ∙ sym (ap is_shown_record r.2) ∙ x.2))

single_row : (rows : List Row) → length rows ≡ 1 → (r : Row) × (rows ≡ r ∷ [])
single_row [] h = absurd (omega arith)
single_row (r ∷ []) h = (r, refl)
single_row (r ∷ s ∷ more) h = absurd (omega arith)

has_only : (x y : Row) → Has (y ∷ []) x → x ≡ y
has_only x y (inl same) = same
has_only x y (inr none) = absurd none

-- one answer with the id 1 and this place: there is one mark, with this place
pub mark_read : (db : Trees) (answer : List Row) (place : ℕ) → HasTableColumns db
    → ListsRows shown_mark (db 2) answer → IsMarkAnswer answer place → HasCursor db place
mark_read db answer place has lists it =
    let r = single_row (db 2) (sym lists.count ∙ ap length it.one) in
    let there : Has (db 2) r.0 = subst (λ l. Has l r.0) (sym r.1) (inl refl) in
    let c = has.marks r.0 there in
    let shown : shown_mark r.0 ≡ it.row =
    has_only _ _ (subst (λ l. Has l (shown_mark r.0)) it.one (lists.complete r.0 there)) in
    let id : Int c.0 ≡ Int (pos 1) = sym (ap (λ y. column y 0) c.2) ∙ ap (λ y. column y 0) shown ∙ it.id in
    let at : c.1 ≡ Int (pos place) = sym (ap (λ y. column y 2) c.2) ∙ ap (λ y. column y 1) shown ∙ it.at in
    r.1 ∙ ap (λ y. y ∷ []) (c.2 ∙ (λ j. id j ∷ Null ∷ at j ∷ []))

-- and the other way round
pub mark_shown : (db : Trees) (answer : List Row) (place : ℕ) → ListsRows shown_mark (db 2) answer
    → HasCursor db place → IsMarkAnswer answer place
mark_shown db answer place lists there =
    let x = single_row answer (lists.count ∙ ap length there) in
    let r = lists.sound x.0 (subst (λ l. Has l x.0) (sym x.1) (inl refl)) in
    let is : r.0 ≡ mark_record place = has_only _ _ (subst (λ l. Has l r.0) there r.1) in
    let shown : x.0 ≡ shown_mark (mark_record place) = r.2 ∙ ap shown_mark is in
    record { row = x.0; one = x.1; id = ap (λ y. column y 0) shown; at = ap (λ y. column y 1) shown }

pub mark_fits : (db : Trees) (answer : List Row) (found : Option ℕ) → HasTableColumns db
    → ListsRows shown_mark (db 2) answer
    → MatchOption found ((place : ℕ) → IsMarkAnswer answer place → ⊥) (IsMarkAnswer answer)
    → (IsTrue (is_some found) → (place : ℕ) × HasCursor db place)
    × ((place : ℕ) × HasCursor db place → IsTrue (is_some found))
mark_fits db answer None has lists none =
    (λ f. absurd (true≢false (sym f)), λ c. absurd (none c.0 (mark_shown db answer c.0 lists c.1)))
mark_fits db answer (Some place) has lists it = (λ t. (place, mark_read db answer place has lists it), λ c. refl)

-- a replica is records and a mark
pub replica_by_parts : (db : Trees) → HasTableColumns db → (records marks : Bool)
    → (IsTrue records → AreRowRecords (db 0)) × (AreRowRecords (db 0) → IsTrue records)
    → (IsTrue marks → (place : ℕ) × HasCursor db place) × ((place : ℕ) × HasCursor db place → IsTrue marks)
    → (IsTrue (records && marks) → IsReplica db) × (IsReplica db → IsTrue (records && marks))
replica_by_parts db has true marks rows mark =
    (λ m. record { rising = has.rising; rows = rows.0 refl; mark = mark.0 m }, λ r. mark.1 r.mark)
replica_by_parts db has false marks rows mark =
    (λ m. absurd (true≢false (sym m)), λ r. absurd (true≢false (sym (rows.1 r.rows))))

-- a connection that a call left as it was is open, so it has its columns
pub columns_read : (old new : State) → WhereClean KeepsColumns old → AddsNone old new → IsUnchanged old new
    → HasCleanDisk new → HasTableColumns old.now.trees
columns_read old new has survives same clean = has (was_clean old new _ survives clean) same.0.was_open

-- a replica's mark is what its query answers
pub mark_answered : (s : State) (answer : List Row) (held : HoldsReplica s)
    → ListsRows shown_mark (s.now.trees 2) answer → IsMarkAnswer answer held.replica.mark.0
mark_answered s answer held lists = mark_shown s.committed.trees answer held.replica.mark.0
    (subst (λ (d : Database). ListsRows shown_mark (d.trees 2) answer) held.settled lists) held.replica.mark.1

-- the place that is read is the one that is stored
pub cursor_read : (s : State) (answer : List Row) (read : ℕ) → HoldsReplica s
    → ListsRows shown_mark (s.now.trees 2) answer → IsMarkAnswer answer read → HasCursor s.committed.trees read
cursor_read s answer read held lists it =
    let place = held.replica.mark.0 in
    let shown = mark_answered s answer held lists in
    let row : shown.row ≡ it.row = has_only _ _
    (subst (λ l. Has l shown.row) it.one (subst (λ l. Has l shown.row) (sym shown.one) (inl refl))) in
    let same : Int (pos place) ≡ Int (pos read) = sym shown.at ∙ ap (λ y. column y 1) row ∙ it.at in
    held.replica.mark.1 ∙ ap (λ v. (Int (pos 1) ∷ Null ∷ v ∷ []) ∷ []) same
