-- What an UPDATE of the body under a key does to a replica's trees.
use Rattle.std.proofs.Common.{◌≡◌, inl, inr, ℕ, ◌+◌, arith, ℤ, pos, List, [], ◌∷◌, true, Ok, Err, Result, length, map}
use Rattle.std.proofs.Common.{refl, sym, ap, subst, ◌∙◌, ◌++◌, ◌⊎◌, drop, unwrap_or, IsTrue, OnOk}
use Rattle.sqlite_value.specs.declared.value.Value.TheVariants.{Null, Int}
use Rattle.sqlite.specs.Order.{Row}
use Rattle.sqlite.specs.Tree.{Trees, IsTable}
use Rattle.sqlite_trees.specs.Tree.{rowid, put_row}
use Rattle.sqlite_trees.proofs.TreeLemmas.{IsTable-put_row}
use Rattle.sqlite_sql.specs.Query.{IsAnswer, Output, output, matches, inner, end}
use Rattle.sqlite_sql.specs.Program.{overlay}
use Rattle.sqlite_sql.specs.Term.{eval_all}
use Rattle.sqlite.specs.Cast.{cast_row}
use Rattle.sqlite.specs.Command.TheVariants.{Update}
use Rattle.sqlite.specs.Edit.{edit_of, without_all, put_all, are_fresh}
use Rattle.sqlite.specs.Rowids.TheVariants.{Given}
use Rattle.sqlite_rules.specs.Lists.{Has}
use Rattle.sqlite_rules.specs.Calls.{ids_of}
use Rattle.sqlite_rules.specs.Probe.{AreFound}
use Rattle.sqlite_rules.proofs.PlaceLemmas.{given}
use Rattle.sqlite_rules.proofs.ProbeLemmas.{has_mapped, mapped_has}
use Rattle.sqlite_rules.proofs.TableLemmas.{put_all_has, put_all_keeps, put_all_adds, without_all_has}
use Rattle.sqlite.specs.Does.{Tally}
use Rattle.sqlite.specs.Rows.{Written}
use Rattle.sqlite.specs.Effect.{Database, IsDatabase}
use Rattle.sqlite.specs.declared.error.Error.{Error}
use Rattle.sqlite.specs.State.{State, Executes, ExecutesInside}
use Rattle.sqlite.proofs.Callers.{one_step}
use Rattle.std.proofs.lemmas.List.Sorted.{IsPermutation-sym}
use Rattle.cs_model.specs.declared.row_key.RowKey.{RowKey}
use Rattle.replica_store.specs.Causes.{HasIdsFor, UsesIds}
use Rattle.replica_store.specs.Layout.{replica_schema, rb_row}
use Rattle.replica_store.specs.Picture.{row_record, Stores}
use Rattle.replica_store.specs.Reading.{AreRowRecords}
use Rattle.replica_store.specs.Inside.{WithBody, IsInside, ChangesRows}
use Rattle.replica_store.proofs.causes.Ids.{fewer_ids, same_ids_left}
use Rattle.replica_store.proofs.statements.Did.{did}
use Rattle.replica_store.proofs.statements.FoundRows.{shown_is, is_shown, has_permuted, no_row_has, some_has}
use Rattle.replica_store.proofs.statements.KeyRows.{key_params, is_of_key, has_that_key, is_found, row_left, row_was}
use Rattle.replica_store.proofs.statements.KeyRows.{HasRowOf, still_rising}
use Rattle.replica_store.proofs.statements.Parts.{not_stopped, value_given, two_not_zero, cast_int}
use Rattle.replica_store.proofs.statements.Puts.{row_params, same_record, puts_in_row, takes_one_id}
use Rattle.replica_store.proofs.statements.Texts.{update_text, update_terms, update_query, key_tests, means_update}
use Rattle.replica_store.proofs.statements.Texts.{insert_text}

-- the answer has a row for each row of the key: its rowid, and the row with the body
record IsRewritten (rows : List Row) (key : RowKey) (value : List ℕ) (found : List Row) : Type 0 where
  pub sound : (x : Row) → Has found x
      → (id : ℤ) × (body : List ℕ) × Has rows (row_record id key body) × (x ≡ Int id ∷ row_record id key value)
  pub complete : (id : ℤ) (body : List ℕ) → Has rows (row_record id key body)
      → Has found (Int id ∷ row_record id key value)

rewritten : (db : Trees) (key : RowKey) (value : List ℕ) (found : List Row) → AreRowRecords (db 0)
    → IsAnswer update_query db (row_params key value) found → IsRewritten (db 0) key value found
rewritten db key value found all a =
    let params = row_params key value in
    let env = λ (r : Row). params ∷ r ∷ [] in
    let there = matches db key_tests (inner 0 end) (params ∷ []) in
    let kept : a.kept ≡ map (output update_query) there = a.distinct ∙ ap (map (output update_query)) a.grouped in
    record {
      sound = λ x h.
          let o = has_mapped (λ (k : Output). k.1) a.ordered x (subst (λ l. Has l x) a.shown h) in
          let e = has_mapped (output update_query) there o.0
          (subst (λ l. Has l o.0) kept (has_permuted a.kept a.ordered o.0 a.same o.1)) in
          let r = shown_is (is_of_key key) env (db 0) e.0 e.1 in
          let is = all r.0 r.1 in
          let same = has_that_key is.0 key is.1 is.2 (ap (is_of_key key) (sym is.3) ∙ r.2) in
          let record_is : r.0 ≡ row_record is.0 key is.2 = is.3 ∙ ap (λ k. row_record is.0 k is.2) same in (
            is.0,
            is.2,
            subst (Has (db 0)) record_is r.1,
            o.2 ∙ ap (λ (k : Output). k.1) (e.2 ∙ ap (output update_query) r.3)
                ∙ ap (λ y. eval_all update_terms (env y)) record_is,
          );
      complete = λ id body h.
          let o = output update_query (env (row_record id key body)) in
          let in_kept = subst (λ l. Has l o) (sym kept)
          (mapped_has (output update_query) there (env (row_record id key body))
          (is_shown (is_of_key key) env (db 0) (row_record id key body) h (is_found id key body))) in
          subst (λ l. Has l o.1) (sym a.shown) (mapped_has (λ (k : Output). k.1) a.ordered o
          (has_permuted a.ordered a.kept o (IsPermutation-sym _ _ a.same) in_kept));
    }

-- the rowids of an answer, as a query of these alone shows them
abbrev rowids : List Row → List Row
rowids found = map (λ (x : Row). rowid x ∷ []) found

same_ids : (found : List Row) → ids_of (rowids found) ≡ ids_of found
same_ids [] = refl
same_ids (x ∷ found) = λ i. ids_of (x ∷ []) ++ same_ids found i

rowids_found : (rows : List Row) (key : RowKey) (value : List ℕ) (found : List Row) → AreRowRecords rows
    → IsRewritten rows key value found → AreFound key_tests rows (key_params key) (rowids found)
rowids_found rows key value found all a = record {
  sound = λ x h.
      let y = has_mapped (λ (x : Row). rowid x ∷ []) found x h in
      let s = a.sound y.0 y.1 in
      (row_record s.0 key s.1, s.2, is_found s.0 key s.1, y.2 ∙ ap (λ (x : Row). rowid x ∷ []) s.3);
  complete = λ r h passes.
      let is = all r h in
      let same = has_that_key is.0 key is.1 is.2 (ap (is_of_key key) (sym is.3) ∙ passes) in
      let record_is : r ≡ row_record is.0 key is.2 = is.3 ∙ ap (λ k. row_record is.0 k is.2) same in
      let there = mapped_has (λ (x : Row). rowid x ∷ []) found _
      (a.complete is.0 is.2 (subst (Has rows) record_is h)) in
      subst (λ (y : Row). Has (rowids found) (rowid y ∷ [])) (sym record_is) there;
}

-- what an update leaves
record Rewrites (old new : State) (key : RowKey) (value : List ℕ) (count : ℕ) : Type 0 where
  pub schema : new.now.schema ≡ replica_schema
  pub sound : IsDatabase new.now
  pub found : List Row
  pub are : AreFound key_tests (old.now.trees 0) (key_params key) found
  pub news : List Row
  pub news_are : (x : Row) → Has news x
      → (id : ℤ) × (body : List ℕ) × Has (old.now.trees 0) (row_record id key body) × (x ≡ row_record id key value)
  pub news_have : (id : ℤ) (body : List ℕ) → Has (old.now.trees 0) (row_record id key body)
      → Has news (row_record id key value)
  pub fresh : are_fresh (without_all (old.now.trees 0) (ids_of found)) news ≡ true
  pub rows : new.now.trees 0 ≡ put_all (without_all (old.now.trees 0) (ids_of found)) news
  pub mark : new.now.trees 2 ≡ old.now.trees 2
  pub counted : count ≡ length news

pub cast_record : (id : ℤ) (key : RowKey) (value : List ℕ)
    → cast_row rb_row (row_record id key value) ≡ row_record id key value
cast_record id key value = rw (cast_int id, cast_int (pos key.table))

rewrites : (old new : State) (key : RowKey) (value : List ℕ) (count : ℕ) → IsInside old
    → Executes update_text (row_params key value) old new (Ok count) → Rewrites old new key value count
rewrites old new key value count i h =
    let params = row_params key value in
    let db = old.now.trees in
    let command = Update 0 (record { lets = []; body = update_query }) in
    let ran = did update_text params old new command count means_update (λ t w. w) i.schema h in
    let done = not_stopped ran.does in
    let told = value_given (not_stopped (not_stopped done.2).2).2 in
    let now = ap (λ (p : Tally × Database). p.1) told in
    let asked = not_stopped done.1 in
    let written = not_stopped asked.2 in
    let wrote = value_given written.2 in
    let found = asked.0 in
    let edit = edit_of db rb_row (ids_of found) Given 1 found in
    let applied = one_step replica_schema _ db written.0 edit refl written.1 in
    let all : new.now.trees ≡ written.0 =
    ap (λ (d : Database). d.trees) now ∙ ap (λ (it : Written). it.trees) wrote in
    let fit = rewritten (overlay db []) key value found i.replica.rows (asked.1.answer Null) in
    let cast = λ (s : Row). cast_row rb_row (drop 1 s) in
    let news = map cast found in
    let news_is : edit.news ≡ news = given _ news in
    let gone : without_all (db 0) (ids_of found) ≡ without_all (db 0) (ids_of (rowids found)) =
    ap (without_all (db 0)) (sym (same_ids found)) in
    record {
      schema = ap (λ (d : Database). d.schema) now;
      sound = ran.sound;
      found = rowids found;
      are = rowids_found (db 0) key value found i.replica.rows fit;
      news = news;
      news_are = λ x there.
          let y = has_mapped cast found x there in
          let s = fit.sound y.0 y.1 in
          (s.0, s.1, s.2, y.2 ∙ ap cast s.3 ∙ cast_record s.0 key value);
      news_have = λ id body there.
          subst (Has news) (cast_record id key value) (mapped_has cast found _ (fit.complete id body there));
      fresh = subst (λ l. are_fresh l news ≡ true) gone
          (subst (λ l. are_fresh (without_all (db 0) (ids_of found)) l ≡ true) news_is applied.fresh);
      rows = ap (λ (t : Trees). t 0) all ∙ applied.rows
          ∙ ap (put_all (without_all (db 0) (ids_of found))) news_is ∙ ap (λ l. put_all l news) gone;
      mark = ap (λ (t : Trees). t 2) all ∙ applied.tables.1.0 two_not_zero;
      counted = ran.counted ∙ ap (λ (p : Tally × Database). unwrap_or p.0.rows 0) told
          ∙ ap (λ (it : Written). length it.rows) wrote ∙ ap length news_is;
    }

rising_with : (news rows : List Row) → IsTable rows → IsTable (put_all rows news)
rising_with [] rows up = up
rising_with (r ∷ news) rows up = rising_with news (put_row r rows) (IsTable-put_row r rows up)

module _ (old new : State) (key : RowKey) (value : List ℕ) (count : ℕ) (i : IsInside old)
    (r : Rewrites old new key value count) where
  abbrev rows : List Row
  rows = old.now.trees 0

  abbrev others : List Row
  others = without_all rows (ids_of r.found)

  now_from : (x : Row) → Has (new.now.trees 0) x → Has r.news x ⊎ Has others x
  now_from x there = put_all_has r.news others x (subst (λ l. Has l x) r.rows there)

  -- the rows after it: one with the body, or one that was there and has another key
  rows_after : (k : RowKey) (b : List ℕ) → Stores new.now.trees k b → WithBody key value (Stores old.now.trees) k b
  rows_after k b s = elim (now_from (row_record s.0 k b) s.1) [
    | inl new_one ↦ let it = r.news_are _ new_one in inl (same_record it.0 s.0 key k value b it.3)
    | inr still ↦
        let it = row_was rows r.found key i.replica.rising i.replica.rows r.are s.0 k b still in inr (it.1, (s.0, it.0))
  ]

  rows_kept : (k : RowKey) (b : List ℕ) → (k ≡ key → ⊥) × Stores old.now.trees k b → Stores new.now.trees k b
  rows_kept k b other = (
    other.1.0,
    subst (λ l. Has l (row_record other.1.0 k b)) (sym r.rows)
        (put_all_keeps r.news others (row_record other.1.0 k b) r.fresh
        (row_left rows r.found key i.replica.rising i.replica.rows r.are other.1.0 k b other.0 other.1.1)),
  )

  rows_written : (count ≡ 0 → ⊥) → (k : RowKey) (b : List ℕ) → (k ≡ key) × (b ≡ value) → Stores new.now.trees k b
  rows_written some k b same =
      let x = some_has r.news (λ none. some (r.counted ∙ none)) in
      let it = r.news_are x.0 x.1 in
      let is : x.0 ≡ row_record it.0 k b = it.3 ∙ rw (same.0, same.1) refl in (
        it.0,
        subst (Has (new.now.trees 0)) is
            (subst (λ l. Has l x.0) (sym r.rows) (put_all_adds r.news others x.0 r.fresh x.1)),
      )

  no_key : count ≡ 0 → HasRowOf key (Stores old.now.trees) → ⊥
  no_key none has = no_row_has r.news _ (sym r.counted ∙ none) (r.news_have has.1.0 has.0 has.1.1)

  rows_were : count ≡ 0 → (k : RowKey) (b : List ℕ) → Stores new.now.trees k b → Stores old.now.trees k b
  rows_were none k b s = elim (now_from (row_record s.0 k b) s.1) [
    | inl new_one ↦ absurd (no_row_has r.news _ (sym r.counted ∙ none) new_one)
    | inr still ↦ (s.0, (row_was rows r.found key i.replica.rising i.replica.rows r.are s.0 k b still).0)
  ]

  ids_were : (id : ℤ) (k : RowKey) (b : List ℕ) → Has (new.now.trees 0) (row_record id k b)
      → (q : RowKey) × (c : List ℕ) × Has rows (row_record id q c)
  ids_were id k b there = elim (now_from (row_record id k b) there) [
    | inl new_one ↦
        let it = r.news_are _ new_one in
        let same : id ≡ it.0 = let e = it.3 in cc in
        (key, it.1, subst (λ a. Has rows (row_record a key it.1)) (sym same) it.2)
    | inr still ↦ (k, b, without_all_has (ids_of r.found) rows _ still)
  ]

  inside_after : IsTrue new.is_open → IsTrue new.in_transaction → IsInside new
  inside_after is_open mode = record {
    is_open = is_open;
    inside = mode;
    schema = r.schema;
    sound = r.sound;
    replica = record {
      rising = subst IsTable (sym r.rows)
          (rising_with r.news others (still_rising (ids_of r.found) rows i.replica.rising));
      rows = λ x there. elim (now_from x there) [
        | inl new_one ↦ let it = r.news_are x new_one in (it.0, key, value, it.3)
        | inr still ↦ i.replica.rows x (without_all_has (ids_of r.found) rows x still)
      ];
      mark = (i.replica.mark.0, r.mark ∙ i.replica.mark.1);
    };
  }

-- an update that found rows put the body there, and one that found none changed nothing
pub record HasUpdated (old new : State) (key : RowKey) (value : List ℕ) (count : ℕ) : Type 0 where
  pub some : (count ≡ 0 → ⊥) → ChangesRows (WithBody key value) old new
  pub no_key : count ≡ 0 → HasRowOf key (Stores old.now.trees) → ⊥
  pub same : count ≡ 0 → ChangesRows (λ rows. rows) old new
  pub ids : (n : ℕ) → HasIdsFor n old.now.trees → HasIdsFor n new.now.trees

pub updates_key : (old new : State) (key : RowKey) (value : List ℕ) (count : ℕ) → IsInside old
    → ExecutesInside 0 update_text (row_params key value) old new (Ok count) → HasUpdated old new key value count
updates_key old new key value count i h =
    let r = rewrites old new key value count i h.0 in
    let inside = inside_after old new key value count i r h.1.is_open h.1.mode in
    let none = no_key old new key value count i r in
    record {
      some = λ some. record {
        inside = inside;
        rows = λ k b. (
          rows_after old new key value count i r k b,
          λ q. elim q [
            | inl this ↦ rows_written old new key value count i r some k b this
            | inr other ↦ rows_kept old new key value count i r k b other
          ],
        );
        mark = r.mark;
      };
      no_key = none;
      ids = λ n. same_ids_left old.now.trees new.now.trees n (ids_were old new key value count i r);
      same = λ zero. record {
        inside = inside;
        rows = λ k b. (
          rows_were old new key value count i r zero k b,
          λ s. rows_kept old new key value count i r k b
              ((λ same. none zero (b, subst (λ k. Stores old.now.trees k b) same s)), s),
        );
        mark = r.mark;
      };
    }

-- and then the insertion of the row
pub updates_and_puts : (old mid new : State) (key : RowKey) (value : List ℕ) (count : ℕ) (r : Result ℕ Error)
    → HasUpdated old mid key value count → count ≡ 0 → ExecutesInside 0 insert_text (row_params key value) mid new r
    → OnOk r (ChangesRows (WithBody key value) old new)
updates_and_puts old mid new key value count (Err e) u zero h = tt
updates_and_puts old mid new key value count (Ok n) u zero h =
    let same = u.same zero in
    let none = λ (has : HasRowOf key (Stores mid.now.trees)). u.no_key zero (has.0, (same.rows key has.0).0 has.1) in
    let put = puts_in_row mid new key value (Ok n) same.inside none h in
    record {
      inside = put.inside;
      mark = put.mark ∙ same.mark;
      rows = λ k b. (
        λ s. elim ((put.rows k b).0 s) [
          | inl this ↦ inl this
          | inr other ↦ inr (other.0, (same.rows k b).0 other.1)
        ],
        λ q. elim q [
          | inl this ↦ (put.rows k b).1 (inl this)
          | inr other ↦ (put.rows k b).1 (inr (other.0, (same.rows k b).1 other.1))
        ],
      );
    }

pub updates_no_id : (old new : State) (key : RowKey) (value : List ℕ) (count : ℕ)
    → HasUpdated old new key value count → UsesIds 1 old new
updates_no_id old new key value count u n ids = fewer_ids (n + 1) n new.now.trees (omega arith) (u.ids (n + 1) ids)

pub updates_and_takes_one : (old mid new : State) (key : RowKey) (value : List ℕ) (count put : ℕ)
    → HasUpdated old mid key value count → count ≡ 0
    → ExecutesInside 0 insert_text (row_params key value) mid new (Ok put) → UsesIds 1 old new
updates_and_takes_one old mid new key value count put u zero h n ids =
    takes_one_id mid new key value put (u.same zero).inside h n (u.ids (n + 1) ids)
