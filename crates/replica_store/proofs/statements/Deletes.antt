-- What the deletion of a key does to a replica's trees.
use Rattle.std.proofs.Common.{◌≡◌, ℕ, ◌+◌, List, [], Ok, Err, Result, OnOk, refl, sym, ap, subst, ◌∙◌, arith}
use Rattle.sqlite_value.specs.declared.value.Value.TheVariants.{Null}
use Rattle.sqlite.specs.Order.{Row}
use Rattle.sqlite.specs.Tree.{Trees, IsTable}
use Rattle.sqlite_sql.specs.Query.{IsAnswer}
use Rattle.sqlite_sql.specs.Program.{overlay}
use Rattle.sqlite.specs.Command.TheVariants.{Delete}
use Rattle.sqlite.specs.Edit.{edit_of, without_all}
use Rattle.sqlite.specs.Rowids.TheVariants.{Given}
use Rattle.sqlite_rules.specs.Lists.{Has}
use Rattle.sqlite_rules.specs.Calls.{ids_of}
use Rattle.sqlite_rules.specs.Probe.{AreFound}
use Rattle.sqlite_rules.proofs.ProbeLemmas.{rowid_query, found_rowids}
use Rattle.sqlite_rules.proofs.TableLemmas.{without_all_has}
use Rattle.sqlite.specs.Does.{Tally}
use Rattle.sqlite.specs.Rows.{Written}
use Rattle.sqlite.specs.Effect.{Database, IsDatabase}
use Rattle.sqlite.specs.declared.error.Error.{Error}
use Rattle.sqlite.specs.State.{State, Executes, ExecutesInside}
use Rattle.sqlite.proofs.Callers.{one_step}
use Rattle.cs_model.specs.declared.row_key.RowKey.{RowKey}
use Rattle.replica_store.specs.Causes.{UsesIds}
use Rattle.replica_store.specs.Layout.{replica_schema, rb_row}
use Rattle.replica_store.specs.Picture.{row_record, Stores, AreSameRows, IsReplica}
use Rattle.replica_store.specs.Inside.{WithoutRow, IsInside, ChangesRows}
use Rattle.replica_store.proofs.causes.Ids.{fewer_ids, same_ids_left}
use Rattle.replica_store.proofs.statements.Did.{did}
use Rattle.replica_store.proofs.statements.Parts.{not_stopped, value_given, two_not_zero}
use Rattle.replica_store.proofs.statements.Texts.{delete_text, key_tests, delete_query, means_delete}
use Rattle.replica_store.proofs.statements.KeyRows.{key_params, row_left, row_was, still_rising}

-- no LIMIT, said in two ways
unpaged : (db : Trees) (params : Row) (rows : List Row) → IsAnswer delete_query db params rows
    → IsAnswer (rowid_query 0 key_tests) db params rows
unpaged db params rows a = record {
  staged = a.staged;
  grouped = a.grouped;
  kept = a.kept;
  distinct = a.distinct;
  ordered = a.ordered;
  same = a.same;
  sorted = a.sorted;
  shown = a.shown;
}

-- what a deletion leaves
record Deletes (old new : State) (key : RowKey) : Type 0 where
  pub schema : new.now.schema ≡ replica_schema
  pub sound : IsDatabase new.now
  pub found : List Row
  pub are : AreFound key_tests (old.now.trees 0) (key_params key) found
  pub rows : new.now.trees 0 ≡ without_all (old.now.trees 0) (ids_of found)
  pub mark : new.now.trees 2 ≡ old.now.trees 2

deletes : (old new : State) (key : RowKey) (count : ℕ) → old.now.schema ≡ replica_schema
    → Executes delete_text (key_params key) old new (Ok count) → Deletes old new key
deletes old new key count has h =
    let params = key_params key in
    let db = old.now.trees in
    let command = Delete 0 (record { lets = []; body = delete_query }) in
    let ran = did delete_text params old new command count means_delete (λ t w. w) has h in
    let done = not_stopped ran.does in
    let now = ap (λ (p : Tally × Database). p.1) (value_given (not_stopped (not_stopped done.2).2).2) in
    let given = not_stopped done.1 in
    let written = not_stopped given.2 in
    let trees : done.0.trees ≡ written.0 = ap (λ (it : Written). it.trees) (value_given written.2) in
    let edit = edit_of db rb_row (ids_of given.0) Given 0 [] in
    let applied = one_step replica_schema _ db written.0 edit refl written.1 in
    let all : new.now.trees ≡ written.0 = ap (λ (d : Database). d.trees) now ∙ trees in
    record {
      schema = ap (λ (d : Database). d.schema) now;
      sound = ran.sound;
      found = given.0;
      are = found_rowids 0 key_tests (overlay db []) params given.0
          (unpaged (overlay db []) params given.0 (given.1.answer Null));
      rows = ap (λ (t : Trees). t 0) all ∙ applied.rows;
      mark = ap (λ (t : Trees). t 2) all ∙ applied.tables.1.0 two_not_zero;
    }

rows_deleted : (old new : State) (key : RowKey) → IsReplica old.now.trees → Deletes old new key
    → AreSameRows (Stores new.now.trees) (WithoutRow key (Stores old.now.trees))
rows_deleted old new key rep d k b =
    let rows = old.now.trees 0 in (
      λ s. let x = row_was rows d.found key rep.rising rep.rows d.are s.0 k b
          (subst (λ l. Has l (row_record s.0 k b)) d.rows s.1) in (x.1, (s.0, x.0)),
      λ p. (
        p.1.0,
        subst (λ l. Has l (row_record p.1.0 k b)) (sym d.rows)
            (row_left rows d.found key rep.rising rep.rows d.are p.1.0 k b p.0 p.1.1),
      ),
    )

pub takes_out_key : (old new : State) (key : RowKey) (r : Result ℕ Error) → IsInside old
    → ExecutesInside 0 delete_text (key_params key) old new r → OnOk r (ChangesRows (WithoutRow key) old new)
takes_out_key old new key (Err e) i h = tt
takes_out_key old new key (Ok count) i h =
    let d = deletes old new key count i.schema h.0 in
    let rep = i.replica in
    record {
      inside = record {
        is_open = h.1.is_open;
        inside = h.1.mode;
        schema = d.schema;
        sound = d.sound;
        replica = record {
          rising = subst IsTable (sym d.rows) (still_rising (ids_of d.found) (old.now.trees 0) rep.rising);
          rows = λ r there. rep.rows r (without_all_has (ids_of d.found) (old.now.trees 0) r
              (subst (λ l. Has l r) d.rows there));
          mark = (rep.mark.0, d.mark ∙ rep.mark.1);
        };
      };
      rows = rows_deleted old new key rep d;
      mark = d.mark;
    }

-- it uses up no id
pub takes_no_id : (old new : State) (key : RowKey) (r : Result ℕ Error) → IsInside old
    → ExecutesInside 0 delete_text (key_params key) old new r → OnOk r (UsesIds 1 old new)
takes_no_id old new key (Err e) i h = tt
takes_no_id old new key (Ok count) i h =
    let d = deletes old new key count i.schema h.0 in
    λ n ids. fewer_ids (n + 1) n new.now.trees (omega arith)
    (same_ids_left old.now.trees new.now.trees (n + 1)
    (λ id k b there. (
      k,
      b,
      without_all_has (ids_of d.found) (old.now.trees 0) (row_record id k b)
          (subst (λ l. Has l (row_record id k b)) d.rows there),
    )) ids)
