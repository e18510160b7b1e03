-- What the answer to the query of all rows shows is what is stored.
use Rattle.std.proofs.Common.{◌≡◌, ℕ, ℤ, List, refl, sym, ap, subst, ◌∙◌}
use Rattle.sqlite.specs.Order.{Row}
use Rattle.sqlite.specs.Effect.{Database}
use Rattle.sqlite.specs.State.{State}
use Rattle.sqlite_rules.specs.Lists.{Has}
use Rattle.cs_model.specs.declared.row_key.RowKey.{RowKey}
use Rattle.cs_model.specs.declared.shape.Shape.{Shape}
use Rattle.cs_apply.specs.State.{TableState}
use Rattle.replica_store.specs.Picture.{StoredRows, Stores, AreSameRows, HoldsReplica, row_record}
use Rattle.replica_store.specs.Reading.{ListsRows, shown_row}
use Rattle.replica_store.specs.Loading.{AreSchemaRows, ShowsBody, ShownBodies, AllShow, LoadsRows}
use Rattle.replica_store.proofs.replicas.LoadLaws.{shows_one}

shows_its_record : (x r : Row) (id : ℤ) (key : RowKey) (body : List ℕ) → x ≡ shown_row r
    → r ≡ row_record id key body → ShowsBody x key body
shows_its_record x r id key body shown is =
    subst (λ y. ShowsBody y key body) (sym (shown ∙ ap shown_row is)) (record { table = refl; bytes = refl; is = refl })

module _ (s : State) (answer : List Row) (held : HoldsReplica s)
    (lists : ListsRows shown_row (s.now.trees 0) answer) where
  -- the answer lists the rows that are committed
  stored : ListsRows shown_row (s.committed.trees 0) answer
  stored = subst (λ (d : Database). ListsRows shown_row (d.trees 0) answer) held.settled lists

  pub all_show : AllShow answer
  all_show x there =
      let r = stored.sound x there in
      let it = held.replica.rows r.0 r.1 in
      (it.1, it.2, shows_its_record x r.0 it.0 it.1 it.2 r.2 it.3)

  pub shown_is_stored : AreSameRows (Stores s.committed.trees) (ShownBodies answer)
  shown_is_stored key body = (
    λ h. (
      shown_row (row_record h.0 key body),
      stored.complete (row_record h.0 key body) h.1,
      record { table = refl; bytes = refl; is = refl },
    ),
    λ h.
        let r = stored.sound h.0 h.1 in
        let it = held.replica.rows r.0 r.1 in
        let one = shows_one h.0 it.1 key it.2 body (shows_its_record h.0 r.0 it.0 it.1 it.2 r.2 it.3) h.2 in
        let same : r.0 ≡ row_record it.0 key body = it.3 ∙ (λ j. row_record it.0 (sym one.0 j) (sym one.1 j)) in
        (it.0, subst (Has (s.committed.trees 0)) same r.1),
  )

pub loads_same_rows : (schema : List Shape) (a b : StoredRows) (tables : TableState) → AreSameRows a b
    → LoadsRows schema b tables → LoadsRows schema a tables
loads_same_rows schema a b tables same l = record {
  schema_is = l.schema_is;
  keeps_all = l.keeps_all;
  rows_are = λ key body. (
    λ s. (l.rows_are key body).0 ((same key body).0 s),
    λ h. (same key body).1 ((l.rows_are key body).1 h),
  );
}

pub same_schema_rows : (schema : List Shape) (a b : StoredRows) → AreSameRows a b → AreSchemaRows schema a
    → AreSchemaRows schema b
same_schema_rows schema a b same are = record {
  each = λ key body s. are.each key body ((same key body).1 s);
  once = λ key first second one two. are.once key first second ((same key first).1 one) ((same key second).1 two);
}
