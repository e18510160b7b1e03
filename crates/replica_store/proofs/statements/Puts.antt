-- What the insertion of a row does to a replica's trees.
use Rattle.std.proofs.Common.{◌≡◌, inl, inr, ℕ, ℤ, pos, List, [], ◌∷◌, true, Ok, Err, Result, OnOk, refl, sym, ap}
use Rattle.std.proofs.Common.{subst, ◌∙◌}
use Rattle.sqlite_value.specs.declared.value.Value.TheVariants.{Int, Blob}
use Rattle.sqlite.specs.Order.{Row}
use Rattle.sqlite.specs.Tree.{IsTable}
use Rattle.sqlite_trees.proofs.TreeLemmas.{IsTable-put_row}
use Rattle.sqlite.specs.Source.TheVariants.{Values}
use Rattle.sqlite.specs.Command.TheVariants.{Insert}
use Rattle.sqlite.specs.Edit.{edit_of, put_all, next_rowid, are_fresh}
use Rattle.sqlite.specs.Rowids.TheVariants.{Chosen}
use Rattle.sqlite_rules.specs.Lists.{Has}
use Rattle.sqlite_rules.proofs.TableLemmas.{put_all_has, put_all_keeps, put_all_adds}
use Rattle.sqlite.specs.declared.error.Error.{Error}
use Rattle.sqlite.specs.Effect.{IsDatabase}
use Rattle.sqlite.specs.State.{State, Executes, ExecutesInside}
use Rattle.sqlite.proofs.Callers.{one_step}
use Rattle.cs_model.specs.declared.row_key.RowKey.{RowKey}
use Rattle.replica_store.specs.Causes.{UsesIds}
use Rattle.replica_store.specs.Layout.{replica_schema, rb_row}
use Rattle.replica_store.specs.Picture.{row_record, Stores, AreSameRows}
use Rattle.replica_store.specs.Inside.{WithBody, IsInside, ChangesRows}
use Rattle.replica_store.proofs.causes.Ids.{one_id_less}
use Rattle.replica_store.proofs.statements.Did.{did}
use Rattle.replica_store.proofs.statements.Inserts.{has_inserted}
use Rattle.replica_store.proofs.statements.Parts.{two_not_zero, cast_null, cast_int}
use Rattle.replica_store.proofs.statements.Texts.{insert_text, insert_terms, means_insert}
use Rattle.replica_store.proofs.statements.KeyRows.{HasRowOf, key_of_parts}

-- the parameters of an insertion and of an update
abbrev pub row_params : RowKey → List ℕ → Row
row_params key body = Int (pos key.table) ∷ Blob key.bytes ∷ Blob body ∷ []

-- what an insertion adds
record PutsRow (old new : State) (key : RowKey) (body : List ℕ) : Type 0 where
  pub schema : new.now.schema ≡ replica_schema
  pub sound : IsDatabase new.now
  pub id : ℤ
  pub id_is : id ≡ next_rowid (old.now.trees 0)
  pub fresh : are_fresh (old.now.trees 0) (row_record id key body ∷ []) ≡ true
  pub rows : new.now.trees 0 ≡ put_all (old.now.trees 0) (row_record id key body ∷ [])
  pub mark : new.now.trees 2 ≡ old.now.trees 2

puts_row : (old new : State) (key : RowKey) (body : List ℕ) (count : ℕ) → old.now.schema ≡ replica_schema
    → Executes insert_text (row_params key body) old new (Ok count) → PutsRow old new key body
puts_row old new key body count has h =
    let params = row_params key body in
    let db = old.now.trees in
    let from = Values insert_terms 4 in
    let ran = did insert_text params old new (Insert 0 from) count means_insert (λ t w. w) has h in
    let it = has_inserted old rb_row params 0 from ran.tally new.now refl ran.does in
    let edit = edit_of db rb_row [] Chosen 0 it.rows in
    let applied = one_step replica_schema _ db new.now.trees edit refl it.written in
    let id = next_rowid (db 0) in
    let news : edit.news ≡ row_record id key body ∷ [] =
    ap (λ sources. (edit_of db rb_row [] Chosen 0 sources).news) it.given.1
    ∙ rw (cast_null, cast_int (pos key.table)) in
    record {
      schema = it.schema;
      sound = ran.sound;
      id = id;
      id_is = refl;
      fresh = subst (λ new. are_fresh (db 0) new ≡ true) news applied.fresh;
      rows = applied.rows ∙ ap (put_all (db 0)) news;
      mark = applied.tables.1.0 two_not_zero;
    }

pub same_record : (id i : ℤ) (key k : RowKey) (body b : List ℕ) → row_record i k b ≡ row_record id key body
    → (k ≡ key) × (b ≡ body)
same_record id i key k body b e =
    let table : k.table ≡ key.table = cc in
    let bytes : k.bytes ≡ key.bytes = cc in
    (key_of_parts k key table bytes, cc)

row_put : (old new : State) (key : RowKey) (body : List ℕ) → (HasRowOf key (Stores old.now.trees) → ⊥)
    → PutsRow old new key body
    → AreSameRows (Stores new.now.trees) (WithBody key body (Stores old.now.trees))
row_put old new key body none p k b =
    let rows = old.now.trees 0 in
    let news = row_record p.id key body ∷ [] in (
      λ s. elim (put_all_has news rows (row_record s.0 k b) (subst (λ l. Has l (row_record s.0 k b)) p.rows s.1)) [
        | inl new ↦ elim new [ inl is ↦ inl (same_record p.id s.0 key k body b is) | inr none ↦ absurd none ]
        | inr there ↦ inr (
          (λ same. none (b, (s.0, subst (λ k. Has rows (row_record s.0 k b)) same there))),
          (s.0, there),
        )
      ],
      λ q. elim q [
        | inl new ↦ (
          p.id,
          subst (λ l. Has l (row_record p.id k b)) (sym p.rows)
              (put_all_adds news rows (row_record p.id k b) p.fresh (inl (rw (new.0, new.1) refl))),
        )
        | inr there ↦ (
          there.1.0,
          subst (λ l. Has l (row_record there.1.0 k b)) (sym p.rows)
              (put_all_keeps news rows (row_record there.1.0 k b) p.fresh there.1.1),
        )
      ],
    )

pub puts_in_row : (old new : State) (key : RowKey) (body : List ℕ) (r : Result ℕ Error) → IsInside old
    → (HasRowOf key (Stores old.now.trees) → ⊥) → ExecutesInside 0 insert_text (row_params key body) old new r
    → OnOk r (ChangesRows (WithBody key body) old new)
puts_in_row old new key body (Err e) i none h = tt
puts_in_row old new key body (Ok count) i none h =
    let p = puts_row old new key body count i.schema h.0 in
    let rep = i.replica in
    let rows = old.now.trees 0 in
    let news = row_record p.id key body ∷ [] in
    record {
      inside = record {
        is_open = h.1.is_open;
        inside = h.1.mode;
        schema = p.schema;
        sound = p.sound;
        replica = record {
          rising = subst IsTable (sym p.rows) (IsTable-put_row (row_record p.id key body) rows rep.rising);
          rows = λ r there. elim (put_all_has news rows r (subst (λ l. Has l r) p.rows there)) [
            | inl new ↦ elim new [ inl is ↦ (p.id, key, body, is) | inr none ↦ absurd none ]
            | inr old ↦ rep.rows r old
          ];
          mark = (rep.mark.0, p.mark ∙ rep.mark.1);
        };
      };
      rows = row_put old new key body none p;
      mark = p.mark;
    }

-- it uses up one id
pub takes_one_id : (old new : State) (key : RowKey) (body : List ℕ) (count : ℕ) → IsInside old
    → ExecutesInside 0 insert_text (row_params key body) old new (Ok count) → UsesIds 1 old new
takes_one_id old new key body count i h n =
    let p = puts_row old new key body count i.schema h.0 in
    let rows = old.now.trees 0 in
    let news = row_record p.id key body ∷ [] in
    one_id_less old.now.trees new.now.trees n i.replica.rows
    (λ id k b there. elim (put_all_has news rows (row_record id k b)
    (subst (λ l. Has l (row_record id k b)) p.rows there)) [
      | inl new ↦ elim new [
        | inl is ↦ inl (let same : id ≡ p.id = cc in same ∙ p.id_is)
        | inr none ↦ absurd none
      ]
      | inr was ↦ inr (k, b, was)
    ])
