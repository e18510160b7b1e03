-- The ids of a replica's rows.
use Rattle.std.proofs.Common.{◌≡◌, ◌⊎◌, inl, inr, ℕ, ℤ, pos, negsuc, ◌+◌, ◌-◌, ◌^◌, ◌≤◌, ◌+ℤ◌, ◌<ℤ◌, ◌≤ℤ◌}
use Rattle.std.proofs.Common.{true, List, [], ◌∷◌, fold, refl, ap, subst, ◌∙◌, arith}
use Rattle.std.proofs.lemmas.Int.{ints}
use Rattle.std.proofs.lemmas.Bool.Decides.{nat_tests}
use Rattle.sqlite_rules.specs.Lists.{Has}
use Rattle.sqlite_sql.specs.Ops.{fits_i64}
use Rattle.sqlite.specs.Edit.{id_in, next_rowid}
use Rattle.sqlite.specs.Order.{Row}
use Rattle.sqlite.specs.Tree.{Trees, rowid}
use Rattle.cs_model.specs.declared.row_key.RowKey.{RowKey}
use Rattle.replica_store.specs.Causes.{HasIdsFor}
use Rattle.replica_store.specs.Picture.{row_record}
use Rattle.replica_store.specs.Reading.{AreRowRecords}

pub near_id : (z : ℤ) → negsuc (2 ^ 63 - 1) ≤ℤ z → z <ℤ pos (2 ^ 63) → fits_i64 z ≡ true
near_id (pos n) low high = grind (arith, ints, nat_tests)
near_id (negsuc n) low high = grind (arith, ints, nat_tests)

-- the next id is 1, or the one after the id of a row
next_id_from : (rows : List Row) (from : ℤ) → (fold (λ _ r. id_in (rowid r) +ℤ pos 1) from rows ≡ from)
    ⊎ ((r : Row) × Has rows r × (fold (λ _ r. id_in (rowid r) +ℤ pos 1) from rows ≡ id_in (rowid r) +ℤ pos 1))
next_id_from [] from = inl refl
next_id_from (r ∷ rows) from = elim (next_id_from rows (id_in (rowid r) +ℤ pos 1)) [
  | inl same ↦ inr (r, inl refl, same)
  | inr later ↦ inr (later.0, inr later.1, later.2)
]

pub next_id : (rows : List Row) → AreRowRecords rows → (next_rowid rows ≡ pos 1)
    ⊎ ((id : ℤ) × (key : RowKey) × (body : List ℕ) × Has rows (row_record id key body)
    × (next_rowid rows ≡ id +ℤ pos 1))
next_id rows are = elim (next_id_from rows (pos 1)) [
  | inl first ↦ inl first
  | inr after ↦
      let r = are after.0 after.1 in
      inr (r.0, r.1, r.2, subst (Has rows) r.3 after.1, after.2 ∙ ap (λ x. id_in (rowid x) +ℤ pos 1) r.3)
]

-- where an id is left, the next id fits
pub next_is_near : (db : Trees) → AreRowRecords (db 0) → HasIdsFor 1 db → fits_i64 (next_rowid (db 0)) ≡ true
next_is_near db are ids = elim (next_id (db 0) are) [
  | inl first ↦ rw first refl
  | inr after ↦
      let it = ids.1 after.0 after.1 after.2 after.3 in
      rw after.4 (near_id (after.0 +ℤ pos 1) (omega (arith, ints, it.0, it.1)) it.1)
]

-- fewer ids are left, too
pub fewer_ids : (n m : ℕ) (db : Trees) → m ≤ n → HasIdsFor n db → HasIdsFor m db
fewer_ids n m db less ids = (
  omega (arith, ids.0),
  λ id key body there. let it = ids.1 id key body there in (it.0, omega (arith, ints, it.1)),
)

-- a step that adds no id, and one that adds the next one
pub same_ids_left : (old new : Trees) (n : ℕ)
    → ((id : ℤ) (key : RowKey) (body : List ℕ) → Has (new 0) (row_record id key body)
    → (k : RowKey) × (b : List ℕ) × Has (old 0) (row_record id k b))
    → HasIdsFor n old → HasIdsFor n new
same_ids_left old new n from ids = (
  ids.0,
  λ id key body there. let was = from id key body there in ids.1 id was.0 was.1 was.2,
)

pub one_id_less : (old new : Trees) (n : ℕ) → AreRowRecords (old 0)
    → ((id : ℤ) (key : RowKey) (body : List ℕ) → Has (new 0) (row_record id key body)
    → (id ≡ next_rowid (old 0)) ⊎ ((k : RowKey) × (b : List ℕ) × Has (old 0) (row_record id k b)))
    → HasIdsFor (n + 1) old → HasIdsFor n new
one_id_less old new n are from ids = (
  omega (arith, ids.0),
  λ id key body there. elim (from id key body there) [
    | inl next ↦ elim (next_id (old 0) are) [
      | inl first ↦ let is : id ≡ pos 1 = next ∙ first in rw is (omega (arith, ints), omega (arith, ints, ids.0))
      | inr after ↦
          let it = ids.1 after.0 after.1 after.2 after.3 in
          let is : id ≡ after.0 +ℤ pos 1 = next ∙ after.4 in
          rw is (omega (arith, ints, it.0), omega (arith, ints, it.1))
    ]
    | inr was ↦ let it = ids.1 id was.0 was.1 was.2 in (it.0, omega (arith, ints, it.1))
  ],
)
