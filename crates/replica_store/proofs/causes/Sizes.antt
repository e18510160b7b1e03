-- Rows that SQLite can't store.
use Rattle.std.proofs.Common.{inl, inr, ℕ, ℤ, pos, ◌+◌, ◌≤◌, ◌^◌, List, [], ◌∷◌, length, sym, ap}
use Rattle.std.proofs.Common.{◌∙◌, arith}
use Rattle.std.proofs.str.Laws.{order}
use Rattle.std.specs.Float.{NotNan}
use Rattle.std.proofs.lemmas.List.Elements.{All-from_recursion}
use Rattle.std.proofs.lemmas.List.Sums.{sum_by-cons}
use Rattle.std.proofs.lemmas.Nat.Bits.{bit_at-zero}
use Rattle.sqlite_value.specs.declared.value.Value.TheVariants.{Int, Blob}
use Rattle.sqlite_value.specs.Order.{number}
use Rattle.sqlite_trees.specs.View.{IsStorable}
use Rattle.sqlite_rules.specs.Edit.{IsOversized}
use Rattle.sqlite_typed.proofs.RowLemmas.{int_is_number, zero_is_number}
use Rattle.cs_model.specs.declared.row_key.RowKey.{RowKey}
use Rattle.replica_store.specs.Causes.{IsTooBig}
use Rattle.replica_store.specs.Layout.{replica_schema, rb_row, rb_mark}
use Rattle.replica_store.specs.Picture.{row_record, mark_record}
use Rattle.replica_store.proofs.statements.Parts.{zero_not_two}

row_fits : (id : ℤ) (key : RowKey) (body : List ℕ) → 72 + length key.bytes + length body ≤ 10 ^ 9
    → IsStorable 0 (row_record id key body)
row_fits id key body short = record {
  typed = λ c set. absurd (omega (arith, bit_at-zero c));
  columns = (omega arith, omega arith);
  numbers = All-from_recursion (λ v. NotNan (number v)) (row_record id key body)
      (int_is_number id, (int_is_number (pos key.table), (zero_is_number, (zero_is_number, tt))));
  short = simp sum_by-cons (omega arith);
}

entry_fits : (id : ℤ) (key : RowKey) → 72 + length key.bytes ≤ 10 ^ 9
    → IsStorable 0 (Int (pos key.table) ∷ Blob key.bytes ∷ Int id ∷ [])
entry_fits id key short = record {
  typed = λ c set. absurd (omega (arith, bit_at-zero c));
  columns = (omega arith, omega arith);
  numbers = All-from_recursion (λ v. NotNan (number v)) (Int (pos key.table) ∷ Blob key.bytes ∷ Int id ∷ [])
      (int_is_number (pos key.table), (zero_is_number, (int_is_number id, tt)));
  short = simp sum_by-cons (omega arith);
}

mark_is_storable : (place : ℕ) → IsStorable 0 (mark_record place)
mark_is_storable place = record {
  typed = λ c set. absurd (omega (arith, bit_at-zero c));
  columns = (omega arith, omega arith);
  numbers = All-from_recursion (λ v. NotNan (number v)) (mark_record place)
      (int_is_number (pos 1), (zero_is_number, (int_is_number (pos place), tt)));
  short = simp sum_by-cons (omega arith);
}

-- a row of rb_row that can't be stored has a key and a body that are too long
pub oversized_row : (id : ℤ) (key : RowKey) (body : List ℕ) → IsOversized replica_schema rb_row (row_record id key body)
    → IsTooBig key body
oversized_row id key body h = elim (order (10 ^ 9) (72 + length key.bytes + length body)) [
  | inl long ↦ long
  | inr short ↦ absurd (elim h [
    | inl row ↦ row (row_fits id key body short, omega arith)
    | inr entry ↦ elim entry.1 [
      | inl is ↦ entry.3 (rw is (entry_fits id key (omega arith)))
      | inr none ↦ none
    ]
  ])
]

-- a mark can be stored
pub mark_is_small : (place : ℕ) → IsOversized replica_schema rb_mark (mark_record place) → ⊥
mark_is_small place (inl row) = row (mark_is_storable place, omega arith)
mark_is_small place (inr entry) = elim entry.1 [
  | inl is ↦ zero_not_two (ap (λ i. i.table) (sym is) ∙ entry.2)
  | inr none ↦ none
]
