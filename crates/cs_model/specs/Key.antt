-- The key of a row: the one that a change is about, and the order of keys.
use Rattle.std.specs.Prelude.{◌≡◌, ◌++◌, ◌∷◌, [], ◌&&◌, ℕ, List, nat_eq, refl, true}
use Rattle.std.proofs.Common.{sym}
use Rattle.std.specs.Cmp.{first_so, second_so, unsigned_Decides}
use Rattle.std.specs.Hash as fed
use Rattle.std.specs.declared.cmp.Ordering.{Ordering}
use Rattle.std.specs.Ordering.{nat_cmp, ordering_then}
use Rattle.std.specs.Cmp.Lexicographic.{same_text, slice_cmp}
use Rattle.std.specs.Coded.{Coded, code_by, coded×, coded_ℕ, coded_list}
use Rattle.cs_model.specs.declared.change.Change.{Change}
use Rattle.cs_model.specs.declared.row_key.RowKey.{RowKey}
use Rattle.cs_model.specs.KeyBytes.{key_bytes, key_record}
use Rattle.cs_model.specs.Schema.{same_bytes}

-- the key of the row that a change is about; its table has this index and these key flags
abbrev pub key_of : ℕ → List ℕ → Change → RowKey
key_of table flags change =
    record {
      table = table;
      bytes = key_bytes flags
          (key_record change.op change.before change.after);
    }

-- the order of keys: by the table, then by the bytes
abbrev pub row_key_cmp : RowKey → RowKey → Ordering
row_key_cmp a b = ordering_then (nat_cmp a.table b.table) (slice_cmp nat_cmp a.bytes b.bytes)

-- a key is stored as the pair of its fields
abbrev pub row_key_code : Coded RowKey
row_key_code =
    code_by (ℕ × List ℕ) (coded× coded_ℕ (coded_list coded_ℕ)) (λ k. (k.table, k.bytes))
    (λ p. record { table = p.0; bytes = p.1 }) (λ _. refl)

-- what a key feeds a hasher: its table, and all its bytes at once
abbrev pub key_fed : RowKey → fed.HashWrites
key_fed k = fed.usize k.table ++ k.bytes ∷ []

-- equal keys feed alike
pub keys_alike : (a b : RowKey) → (nat_eq a.table b.table && same_bytes a.bytes b.bytes) ≡ true
    → key_fed a ≡ key_fed b
keys_alike a b same = λ i. fed.usize
    ((unsigned_Decides a.table b.table).0
    (first_so (nat_eq a.table b.table) (same_bytes a.bytes b.bytes) same) i)
    ++ same_text a.bytes b.bytes
    (sym (second_so (nat_eq a.table b.table) (same_bytes a.bytes b.bytes) same)) i ∷ []
