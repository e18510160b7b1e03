-- The shard of a key, and the positions of a shard's changes.
use Rattle.std.specs.Prelude.{ℕ, suc, Bool, false, ◌==◌, ◌+◌, ◌%◌, List, [], ◌∷◌, Option, Some}
use Rattle.std.specs.Prelude.{None}
use Rattle.std.specs.Prelude.{sum, if◌then◌else◌}
use Rattle.cs_model.specs.declared.change.Change.{Change}
use Rattle.cs_model.specs.declared.row_key.RowKey.{RowKey}
use Rattle.cs_model.specs.declared.shape.Shape.{Shape}
use Rattle.cs_model.specs.Key.{key_of}
use Rattle.cs_model.specs.Schema.{table_index}

-- the shard of a key among `n`: the sum of its bytes and its table's index, modulo `n`
abbrev pub shard_number : ℕ → RowKey → ℕ
shard_number n key = (sum key.bytes + key.table) % n

-- whether a key is of a shard
abbrev pub of_shard : (RowKey → ℕ) → ℕ → RowKey → Bool
of_shard shard i key = shard key == i

-- whether the key of a change of this table is taken; no table, no key
abbrev pub takes_change : Option ℕ → (RowKey → Bool) → Shape → Change → Bool
takes_change None takes shape change = false
takes_change (Some table) takes shape change = takes (key_of table shape.flags change)

-- The positions of the changes whose table is in the schema and whose key is taken. The first
-- change has position `at`.
unfoldable pub taken_positions : List Shape → (RowKey → Bool) → List (Shape × Change) → ℕ → List ℕ
taken_positions schema takes [] at = []
taken_positions schema takes (x ∷ changes) at =
    if takes_change (table_index schema x.0) takes x.0 x.1
    then at ∷ taken_positions schema takes changes (suc at)
    else taken_positions schema takes changes (suc at)

-- the same for the changes of one section of a table in the schema
unfoldable pub section_positions : ℕ → Shape → (RowKey → Bool) → List Change → ℕ → List ℕ
section_positions table shape takes [] at = []
section_positions table shape takes (change ∷ changes) at =
    if takes_change (Some table) takes shape change
    then at ∷ section_positions table shape takes changes (suc at)
    else section_positions table shape takes changes (suc at)
