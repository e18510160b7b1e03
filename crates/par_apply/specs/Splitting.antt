-- The splitting law: how the answers of all shards make one answer.
use Rattle.std.specs.Prelude.{◌≡◌, ◌⊎◌, ◌<◌, ℕ, List, [], Option, Some, Result, Ok, Err}
use Rattle.std.specs.Prelude.{slice_index_or}
use Rattle.std.specs.List.{flat_map}
use Rattle.std.specs.FinMap as map
use Rattle.cs_model.specs.declared.row_key.RowKey.{RowKey}
use Rattle.cs_model.specs.declared.value.Value.{Value}
use Rattle.cs_apply.specs.declared.conflict.Conflict.{Conflict}
use Rattle.cs_apply.specs.SameKey.{at_key}
use Rattle.cs_apply.specs.State.{Rows}
use Rattle.par_apply.specs.RowChanges.{RowChanges}

-- each key has in the rows what it has in its shard's rows
abbrev pub AreShardRows : (RowKey → ℕ) → (ℕ → Rows) → Rows → Type 0
AreShardRows shard parts rows = (key : RowKey) → map.get (parts (shard key)) key ≡ map.get rows key

-- the conflict of some key's shard, at the least position of all shards' conflicts
abbrev pub IsFirstOfShards : (RowKey → ℕ) → (ℕ → Result Rows Conflict) → Conflict → Type 0
IsFirstOfShards shard parts conflict = (key : RowKey) × (parts (shard key) ≡ Err conflict)
    × ((i : ℕ) (other : Conflict) → parts i ≡ Err other
    → (other ≡ conflict) ⊎ (conflict.position < other.position))

-- The splitting law. If no shard's changes conflict, each key has in the rows what it has in its
-- shard's rows. Else the conflict is the one at the least position of all shards' conflicts.
abbrev pub SplitsInto : (RowKey → ℕ) → (ℕ → Result Rows Conflict) → Result Rows Conflict → Type 0
SplitsInto shard parts (Ok rows) =
    (each : ℕ → Rows) × ((i : ℕ) → parts i ≡ Ok (each i)) × AreShardRows shard each rows
SplitsInto shard parts (Err conflict) = IsFirstOfShards shard parts conflict

-- changes in which each key has what it has in its shard's changes, in any order
abbrev pub AreAllShards : (RowKey → ℕ) → (ℕ → RowChanges) → RowChanges → Type 0
AreAllShards shard parts changes =
    (key : RowKey) → at_key changes key ≡ at_key (parts (shard key)) key

-- changes of keys of one shard alone
abbrev pub AreOfShard : (RowKey → ℕ) → ℕ → RowChanges → Type 0
AreOfShard shard i changes = (key : RowKey) (row : Option (List Value))
    → at_key changes key ≡ Some row → shard key ≡ i

-- the list at an index, or none
abbrev pub list_at : List RowChanges → ℕ → RowChanges
list_at lists i = slice_index_or lists i []

-- one list after another
abbrev pub joined_parts : List RowChanges → RowChanges
joined_parts lists = flat_map (λ changes. changes) lists
