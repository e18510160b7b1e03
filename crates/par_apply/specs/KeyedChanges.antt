-- The changes of a changeset that `split` lists: each with its position and its key.
use Rattle.std.specs.Prelude.{ℕ, Bool, List, map}
use Rattle.std.specs.List.{filter}
use Rattle.cs_model.specs.declared.row_key.RowKey.{RowKey}
use Rattle.cs_model.specs.KeyBytes.{key_bytes}
use Rattle.par_apply.specs.declared.positions.KeyedChange.{KeyedChange}
use Rattle.par_apply.specs.Shards.{shard_number}

-- the key of a change, from the record that identifies its row
abbrev pub key_read : KeyedChange → RowKey
key_read change =
    record { table = change.table; bytes = key_bytes change.flags.now change.from }

-- the shard of a change's key among `n`
abbrev pub shard_read : ℕ → KeyedChange → ℕ
shard_read n change = shard_number n (key_read change)

-- the positions of the changes whose key is taken
abbrev pub positions_by_key : (RowKey → Bool) → List KeyedChange → List ℕ
positions_by_key takes changes =
    map (λ change. change.position) (filter (λ change. takes (key_read change)) changes)
