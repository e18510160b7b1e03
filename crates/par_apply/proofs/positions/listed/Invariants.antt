use Rattle.std.proofs.Common.{◌≡◌, ◌<◌, ℕ, List, length, map, slice_index_or, take, vec_len}
use Rattle.par_apply.specs.KeyedChanges.{positions_by_key}
use Rattle.par_apply.specs.Shards.{of_shard, shard_number}
use Rattle.par_apply.proofs.positions.listed.Given as goal

-- the lists have the changes so far
abbrev pub invariant-loop-change : goal.invariant-loop-change
invariant-loop-change l = record {
  len : vec_len l.lists ≡ l.n;
  each : (i : ℕ) (d : List ℕ) → i < l.n → slice_index_or (map (λ list. list.items) l.lists.items) i d
      ≡ positions_by_key (of_shard (shard_number l.n) i) (take (length l.yielded) l.changes);
}
