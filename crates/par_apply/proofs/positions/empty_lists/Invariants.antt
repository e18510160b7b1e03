use Rattle.std.proofs.Common.{◌≡◌, ◌<◌, ℕ, [], List, map, slice_index_or, vec_len}
use Rattle.par_apply.proofs.positions.empty_lists.Given as goal

-- the lists so far are empty
abbrev pub invariant-loop : goal.invariant-loop
invariant-loop l = record {
  len : vec_len l.lists ≡ l.counter;
  each : (i : ℕ) (d : List ℕ) → i < l.counter → slice_index_or (map (λ list. list.items) l.lists.items) i d ≡ [];
}
