use Rattle.std.proofs.Common.{◌≡◌, ◌+◌, length}
use Rattle.replica_store.proofs.stored_row.has_columns.Given as goal

-- so many values may still come
abbrev pub invariant-loop : goal.invariant-loop
invariant-loop l = l.left + length l.row ≡ l.count + length l.iterator'
