-- What a worker answers for its shard, and the first conflict of all.
use Rattle.std.specs.Prelude.{◌≡◌, ◌⊎◌, ◌++◌, ℕ, List, [], ◌∷◌, Option, Some, None, Result, Ok, Err}
use Rattle.std.specs.Prelude.{if◌then◌else◌, nat_lt}
use Rattle.std.specs.List.{IsDistinct}
use Rattle.std.specs.Map.{keys_of}
use Rattle.std.specs.FinMap as map
use Rattle.cs_model.specs.declared.row_key.RowKey.{RowKey}
use Rattle.cs_model.specs.declared.value.Value.{Value}
use Rattle.cs_apply.specs.declared.conflict.ApplyError.{ApplyError}
use Rattle.cs_apply.specs.declared.conflict.ApplyError.TheVariants.{Conflict, Memory}
use Rattle.cs_apply.specs.declared.conflict.Conflict.{Conflict as Conflicts}
use Rattle.cs_apply.specs.Errors.{ReportsConflict}
use Rattle.cs_apply.specs.SameKey.{at_key, same_key}
use Rattle.cs_apply.specs.State.{Rows}
use Rattle.par_apply.specs.declared.worker.ShardPlan.{ShardPlan}
use Rattle.par_apply.specs.RowChanges.{RowChanges, overlaid}
use Rattle.par_apply.specs.Splitting.{AreOfShard}

-- each change gives its key another row than it had
abbrev pub AreReal : Rows → RowChanges → Type 0
AreReal rows changes = (key : RowKey) (row : Option (List Value)) → at_key changes key ≡ Some row
    → map.get rows key ≡ row → ⊥

-- What is left of these where a key that keeps its row is left out.
abbrev pub Sifts : Rows → RowChanges → RowChanges → Type 0
Sifts rows [] left = left ≡ []
Sifts rows (change ∷ changes) left =
    ((map.get rows change.0 ≡ change.1) × Sifts rows changes left)
    ⊎ ((map.get rows change.0 ≡ change.1 → ⊥)
    × (rest : RowChanges) × (left ≡ change ∷ rest) × Sifts rows changes rest)

-- the changes of a shard's rows, from these rows to those of the answer
pub record AreShardChanges (shard : RowKey → ℕ) (i : ℕ) (rows : Rows) (changes : RowChanges)
    (answer : Result Rows Conflicts) : Type 0 where
  pub applied : answer ≡ Ok (overlaid rows changes)
  pub own : AreOfShard shard i changes
  pub distinct : IsDistinct same_key (keys_of changes)
  pub real : AreReal rows changes

-- a worker's answer: its changes, its first conflict, or that memory ran out
abbrev pub WorkerAnswer : Type 0
WorkerAnswer = Result ShardPlan ApplyError

abbrev pub ReportsPart : (RowKey → ℕ) → ℕ → Rows → WorkerAnswer → Result Rows Conflicts → Type 0
ReportsPart shard i rows (Ok plan) answer =
    AreShardChanges shard i rows plan.changes.items answer
ReportsPart shard i rows (Err error) answer = ReportsConflict error answer

-- the earlier of two conflicts
abbrev pub earlier_conflict : Conflicts → Conflicts → Conflicts
earlier_conflict a b = if nat_lt b.position a.position then b else a

-- the first error so far; out of memory hides any conflict, since it may hide an earlier one
abbrev pub first_error : Option ApplyError → WorkerAnswer → Option ApplyError
first_error best (Ok plan) = best
first_error None (Err error) = Some error
first_error (Some Memory) (Err error) = Some Memory
first_error (Some (Conflict a)) (Err Memory) = Some Memory
first_error (Some (Conflict a)) (Err (Conflict b)) = Some (Conflict (earlier_conflict a b))

abbrev pub first_error_from : Option ApplyError → List WorkerAnswer → Option ApplyError
first_error_from best [] = best
first_error_from best (r ∷ rs) = first_error_from (first_error best r) rs

-- the changes of all workers that answer some
abbrev pub changes_answered : List WorkerAnswer → RowChanges
changes_answered [] = []
changes_answered (Ok plan ∷ rs) = plan.changes.items ++ changes_answered rs
changes_answered (Err error ∷ rs) = changes_answered rs
