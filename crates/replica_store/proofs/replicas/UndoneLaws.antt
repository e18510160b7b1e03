-- What a call that answers an error leaves of its connection.
use Rattle.std.proofs.Common.{inl, inr, List, ℕ, Option, Some, None, Result, Ok, Err, IfErr, ◌∙◌}
use Rattle.sqlite.specs.Order.{Row}
use Rattle.sqlite_schema.specs.declared.command.Returning.{Returning}
use Rattle.sqlite.specs.State.{Fails, FailsToQuery, FailsToShow, HasCleanDisk, IsNotRun, KeepsCommit, State}
use Rattle.sqlite.specs.declared.error.Error.{Error}
use Rattle.replica_store.specs.Steps.{IsUndone, AfterError}

-- two calls of which neither commits
pub keeps_then : (old mid new : State) → KeepsCommit old mid → KeepsCommit mid new → KeepsCommit old new
keeps_then old mid new first second = record {
  was_open = λ up. first.was_open (second.was_open up);
  committed = λ up. second.committed up ∙ first.committed (second.was_open up);
}

fails_undoes : (old new : State) (too_big : Type 0) (e : Error) → Fails old new too_big e → IsUndone old new
fails_undoes old new too_big e (cause, is, has, back, tells) = inr back

not_run_undoes : (old new : State) (sql : List ℕ) (params : Row) (e : Error) → IsNotRun old new sql params e
    → IsUndone old new
unfolding IsNotRun
not_run_undoes old new sql params e (inl (is, same)) = inl same
not_run_undoes old new sql params e (inr fails) = fails_undoes old new _ e fails

shows_undoes : (old new : State) (sql : List ℕ) (c : _) (params : Row) (e : Error) (returning : Option Returning)
    → FailsToShow old new sql c params e returning → IsUndone old new
shows_undoes old new sql c params e None (db, source, refuses, same) = inl same
shows_undoes old new sql c params e (Some what) (inl (refused, same)) = inl same
shows_undoes old new sql c params e (Some what) (inr fails) = fails_undoes old new _ e fails

query_undoes : (old new : State) (sql : List ℕ) (params : Row) (e : Error) → FailsToQuery sql params old new e
    → IsUndone old new
unfolding FailsToQuery
query_undoes old new sql params e (inl not_run) = not_run_undoes old new sql params e not_run
query_undoes old new sql params e (inr (c, it, shows)) = shows_undoes old new sql c _ e c.returning shows

-- a query that fails changes nothing, or the transaction is undone
pub query_leaves : {T : Type 0} (r : Result T Error) (old new : State) (sql : List ℕ) (params : Row)
    → (HasCleanDisk new → IfErr r (FailsToQuery sql params old new)) → AfterError r IsUndone old new
query_leaves (Ok x) old new sql params fails = λ _. tt
query_leaves (Err e) old new sql params fails = λ clean. query_undoes old new sql params e (fails clean)
