-- What an INSERT that ran has done: it gave its table the rows of its source.
use Rattle.std.proofs.Common.{◌≡◌, ℕ, Bool, true, false, if◌then◌else◌, List, [], None, Ok, sym, ap, subst, ◌∙◌}
use Rattle.std.specs.Prelude.{MatchBool}
use Rattle.sqlite.specs.Order.{Row}
use Rattle.sqlite.specs.Table.{Table}
use Rattle.sqlite.specs.Command.TheVariants.{Insert}
use Rattle.sqlite.specs.Source.{Source}
use Rattle.sqlite.specs.Does.{Tally, OnRows}
use Rattle.sqlite.specs.Edit.{edit_of}
use Rattle.sqlite.specs.Effect.{Database}
use Rattle.sqlite.specs.Rowids.TheVariants.{Above, Chosen}
use Rattle.sqlite.specs.Rows.{Task, Written, Sourced, Edited, count_of, stamped}
use Rattle.sqlite.specs.State.{State, mode_of}
use Rattle.replica_store.specs.Layout.{replica_schema}
use Rattle.replica_store.proofs.statements.Parts.{not_stopped, value_given}

-- a statement on a table of a replica
abbrev pub task_of : State → Table → Row → Task
task_of old table params = record {
  limit = old.step_limit;
  keys = (mode_of old).keys;
  schema = replica_schema;
  table = table;
  params = params;
}

-- the rows of the source, and the trees with them in the table
pub record HasInserted (old : State) (table : Table) (params : Row) (from : Source) (after : Database) : Type 0 where
  pub rows : List Row
  pub given : Sourced old.step_limit (record old.now { schema = replica_schema }) (stamped table params) from (Ok rows)
  pub schema : after.schema ≡ replica_schema
  pub written : Edited replica_schema (mode_of old).keys old.now.trees
      (edit_of old.now.trees table [] Chosen 0 rows) (Ok after.trees)

-- a table that counts no rowids keeps no count
count_stays : (Counts Same : Type 0) (counted rises : Bool) → counted ≡ false
    → MatchBool (if counted then rises else false) Counts Same → Same
count_stays Counts Same true rises e h = absurd cc
count_stays Counts Same false rises e h = h

pub has_inserted : (old : State) (table : Table) (params : Row) (at : ℕ) (from : Source) (tally : Tally) (after : Database)
    → table.is_counted ≡ false
    → OnRows (task_of old table params) (mode_of old) None (Insert at from) old.now.trees (Ok (tally, after))
    → HasInserted old table params from after
has_inserted old table params at from tally after uncounted does =
    let done = not_stopped does in
    let now = ap (λ (p : Tally × Database). p.1) (value_given (not_stopped (not_stopped done.2).2).2) in
    let given = not_stopped done.1 in
    let counter = not_stopped given.2 in
    let written = not_stopped counter.2 in
    let counted = not_stopped written.2 in
    let trees : after.trees ≡ written.0 = ap (λ (d : Database). d.trees) now
    ∙ ap (λ (it : Written). it.trees) (value_given counted.2)
    ∙ value_given (count_stays _ _ table.is_counted _ uncounted counted.1) in
    let chosen = subst (λ b. Edited replica_schema (mode_of old).keys old.now.trees
    (edit_of old.now.trees table [] (if b then Above (count_of counter.0) else Chosen) 0 given.0) (Ok written.0))
    uncounted written.1 in
    record {
      rows = given.0;
      given = given.1;
      schema = ap (λ (d : Database). d.schema) now;
      written = subst (λ t. Edited replica_schema (mode_of old).keys old.now.trees
          (edit_of old.now.trees table [] Chosen 0 given.0) (Ok t)) (sym trees) chosen;
    }
