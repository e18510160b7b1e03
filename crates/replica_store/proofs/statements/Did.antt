-- What a statement that ran has done, over a replica's schema.
use Rattle.std.proofs.Common.{◌≡◌, ℕ, List, None, Ok, unwrap_or, subst}
use Rattle.sqlite.specs.Order.{Row}
use Rattle.sqlite.specs.Command.{Command}
use Rattle.sqlite.specs.Does.{Tally, Does}
use Rattle.sqlite.specs.Effect.{IsDatabase}
use Rattle.sqlite.specs.Listing.{understood}
use Rattle.sqlite.specs.State.{State, mode_of, Executes, Runs, Writes}
use Rattle.sqlite.proofs.Callers.{statement_of, runs_as}
use Rattle.replica_store.specs.Layout.{replica_schema}
use Rattle.replica_store.proofs.statements.Texts.{Means}

-- the command of a text, done from one state to another
pub record HasDone (text : List ℕ) (params : Row) (command : Command) (old new : State) (count : ℕ) : Type 0 where
  pub tally : Tally
  pub does : Does old.step_limit (mode_of old) params (record old.now { schema = replica_schema })
      (statement_of text (understood replica_schema text)) None command (Ok (tally, new.now))
  pub sound : IsDatabase new.now
  pub counted : count ≡ unwrap_or tally.rows 0

pub did : (text : List ℕ) (params : Row) (old new : State) (command : Command) (count : ℕ) → Means text command
    → ((t : List ℕ) → Runs old new None command t params count → Writes old new None command t params count)
    → old.now.schema ≡ replica_schema → Executes text params old new (Ok count)
    → HasDone text params command old new count
did text params old new command count means writes has h =
    let ran = writes _ (runs_as text params old new replica_schema has command means.command means.plain count h) in
    record {
      tally = ran.tally;
      does = subst (λ s. Does old.step_limit (mode_of old) params (record old.now { schema = s })
          (statement_of text (understood replica_schema text)) None command (Ok (ran.tally, new.now))) has ran.changed;
      sound = ran.sound;
      counted = ran.counted;
    }
