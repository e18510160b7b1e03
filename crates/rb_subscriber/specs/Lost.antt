-- A subscription that fell, and the two states that its durable store may have.
use Rattle.std.specs.Prelude.{◌≡◌, ◌⊎◌, ℕ, ◌+◌, ◌-◌, ◌++◌, ◌==◌, List, [], ◌∷◌, Option, Some, None}
use Rattle.std.specs.Prelude.{if◌then◌else◌, not, length, take}
use Rattle.cs_apply.specs.State.{TableState}
use Rattle.par_apply.specs.Durable.{changed_tables}
use Rattle.par_apply.specs.RowChanges.{RowChanges}
use Rattle.rb_sequence.specs.Cells.{CellToken}
use Rattle.rb_subscriber.specs.Subscription.{PendingAccept, SubscriptionState, cursor_of}

-- the tokens and the changes that are pending; none, if nothing is
abbrev pub pending_tokens : Option PendingAccept → List CellToken
pending_tokens None = []
pending_tokens (Some pending) = pending.tokens

abbrev pub pending_changes : Option PendingAccept → RowChanges
pending_changes None = []
pending_changes (Some pending) = pending.changes

-- the cursor and the tables after what is pending
abbrev pub cursor_after : SubscriptionState → ℕ
cursor_after s = cursor_of s + length (pending_tokens s.pending)

abbrev pub tables_after : SubscriptionState → TableState
tables_after s = changed_tables s.tables (pending_changes s.pending)

-- Tables and a cursor that the subscription may go on with: those from before what is pending, or
-- those after it.
abbrev pub FitsLost : SubscriptionState → TableState → ℕ → Type 0
FitsLost s tables cursor = ((cursor ≡ cursor_of s) × (tables ≡ s.tables))
    ⊎ ((cursor ≡ cursor_after s) × (tables ≡ tables_after s))

-- The subscription that goes on with these tables after this cursor, under this link: it has the
-- tokens up to the cursor, what was pending as one batch if that is before the cursor, and nothing
-- is pending.
abbrev pub gone_on : SubscriptionState → TableState → ℕ → ℕ → SubscriptionState
gone_on s tables cursor link = record s {
  link = link;
  tables = tables;
  told = take (cursor - s.start) (s.told ++ pending_tokens s.pending);
  batches = if not (cursor == cursor_of s) then s.batches ++ pending_tokens s.pending ∷ []
      else s.batches;
  pending = None;
}
