-- A subscription whose rows and cursor a replica keeps.
use Rattle.std.specs.Prelude.{◌≡◌, ℕ, None, Result, Ok, Err}
use Rattle.sqlite.specs.State.{State}
use Rattle.rb_subscriber.specs.Subscription.{SubscriptionState, cursor_of}
use Rattle.rb_subscriber.specs.declared.refusal.AcceptRefusal.TheVariants as refusal
use Rattle.rb_subscriber.specs.declared.refusal.DurableError.{DurableError}
use Rattle.rb_subscriber.specs.declared.refusal.DurableError.TheVariants as durable
use Rattle.rb_subscriber.specs.declared.refusal.SubscriptionError.{SubscriptionError}
use Rattle.rb_subscriber.specs.declared.refusal.SubscriptionError.TheVariants.{Refused}
use Rattle.replica_store.specs.Durable.{KeepsRows}

-- unless the subscription has fallen, a replica in this state has its rows and its cursor
abbrev pub KeepsSubscription : State → SubscriptionState → Type 0
KeepsSubscription s subscription = subscription.pending ≡ None
    → KeepsRows s subscription.tables.rows (cursor_of subscription)

-- the answer of an accept into a store, where nobody asks for the store's error
abbrev pub without_store : {E : Type 0} → Result ℕ (DurableError E) → Result ℕ SubscriptionError
without_store (Ok cursor) = Ok cursor
without_store (Err (durable.Accept why)) = Err why
without_store (Err (durable.Store why)) = Err (Refused refusal.Store)
