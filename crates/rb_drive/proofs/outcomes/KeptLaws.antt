-- A subscription that accepts into its replica is kept by it, or has fallen.
use Rattle.std.proofs.Common.{◌≡◌, ℕ, Option, Some, None, Result, Ok, Err, IfSome, OnErr}
use Rattle.std.proofs.Common.{OnOk, ap, subst, sym, ◌∙◌}
use Rattle.std.specs.FinMap as map
use Rattle.cs_apply.specs.State.{TableState}
use Rattle.rb_desk.specs.declared.delivery.Delivery.{Delivery}
use Rattle.rb_sequence.specs.Cells.{Cells}
use Rattle.rb_broker.specs.Holding.{counted_step}
use Rattle.rb_subscriber.specs.Accept.{refusal_before}
use Rattle.rb_subscriber.specs.Durable.{DurableAnswers, Falls, KeptAnswers, durable_by}
use Rattle.rb_subscriber.specs.Subscription.{SubscriptionState, cursor_of, new_subscription, own_endpoint, with_owner}
use Rattle.rb_subscriber.specs.declared.refusal.AcceptRefusal.{AcceptRefusal}
use Rattle.rb_subscriber.specs.declared.refusal.DurableError.{DurableError}
use Rattle.rb_subscriber.specs.declared.refusal.DurableError.TheVariants as durable
use Rattle.rb_subscriber.specs.declared.refusal.SubscriptionError.TheVariants.{Memory, Refused, RefusedEntries, Unseen}
use Rattle.replica_store.specs.Durable.{KeepsRows}
use Rattle.sqlite.specs.State.{State}
use Rattle.rb_drive.specs.Kept.{KeepsSubscription}

-- one that fell isn't one that has not fallen
falls_not : (cells : Cells) (delivery : Delivery) (old new : SubscriptionState) → Falls cells delivery old new
    → new.pending ≡ None → ⊥
falls_not cells delivery old new falls none =
    let fallen : Some falls.pending ≡ None = sym (ap (λ s. s.pending) falls.kept) ∙ none in cc

-- an error changes nothing, or the subscription falls
same_unless_fallen : {E : Type 0} (cells : Cells) (delivery : Delivery) (why : DurableError E)
    (old new : SubscriptionState) → KeptAnswers cells delivery (Err why) old new → new.pending ≡ None → new ≡ old
same_unless_fallen cells delivery (durable.Store why) old new h none = absurd (falls_not cells delivery old new h none)
same_unless_fallen cells delivery (durable.Accept (Refused why)) old new h none = absurd h
same_unless_fallen cells delivery (durable.Accept (RefusedEntries why shown)) old new h none = h.0
same_unless_fallen cells delivery (durable.Accept (Unseen n shown)) old new h none = h.0
same_unless_fallen cells delivery (durable.Accept (Memory shown)) old new h none = h.0

error_leaves : {E : Type 0} (refused : Option AcceptRefusal) (cells : Cells) (delivery : Delivery) (why : DurableError
    E)
    (old new : SubscriptionState) → durable_by refused cells delivery (Err why) old new → new.pending ≡ None → new ≡ old
error_leaves None cells delivery why old new h none = same_unless_fallen cells delivery why old new h none
error_leaves (Some before) cells delivery why old new h none = h.1

-- The store keeps the new subscription unless that has fallen, if it did so with the old one.
pub still_kept : {R E : Type 0} (K : R → SubscriptionState → Type 0) (cells : Cells) (delivery : Delivery)
    (result : Result ℕ (DurableError E)) (old new : SubscriptionState) (r0 r : R)
    → DurableAnswers cells delivery result old new → OnOk result (K r new)
    → OnErr result (new.pending ≡ old.pending → r ≡ r0) → (old.pending ≡ None → K r0 old) → new.pending ≡ None → K r new
still_kept K cells delivery (Ok cursor) old new r0 r answers kept unasked before none = kept
still_kept K cells delivery (Err why) old new r0 r answers kept unasked before none =
    let same : new ≡ old = error_leaves (refusal_before (own_endpoint old) delivery) cells delivery why old new
    answers none in
    let free : old.pending ≡ None = ap (λ s. s.pending) (sym same) ∙ none in
    let store : r ≡ r0 = unasked (ap (λ s. s.pending) same) in
    subst (λ x. K x new) (sym store) (subst (λ s. K r0 s) (sym same) (before free))

-- what holds of a subscription, whatever its count of steps and whatever it has seen, holds after a call of the broker
pub kept_by_call : {A E : Type 0} (P : SubscriptionState → Type 0) (result : Result A E) (old new : SubscriptionState)
    → OnOk result (new ≡ counted_step (with_owner old new.owner)) → OnErr result (new ≡ with_owner old new.owner)
    → P (counted_step (with_owner old new.owner)) → P (with_owner old new.owner) → P new
kept_by_call P (Ok done) old new ok err counted same = subst P (sym ok) counted
kept_by_call P (Err why) old new ok err counted same = subst P (sym err) same

-- a new replica keeps a new subscription with empty tables
pub new_is_kept : {R : Type 0} (replica : Option R) (st : R → State) (s : SubscriptionState) (tables : TableState)
    → s ≡ new_subscription s.sub 0 s.link tables s.owner → tables.rows ≡ map.empty
    → IfSome replica (λ r. KeepsRows (st r) map.empty 0) → IfSome replica (λ r. KeepsSubscription (st r) s)
new_is_kept None st s tables is empty new = tt
new_is_kept (Some r) st s tables is empty new = λ free.
    let rows : s.tables.rows ≡ map.empty = ap (λ t. t.tables.rows) is ∙ empty in
    let place : cursor_of s ≡ 0 = ap (λ t. cursor_of t) is in
    subst (λ n. KeepsRows (st r) s.tables.rows n) (sym place) (subst (λ t. KeepsRows (st r) t 0) (sym rows) new)
