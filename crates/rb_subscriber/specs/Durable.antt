-- What a subscription returns that accepts into a durable store, and what it changes.
use Rattle.std.specs.Prelude.{◌≡◌, ℕ, suc, ◌≤◌, ◌++◌, List, Option, Some, None, Result, Ok, Err}
use Rattle.std.specs.Prelude.{length, true}
use Rattle.std.specs.List.{IsDistinct}
use Rattle.std.specs.Map.{keys_of}
use Rattle.cs_apply.specs.SameKey.{same_key}
use Rattle.cs_apply.specs.Single.{single}
use Rattle.cs_apply.specs.State.{TableState}
use Rattle.cs_group.specs.Group.{group_of}
use Rattle.par_apply.specs.Durable.{changed_tables}
use Rattle.par_apply.specs.Planned.{RowsFit, planned_changes}
use Rattle.par_apply.specs.RowChanges.{RowChanges}
use Rattle.par_apply.specs.declared.planned.RowPlan.{RowPlan}
use Rattle.rb_desk.specs.declared.delivery.Delivery.{Delivery}
use Rattle.rb_sequence.specs.Cells.{AreInCells, Cells, CellToken}
use Rattle.rb_sequence.specs.Entry.{Entry}
use Rattle.rb_subscriber.specs.Accept.{AsksTables, HasSingleTables, accept_brought, joined_bodies}
use Rattle.rb_subscriber.specs.Accept.{refusal_before}
use Rattle.rb_subscriber.specs.AcceptShown.{ConflictsShown, DueAnswers}
use Rattle.rb_subscriber.specs.Endpoint.{Endpoint}
use Rattle.rb_subscriber.specs.Shown.{ShowDelivery, entries_told}
use Rattle.rb_subscriber.specs.Subscription.{PendingAccept, SubscriptionState, own_endpoint}
use Rattle.rb_subscriber.specs.declared.keeping.KeepError.{KeepError}
use Rattle.rb_subscriber.specs.declared.keeping.KeepError.TheVariants as keep
use Rattle.rb_subscriber.specs.declared.refusal.DurableError.{DurableError}
use Rattle.rb_subscriber.specs.declared.refusal.DurableError.TheVariants as durable
use Rattle.rb_subscriber.specs.declared.refusal.SubscriptionError.TheVariants.{Refused}
use Rattle.rb_subscriber.specs.declared.refusal.AcceptRefusal.{AcceptRefusal}
use Rattle.rb_subscriber.specs.declared.refusal.AcceptRefusal.TheVariants as refusal

-- ---- an endpoint that accepts into a durable store

-- The store failed in an accept that nothing else stops: these are the changes of rows that the
-- accept makes. The endpoint has fallen, and nothing else of it changes.
pub record FallsWith (plan : RowPlan) (accepted : Result Endpoint AcceptRefusal)
    (old new : Endpoint) : Type 0 where
  pub after : Endpoint
  pub accepts : accepted ≡ Ok after
  pub changed : after.tables ≡ changed_tables old.tables (planned_changes plan)
  pub fallen : new ≡ record old { fallen = true }

-- The call returns what the definition says. Out of memory comes only if the call reaches the
-- tables. An error changes nothing but that the endpoint falls where the store fails.
abbrev pub KeepAnswers : {E : Type 0} → Result ℕ (KeepError E) → Result Endpoint AcceptRefusal
    → Endpoint → Endpoint → Type 0
KeepAnswers (Ok cursor) accepted old new = (accepted ≡ Ok new) × (cursor ≡ new.cursor)
KeepAnswers (Err (keep.Refused why)) accepted old new = (accepted ≡ Err why) × (new ≡ old)
KeepAnswers (Err keep.Memory) accepted old new = AsksTables accepted × (new ≡ old)
KeepAnswers (Err (keep.Store plan why)) accepted old new = FallsWith plan accepted old new

-- The group of the bodies of these entries applies to the tables without conflict, and these are
-- the changes of rows that it makes, each of another key.
pub record PlansGroup (tables : TableState) (entries : List Entry) (changes : RowChanges)
    : Type 0 where
  pub applied : single tables (group_of (joined_bodies entries))
      ≡ Ok (changed_tables tables changes)
  pub distinct : IsDistinct same_key (keys_of changes)
  pub fit : RowsFit tables changes

-- the error isn't a refusal
abbrev pub IsNoRefusal : {E : Type 0} → KeepError E → Type 0
IsNoRefusal (keep.Refused why) = ⊥
IsNoRefusal other = Unit {0}

-- P, if the delivery is refused for a conflict
abbrev pub OnKeepConflict : {E : Type 0} → Result ℕ (KeepError E) → Type 0 → Type 0
OnKeepConflict (Err (keep.Refused (refusal.Conflict conflict))) P = P
OnKeepConflict other P = Unit {0}

-- P, if the call reaches the tables and tells what it finds: it accepts, a change conflicts, or the
-- store fails
abbrev pub OnKeepTables : {E : Type 0} → Result ℕ (KeepError E) → Type 0 → Type 0
OnKeepTables (Ok cursor) P = P
OnKeepTables (Err (keep.Refused (refusal.Conflict conflict))) P = P
OnKeepTables (Err (keep.Store plan why)) P = P
OnKeepTables other P = Unit {0}

-- P of the plan, if the store failed
abbrev pub IfStoreFailed : {E : Type 0} → Result ℕ (KeepError E) → (RowPlan → Type 0) → Type 0
IfStoreFailed (Err (keep.Store plan why)) P = P plan
IfStoreFailed other P = Unit {0}

-- P of the plan and the store's error, if the store failed
abbrev pub IfStoreError : {E : Type 0} → Result ℕ (KeepError E) → (RowPlan → E → Type 0) → Type 0
IfStoreError (Err (keep.Store plan why)) P = P plan why
IfStoreError other P = Unit {0}

-- P, if the store wasn't asked
abbrev pub IfStoreUnasked : {E : Type 0} → Result ℕ (KeepError E) → Type 0 → Type 0
IfStoreUnasked (Err (keep.Refused why)) P = P
IfStoreUnasked (Err keep.Memory) P = P
IfStoreUnasked other P = Unit {0}

-- ---- a subscription that does

-- What is pending over a subscription with this cursor, base, tokens and tables: the entries after
-- the cursor, one at least, as the cells show them, and changes of rows that fit, each of another
-- key. The changes leave what the group of the entries leaves. If all changesets apply one after
-- another without conflict, they leave the result of that.
pub record IsPendingOver (cells : Cells) (cursor : ℕ) (base : TableState) (told : List CellToken)
    (tables : TableState) (pending : PendingAccept) : Type 0 where
  pub shown : AreInCells cells (suc cursor) pending.tokens
  pub some : 1 ≤ length pending.tokens
  pub fit : RowsFit tables pending.changes
  pub distinct : IsDistinct same_key (keys_of pending.changes)
  pub grouped : single tables (group_of (joined_bodies (entries_told pending.tokens)))
      ≡ Ok (changed_tables tables pending.changes)
  pub singly : HasSingleTables base (entries_told (told ++ pending.tokens))
      (changed_tables tables pending.changes)

-- The store failed in an accept that nothing else stops. The subscription has fallen, with what is
-- pending: the entries of the delivery, and the changes that the accept makes. Nothing else of it
-- changes.
pub record Falls (cells : Cells) (delivery : Delivery) (old new : SubscriptionState)
    : Type 0 where
  pub pending : PendingAccept
  pub shown : ShowDelivery cells delivery pending.tokens
  pub after : Endpoint
  pub accepts : accept_brought (own_endpoint old) (entries_told pending.tokens) delivery ≡ Ok after
  pub changed : after.tables ≡ changed_tables old.tables pending.changes
  pub kept : new ≡ record old { pending = Some pending }

-- What it returns for a delivery that isn't refused before its entries are asked: the store's error
-- where the store fails, and else what it returns without a store.
abbrev pub KeptAnswers : {E : Type 0} → Cells → Delivery → Result ℕ (DurableError E)
    → SubscriptionState → SubscriptionState → Type 0
KeptAnswers cells delivery (Ok cursor) old new = DueAnswers cells delivery (Ok cursor) old new
KeptAnswers cells delivery (Err (durable.Accept why)) old new =
    DueAnswers cells delivery (Err why) old new
KeptAnswers cells delivery (Err (durable.Store why)) old new = Falls cells delivery old new

-- what it returns for any delivery: the refusal that asks nothing of its entries, or else this
abbrev pub durable_by : {E : Type 0} → Option AcceptRefusal → Cells → Delivery
    → Result ℕ (DurableError E) → SubscriptionState → SubscriptionState → Type 0
durable_by None cells delivery result old new = KeptAnswers cells delivery result old new
durable_by (Some why) cells delivery result old new =
    (result ≡ Err (durable.Accept (Refused why))) × (new ≡ old)

abbrev pub DurableAnswers : {E : Type 0} → Cells → Delivery → Result ℕ (DurableError E)
    → SubscriptionState → SubscriptionState → Type 0
DurableAnswers cells delivery result old new =
    durable_by (refusal_before (own_endpoint old) delivery) cells delivery result old new

-- a conflict comes only if what the cells showed conflicts too when it is applied one after another
abbrev pub DurableConflictsShown : {E : Type 0} → TableState → Result ℕ (DurableError E) → Type 0
DurableConflictsShown old (Err (durable.Accept why)) = ConflictsShown old (Err why)
DurableConflictsShown old other = Unit {0}

-- P of the store's error, if the store failed
abbrev pub IfStoreFails : {E : Type 0} → Result ℕ (DurableError E) → (E → Type 0) → Type 0
IfStoreFails (Err (durable.Store why)) P = P why
IfStoreFails other P = Unit {0}

-- P of what is pending, if it fell in this call
abbrev pub IfFell : Option PendingAccept → Option PendingAccept → (PendingAccept → Type 0) → Type 0
IfFell None (Some pending) P = P pending
IfFell other new P = Unit {0}
