-- What a subscription is whose durable store failed while it accepted.
use Rattle.std.proofs.Common.{◌≡◌, ℕ, suc, ◌+◌, ◌≤◌, List, length, true, false, refl, sym, ap, subst, ◌∙◌}
use Rattle.std.proofs.Common.{arith, Option, Some, None, Result, Ok, Err}
use Rattle.std.specs.Option.{is_some}
use Rattle.std.specs.Prelude.{IfNone, IfSome}
use Rattle.std.specs.List.{IsDistinct}
use Rattle.std.specs.Map.{keys_of}
use Rattle.cs_apply.specs.SameKey.{same_key}
use Rattle.cs_apply.specs.Single.{single}
use Rattle.cs_apply.specs.State.{TableState}
use Rattle.cs_group.specs.Group.{group_of}
use Rattle.par_apply.specs.Durable.{changed_tables}
use Rattle.par_apply.specs.Planned.{RowsFit}
use Rattle.par_apply.specs.RowChanges.{RowChanges}
use Rattle.rb_desk.specs.declared.delivery.Delivery.{Delivery}
use Rattle.rb_sequence.specs.Cells.{AreInCells, Cells, CellToken}
use Rattle.rb_sequence.specs.Entry.{Entry}
use Rattle.rb_subscriber.specs.Accept.{HasSingleTables, accept_brought, joined_bodies, refusal_before}
use Rattle.rb_subscriber.specs.AcceptShown.{DueAnswers}
use Rattle.rb_subscriber.specs.Durable.{DurableAnswers, Falls, IsPendingOver, KeepAnswers, KeptAnswers, durable_by}
use Rattle.rb_subscriber.specs.Endpoint.{Endpoint}
use Rattle.rb_subscriber.specs.Owner.{Owner}
use Rattle.rb_subscriber.specs.Shown.{ShowDelivery, entries_told, tokens_shown}
use Rattle.rb_subscriber.specs.Subscription.{PendingAccept, SubscriptionState, own_endpoint}
use Rattle.rb_subscriber.specs.declared.keeping.KeepError.{KeepError}
use Rattle.rb_subscriber.specs.declared.keeping.KeepError.TheVariants as keep
use Rattle.rb_subscriber.specs.declared.refusal.AcceptRefusal.{AcceptRefusal}
use Rattle.rb_subscriber.specs.declared.refusal.DurableError.{DurableError}
use Rattle.rb_subscriber.specs.declared.refusal.SubscriptionError.TheVariants.{RefusedEntries}
use Rattle.rb_subscriber.specs.declared.shown.Shown.{Shown}
use Rattle.rb_subscriber.proofs.accepting.AcceptLaws.{none_is_due}
use Rattle.rb_subscriber.proofs.accepting.ShownLaws.{own_as, singly_on, state_of}

-- ---- what isn't refused has nothing pending

not_some_none : {A : Type 0} (o : Option A) → is_some o ≡ false → o ≡ None
not_some_none None is = refl
not_some_none (Some x) is = absurd cc

pub refuses_none : (e : Endpoint) (pending : Option PendingAccept) (d : Delivery) (r : Option AcceptRefusal)
    → r ≡ refusal_before e d → e.fallen ≡ is_some pending → IfNone r (pending ≡ None)
refuses_none e pending d None is fell = not_some_none pending (sym fell ∙ (none_is_due e d (sym is)).not_fallen)
refuses_none e pending d (Some why) is fell = tt

pub if_none : (o : Option PendingAccept) (P : PendingAccept → Type 0) → o ≡ None → IfSome o P
if_none o P is = subst (λ (p : Option PendingAccept). IfSome p P) (sym is) tt

-- ---- a delivery that isn't refused before its entries are asked

pub durable_free : {E : Type 0} (cells : Cells) (d : Delivery) (result : Result ℕ (DurableError E))
    (old new : SubscriptionState)
    → None ≡ refusal_before (own_endpoint old) d → KeptAnswers cells d result old new
    → DurableAnswers cells d result old new
durable_free cells d result old new free answers =
    subst (λ (o : Option AcceptRefusal). durable_by o cells d result old new) free answers

-- ---- the fall

pub pending_over : (cells : Cells) (cursor : ℕ) (base : TableState) (told shown : List CellToken) (now : TableState)
    (changes : RowChanges) (d : Delivery) → d.first ≡ suc cursor → suc cursor ≤ d.last
    → ShowDelivery cells d shown → RowsFit now changes → IsDistinct same_key (keys_of changes)
    → HasSingleTables base (entries_told told) now
    → HasSingleTables now (entries_told shown) (changed_tables now changes)
    → single now (group_of (joined_bodies (entries_told shown))) ≡ Ok (changed_tables now changes)
    → IsPendingOver cells cursor base told now (record { tokens = shown; changes = changes })
pending_over cells cursor base told shown now changes d next some are fit distinct singly more grouped = record {
  shown = subst (λ n. AreInCells cells n shown) next are.0;
  some = omega (arith, are.1, next, some);
  fit = fit;
  distinct = distinct;
  grouped = grouped;
  singly = singly_on base told shown now (changed_tables now changes) singly more;
}

-- the cursor after what is pending is the delivery's last number
pub last_shown : (cells : Cells) (d : Delivery) (cursor : ℕ) (shown : List CellToken) → d.first ≡ suc cursor
    → suc cursor ≤ d.last → ShowDelivery cells d shown → d.last ≡ cursor + length shown
last_shown cells d cursor shown next some are = omega (arith, are.1, next, some)

-- what holds of it after the fall
pub fell_holds : (cells : Cells) (base : TableState) (e new : Endpoint) (told kept : List CellToken) (p : PendingAccept)
    → new ≡ record e { fallen = true } → kept ≡ told → e.cursor ≡ e.start + length told
    → AreInCells cells (suc e.start) told → HasSingleTables base (entries_told told) e.tables
    → IsPendingOver cells e.cursor base told e.tables p
    → (new.cursor ≡ new.start + length kept) × AreInCells cells (suc new.start) kept
    × HasSingleTables base (entries_told kept) new.tables × (new.fallen ≡ true)
    × IsPendingOver cells new.cursor base kept new.tables p
fell_holds cells base e new told kept p is same at tokens singly over =
    subst (λ (x : Endpoint). holds x kept) (sym is)
    (subst (λ (xs : List CellToken). holds (record e { fallen = true }) xs) (sym same) (at, tokens, singly, refl, over))
  where
    holds : Endpoint → List CellToken → Type 0
    holds x xs = (x.cursor ≡ x.start + length xs) × AreInCells cells (suc x.start) xs
        × HasSingleTables base (entries_told xs) x.tables × (x.fallen ≡ true)
        × IsPendingOver cells x.cursor base xs x.tables p

state_falls : (cells : Cells) (d : Delivery) (owner : Owner) (sub steps : ℕ) (base : TableState)
    (batches : List (List CellToken)) (before : Option PendingAccept)
    (told shown : List CellToken) (changes : RowChanges) (e new after : Endpoint)
    → e.cursor ≡ e.start + length told → e.fallen ≡ is_some before → ShowDelivery cells d shown
    → accept_brought e (entries_told shown) d ≡ Ok after
    → after.tables ≡ changed_tables e.tables changes → new ≡ record e { fallen = true }
    → Falls cells d (state_of owner sub steps base batches before e told)
    (state_of owner sub steps base batches (Some (record { tokens = shown; changes = changes })) new told)
state_falls cells d owner sub steps base batches before told shown changes e new after at fell are accepts changed fallen = record {
  pending = record { tokens = shown; changes = changes };
  shown = are;
  after = after;
  accepts = ap (λ (x : Endpoint). accept_brought x (entries_told shown) d) (own_as owner sub steps base batches before e told at fell)
      ∙ accepts;
  changed = changed;
  kept = ap (λ (x : Endpoint). state_of owner sub steps base batches (Some (record { tokens = shown; changes = changes })) x told) fallen;
}

pub it_falls : (cells : Cells) (d : Delivery) (owner : Owner) (sub steps : ℕ) (base : TableState)
    (batches : List (List CellToken)) (before : Option PendingAccept)
    (told kept shown : List CellToken) (changes : RowChanges) (e new after : Endpoint) (s : SubscriptionState)
    → state_of owner sub steps base batches before e told ≡ s → kept ≡ told
    → e.cursor ≡ e.start + length told → e.fallen ≡ is_some before → ShowDelivery cells d shown
    → accept_brought e (entries_told shown) d ≡ Ok after
    → after.tables ≡ changed_tables e.tables changes → new ≡ record e { fallen = true }
    → Falls cells d s (state_of owner sub steps base batches (Some (record { tokens = shown; changes = changes })) new kept)
it_falls cells d owner sub steps base batches before told kept shown changes e new after s seen same at fell are accepts changed fallen =
    subst (λ (x : SubscriptionState). Falls cells d x
    (state_of owner sub steps base batches (Some (record { tokens = shown; changes = changes })) new kept)) seen
    (subst (λ (xs : List CellToken). Falls cells d (state_of owner sub steps base batches before e told)
    (state_of owner sub steps base batches (Some (record { tokens = shown; changes = changes })) new xs)) (sym same)
    (state_falls cells d owner sub steps base batches before told shown changes e new after at fell are accepts changed fallen))

-- ---- a refusal

refused_here : (cells : Cells) (d : Delivery) (owner : Owner) (sub steps : ℕ) (base : TableState)
    (batches : List (List CellToken)) (before : Option PendingAccept)
    (told kept : List CellToken) (shown : Shown) (e new : Endpoint) (why : AcceptRefusal) (s : SubscriptionState)
    → state_of owner sub steps base batches before e told ≡ s → kept ≡ told
    → e.cursor ≡ e.start + length told → e.fallen ≡ is_some before
    → ShowDelivery cells d (tokens_shown shown) → accept_brought e (entries_told (tokens_shown shown)) d ≡ Err why
    → new ≡ e → DueAnswers cells d (Err (RefusedEntries why shown)) s (state_of owner sub steps base batches before new kept)
refused_here cells d owner sub steps base batches before told kept shown e new why s seen same at fell are refuses unmoved =
    let own : own_endpoint s ≡ e = ap own_endpoint (sym seen) ∙ own_as owner sub steps base batches before e told at fell in
    let back : state_of owner sub steps base batches before new kept ≡ s =
    ap (λ (x : Endpoint). state_of owner sub steps base batches before x kept) unmoved
    ∙ ap (state_of owner sub steps base batches before e) same ∙ seen in
    (back, are, ap (λ (x : Endpoint). accept_brought x (entries_told (tokens_shown shown)) d) own ∙ refuses)

-- the same, where the cells and the entries stand elsewhere
pub refused_kept : {E : Type 0} (cells sequence : Cells) (d : Delivery) (owner : Owner) (sub steps : ℕ) (base : TableState)
    (batches : List (List CellToken)) (before : Option PendingAccept) (told kept : List CellToken) (shown : Shown) (entries : List Entry)
    (e new : Endpoint) (fault : KeepError E) (why : AcceptRefusal) (s : SubscriptionState)
    → state_of owner sub steps base batches before e told ≡ s → kept ≡ told
    → e.cursor ≡ e.start + length told → e.fallen ≡ is_some before
    → sequence ≡ cells → ShowDelivery sequence d (tokens_shown shown) → entries ≡ entries_told (tokens_shown shown)
    → fault ≡ keep.Refused why → KeepAnswers (Err fault) (accept_brought e entries d) e new
    → DueAnswers cells d (Err (RefusedEntries why shown)) s (state_of owner sub steps base batches before new kept)
refused_kept cells sequence d owner sub steps base batches before told kept shown entries e new fault why s seen same at fell
    here shows back is answers =
    let refuses = subst (λ (x : KeepError _). KeepAnswers (Err x) (accept_brought e entries d) e new) is answers in
    refused_here cells d owner sub steps base batches before told kept shown e new why s seen same at fell
    (subst (λ cs. ShowDelivery cs d (tokens_shown shown)) here shows)
    (subst (λ es. accept_brought e es d ≡ Err why) back refuses.0) refuses.1
