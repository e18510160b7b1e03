-- A conflict of one entry is shown: by the entry after the cursor, whose group has it.
use Rattle.std.proofs.Common.{◌≡◌, ℕ, suc, ◌<◌, List, [], ◌∷◌, ◌++◌, length, slice_index_or, zero, arith}
use Rattle.std.proofs.Common.{Option, Some, None, Result, Ok, Err, refl, sym, ap, subst, ◌∙◌}
use Rattle.std.specs.List.{AllByRecursion}
use Rattle.cs_apply.specs.Single.{single}
use Rattle.cs_apply.specs.State.{TableState}
use Rattle.cs_apply.specs.declared.conflict.Conflict.{Conflict}
use Rattle.cs_group.specs.Group.{group_of}
use Rattle.rb_desk.specs.declared.delivery.Delivery.{Delivery}
use Rattle.rb_sequence.specs.Cells.{AreInCells, Cells}
use Rattle.rb_sequence.specs.Entry.{Entry}
use Rattle.rb_subscriber.specs.Accept.{accept_brought, applied, applied_if_admitted, first_outside_entry, joined_bodies}
use Rattle.rb_subscriber.specs.Accept.{refusal_before, taken_unless_refused}
use Rattle.rb_subscriber.specs.AcceptShown.{DueAnswers, RefusesFirst, ShownAnswers}
use Rattle.rb_subscriber.specs.Durable.{DurableAnswers, durable_by}
use Rattle.rb_subscriber.specs.Endpoint.{Endpoint}
use Rattle.rb_subscriber.specs.Shown.{entries_told, tokens_shown}
use Rattle.rb_subscriber.specs.Subscription.{SubscriptionState, own_endpoint}
use Rattle.rb_subscriber.specs.declared.refusal.AcceptRefusal.{AcceptRefusal}
use Rattle.rb_subscriber.specs.declared.refusal.AcceptRefusal.TheVariants as refusal
use Rattle.rb_subscriber.specs.declared.refusal.DurableError.{DurableError}
use Rattle.rb_subscriber.specs.declared.refusal.DurableError.TheVariants as durable
use Rattle.rb_subscriber.specs.declared.refusal.SubscriptionError.{SubscriptionError}
use Rattle.rb_subscriber.specs.declared.refusal.SubscriptionError.TheVariants.{Refused, RefusedEntries}
use Rattle.rb_subscriber.specs.declared.shown.Shown.{Shown}
use Rattle.rb_subscriber.proofs.accepting.AcceptLaws.{none_is_due}
use Rattle.rb_drive.specs.declared.accepting.EndedSubscriber.{EndedSubscriber}
use Rattle.rb_drive.specs.declared.ending.SubscriberEnd.{SubscriberEnd}
use Rattle.rb_drive.specs.declared.ending.SubscriberEnd.TheVariants as way
use Rattle.rb_drive.specs.Ending.{HasShownConflict, ShowsConflict, ShowsOneConflict}
use Rattle.rb_drive.specs.Kept.{without_store}
use Rattle.rb_drive.specs.Outcome.{IsEndAt}

-- ---- what an accept says

conflict_of_applied : (old : Endpoint) (last : ℕ) (r : Result TableState Conflict) (conflict : Conflict)
    → applied old last r ≡ Err (refusal.Conflict conflict) → r ≡ Err conflict
conflict_of_applied old last (Ok tables) conflict e = absurd cc
conflict_of_applied old last (Err found) conflict e = let same : found ≡ conflict = cc in ap (λ (c : Conflict). Err c) same

conflict_of_admitted : (old : Endpoint) (last : ℕ) (entries : List Entry) (o : Option Entry) (conflict : Conflict)
    → applied_if_admitted old last entries o ≡ Err (refusal.Conflict conflict)
    → single old.tables (group_of (joined_bodies entries)) ≡ Err conflict
conflict_of_admitted old last entries None conflict e =
    conflict_of_applied old last (single old.tables (group_of (joined_bodies entries))) conflict e
conflict_of_admitted old last entries (Some entry) conflict e = absurd cc

conflict_of_group : (old : Endpoint) (entries : List Entry) (delivery : Delivery) (conflict : Conflict)
    → refusal_before old delivery ≡ None
    → accept_brought old entries delivery ≡ Err (refusal.Conflict conflict)
    → single old.tables (group_of (joined_bodies entries)) ≡ Err conflict
unfolding accept_brought
conflict_of_group old entries delivery conflict free e =
    conflict_of_admitted old delivery.last entries (first_outside_entry old.tables.schema entries) conflict
    (subst (λ (o : Option AcceptRefusal). taken_unless_refused o
    (applied_if_admitted old delivery.last entries (first_outside_entry old.tables.schema entries))
    ≡ Err (refusal.Conflict conflict)) free e)

-- what is returned for a conflict of these entries
abbrev Refusing : Conflict → Shown → Result ℕ SubscriptionError
Refusing conflict shown = Err (RefusedEntries (refusal.Conflict conflict) shown)

due_shows : (cells : Cells) (delivery : Delivery) (conflict : Conflict) (shown : Shown) (old new : SubscriptionState)
    → refusal_before (own_endpoint old) delivery ≡ None → DueAnswers cells delivery (Refusing conflict shown) old new
    → delivery.first ≡ delivery.last → ShowsConflict cells new conflict (tokens_shown shown)
due_shows cells delivery conflict shown old new free answers one =
    let tokens = tokens_shown shown in
    let due = none_is_due (own_endpoint old) delivery free in
    let here : ShowsConflict cells old conflict tokens = (
      subst (λ n. AreInCells cells n tokens) due.next answers.1.0,
      answers.1.1 ∙ omega (arith, one),
      conflict_of_group (own_endpoint old) (entries_told tokens) delivery conflict free answers.2,
    ) in
    subst (λ (s : SubscriptionState). ShowsConflict cells s conflict tokens) (sym answers.0) here

shows_by : (cells : Cells) (delivery : Delivery) (conflict : Conflict) (shown : Shown) (old new : SubscriptionState)
    (before : Option AcceptRefusal) → refusal_before (own_endpoint old) delivery ≡ before
    → RefusesFirst before (DueAnswers cells delivery (Refusing conflict shown) old new) (Refusing conflict shown) old new
    → delivery.first ≡ delivery.last → ShowsConflict cells new conflict (tokens_shown shown)
shows_by cells delivery conflict shown old new None free answers one =
    due_shows cells delivery conflict shown old new free answers one
shows_by cells delivery conflict shown old new (Some why) is answers one =
    let both : Refusing conflict shown ≡ Err (Refused why) = answers.0 in absurd cc

pub shown_shows : (cells : Cells) (delivery : Delivery) (result : Result ℕ SubscriptionError)
    (old new : SubscriptionState) → ShownAnswers cells delivery result old new
    → ShowsOneConflict cells delivery result new
shown_shows cells delivery result old new answers = λ conflict shown is one.
    shows_by cells delivery conflict shown old new (refusal_before (own_endpoint old) delivery) refl
    (subst (λ (r : Result ℕ SubscriptionError). ShownAnswers cells delivery r old new) is answers) one

-- a store's error is no conflict, and any other error is one without the store
answers_without : {E : Type 0} (cells : Cells) (delivery : Delivery) (result : Result ℕ (DurableError E))
    (conflict : Conflict) (shown : Shown) (old new : SubscriptionState) (before : Option AcceptRefusal)
    → without_store result ≡ Refusing conflict shown → durable_by before cells delivery result old new
    → RefusesFirst before (DueAnswers cells delivery (Refusing conflict shown) old new) (Refusing conflict shown) old new
answers_without cells delivery (Ok cursor) conflict shown old new before is answers = absurd cc
answers_without cells delivery (Err (durable.Store why)) conflict shown old new before is answers = absurd cc
answers_without cells delivery (Err (durable.Accept why)) conflict shown old new None is answers =
    subst (λ (r : Result ℕ SubscriptionError). DueAnswers cells delivery r old new) is answers
answers_without {E} cells delivery (Err (durable.Accept why)) conflict shown old new (Some first) is answers =
    let both : Err (durable.Accept why) ≡ Err (durable.Accept (Refused first)) = answers.0 in
    let same : why ≡ Refused first = cc in (sym is ∙ ap (λ (w : SubscriptionError). Err w) same, answers.1)

pub durable_shows : {E : Type 0} (cells : Cells) (delivery : Delivery) (result : Result ℕ (DurableError E))
    (old new : SubscriptionState) → DurableAnswers cells delivery result old new
    → ShowsOneConflict cells delivery (without_store result) new
durable_shows cells delivery result old new answers = λ conflict shown is one.
    let before = refusal_before (own_endpoint old) delivery in
    shows_by cells delivery conflict shown old new before refl
    (answers_without cells delivery result conflict shown old new before is answers) one

-- who has shown a conflict has ended as one should
pub conflict_is_end : (cells : Cells) (placed : ℕ) (s : SubscriptionState) (ending : SubscriberEnd) (conflict : Conflict)
    (shown : Shown) → ending ≡ way.Conflict conflict shown → HasShownConflict cells s ending
    → IsEndAt cells placed s ending
conflict_is_end cells placed s ending conflict shown is has =
    let here : ShowsConflict cells s conflict (tokens_shown shown) =
    subst (λ (e : SubscriberEnd). HasShownConflict cells s e) is has in
    subst (λ (e : SubscriberEnd). IsEndAt cells placed s e) (sym is) here

-- ---- lists of what shows its conflict

-- one more, after the others
all_then_one : {A : Type 0} (P : A → Type 0) (xs : List A) (x : A) → AllByRecursion P xs → P x
    → AllByRecursion P (xs ++ x ∷ [])
all_then_one P [] x all one = (one, tt)
all_then_one P (y ∷ xs) x all one = (all.0, all_then_one P xs x all.1 one)

-- the one at a place
one_of_all : {A : Type 0} (P : A → Type 0) (xs : List A) (i : ℕ) (d : A) → i < length xs → AllByRecursion P xs
    → P (slice_index_or xs i d)
one_of_all P [] i d less all = absurd (omega (arith, less))
one_of_all P (x ∷ xs) zero d less all = all.0
one_of_all P (x ∷ xs) (suc i) d less all = one_of_all P xs i d (omega (arith, less)) all.1

abbrev pub ShowsItsEnd : {L : Type 0} → Cells → EndedSubscriber L → Type 0
ShowsItsEnd cells one = HasShownConflict cells one.subscription one.ending

abbrev pub AllShowTheirEnd : {L : Type 0} → Cells → List (EndedSubscriber L) → Type 0
AllShowTheirEnd cells all = AllByRecursion (ShowsItsEnd cells) all

pub more_shown : {L : Type 0} (cells : Cells) (all : List (EndedSubscriber L)) (one : EndedSubscriber L)
    → AllShowTheirEnd cells all → ShowsItsEnd cells one → AllShowTheirEnd cells (all ++ one ∷ [])
more_shown cells all one have has = all_then_one (ShowsItsEnd cells) all one have has

pub shown_at : {L : Type 0} (cells : Cells) (all : List (EndedSubscriber L)) (i : ℕ) (one d : EndedSubscriber L)
    → i < length all → one ≡ slice_index_or all i d → AllShowTheirEnd cells all → ShowsItsEnd cells one
shown_at cells all i one d less is have =
    subst (ShowsItsEnd cells) (sym is) (one_of_all (ShowsItsEnd cells) all i d less have)
