-- What holds of each refusal of a call, and of each thing that it may do, holds of the call: one lemma for each call.
use Rattle.std.proofs.Common.{◌≡◌, ℕ, suc, max, ◌<◌, ◌≤◌, Bool, true, false, not, cond, ◌||◌, ◌==◌, length, refl, sym}
use Rattle.std.proofs.Common.{Option, Some, None, Result, Ok, find, nat_lt, nat_le, slice_get}
use Rattle.std.specs.Prelude.{⊤}
use Rattle.std.proofs.lemmas.Bool.{false≢true, ltb-false, leb-false}
use Rattle.rb_deliveries.specs.declared.span.Span.{Span}
use Rattle.rb_deliveries.specs.Changes.{has_room}
use Rattle.rb_deliveries.specs.Picture.{Subscription}
use Rattle.rb_deliveries.specs.Spans.{beginning, cut_spans, first_ready, out_as, span_length, without_first}
use Rattle.rb_desk.specs.Calls.{subscribe, take, take_any, ack, nack, nack_opened, reconnect, unsubscribe, refused_call}
use Rattle.rb_desk.specs.Calls.{subscribed_picture, delivered_picture, nacked_picture, opened_picture, settled_span}
use Rattle.rb_desk.specs.Calls.{reconnected_picture, unsubscribed_picture, delivery_from, delivered_from}
use Rattle.rb_desk.specs.Calls.{delivered_span, delivered_any_from, delivered_any_of, delivered_any_span}
use Rattle.rb_desk.specs.Calls.{has_window_room, none_ready, acked_by, acked_span, nacked_by, nacked_span, opened_by}
use Rattle.rb_desk.specs.Calls.{opened_span, reconnected_by, unsubscribed_by}
use Rattle.rb_desk.specs.Picture.{Picture}
use Rattle.rb_desk.specs.declared.delivery.Delivery.{Delivery}
use Rattle.rb_desk.specs.declared.refusal.DeskRefusal.{DeskRefusal}
use Rattle.rb_desk.specs.declared.refusal.DeskRefusal.TheVariants as refusal

-- ---- tests

-- what holds both ways holds
pub either_case : {X : Type 0} (P : X → Type 0) (b : Bool) (x y : X) → (b ≡ true → P x) → (b ≡ false → P y)
    → P (cond b x y)
either_case P true x y h k = h refl
either_case P false x y h k = k refl

pub either_way : {X : Type 0} (P : X → Type 0) (b : Bool) (x y : X) → P x → P y → P (cond b x y)
either_way P b x y h k = either_case P b x y (λ _. h) (λ _. k)

-- neither holds
either_false : (a b : Bool) → (a || b) ≡ false → (a ≡ false) × (b ≡ false)
either_false false false h = (refl, refl)
either_false false true h = absurd (false≢true (sym h))
either_false true b h = absurd (false≢true (sym h))

test_holds : (b : Bool) → not b ≡ false → b ≡ true
test_holds true h = refl
test_holds false h = absurd (false≢true (sym h))

-- ---- answers

-- a property of what a call answers and leaves
abbrev pub CallProperty : Type 0 → Type 1
CallProperty A = Result A DeskRefusal × Picture → Type 0

-- one of what it leaves alone
abbrev pub LeavesPicture : {A : Type 0} → (Picture → Type 0) → CallProperty A
LeavesPicture P x = P x.1

abbrev pub EachRefusal : {A : Type 0} → CallProperty A → Picture → Type 0
EachRefusal P p = (why : DeskRefusal) → P (refused_call p why)

-- each span that is in flight as this delivery
abbrev pub EachInFlight : Picture → ℕ → ℕ → (Subscription → Span → Type 0) → Type 0
EachInFlight p s number Q = (q : Subscription) (span : Span) → slice_get p.subscriptions s ≡ Some q
    → out_as number q.spans ≡ Some span → Q q span

-- a call that refuses where a test holds, or else goes on
unless : {A : Type 0} (P : CallProperty A) (p : Picture) (b : Bool) (why : DeskRefusal)
    (call : Result A DeskRefusal × Picture) → P (refused_call p why) → (b ≡ false → P call)
    → P (cond b (refused_call p why) call)
unless P p b why call refused goes = either_case P b (refused_call p why) call (λ _. refused) goes

-- a call that goes by what it finds
found_or : {A X : Type 0} (P : CallProperty A) (call : Option X → Result A DeskRefusal × Picture) (o : Option X)
    → P (call None) → ((x : X) → o ≡ Some x → P (call (Some x))) → P (call o)
found_or P call None none some = none
found_or P call (Some x) none some = some x refl

-- ---- the calls

pub subscribe_case : (P : CallProperty (ℕ × ℕ)) (p : Picture) (start : ℕ) → EachRefusal P p
    → (start ≤ p.front → length p.subscriptions < 1024
    → P (
      Ok (length p.subscriptions, p.next_link),
      subscribed_picture p start (cut_spans p.limits.batch (suc start) p.front),
    ))
    → P (subscribe p start)
unfolding subscribe
subscribe_case P p start refused goes =
    unless P p (nat_lt p.front start) _ _ (refused _) (λ behind.
    unless P p (nat_le 1024 (length p.subscriptions)) _ _ (refused _) (λ few.
    goes (ltb-false _ _ behind) (leb-false _ _ few)))

pub take_case : (P : CallProperty Delivery) (p : Picture) (s link cursor now : ℕ) → EachRefusal P p
    → ((q : Subscription) (span : Span) → slice_get p.subscriptions s ≡ Some q → q.closed ≡ false
    → has_room p.limits.window q ≡ true → first_ready q.spans ≡ Some span
    → P (Ok (delivery_from p s q span), delivered_picture p s q span (max p.clock now)))
    → P (take p s link cursor now)
unfolding take
take_case P p s link cursor now refused goes =
    found_or P (delivered_from p s link cursor now) (slice_get p.subscriptions s) (refused _) (λ q here.
    unless P p (not (link == q.link)) _ _ (refused _) (λ _.
    unless P p q.closed _ _ (refused _) (λ open_.
    unless P p (not (has_room p.limits.window q)) _ _ (refused _) (λ room.
    found_or P (delivered_span p s q cursor now) (first_ready q.spans) (refused (none_ready p q cursor p.closing))
    (λ span is. goes q span here open_ (test_holds _ room) is)))))

pub take_any_case : (P : CallProperty Delivery) (p : Picture) (now : ℕ) → EachRefusal P p
    → ((at : ℕ × ℕ) (q : Subscription) (span : Span) → find (has_window_room p) p.ready ≡ Some at
    → slice_get p.subscriptions at.0 ≡ Some q → beginning at.1 q.spans ≡ Some span
    → P (Ok (delivery_from p at.0 q span), delivered_picture p at.0 q span (max p.clock now)))
    → P (take_any p now)
unfolding take_any
take_any_case P p now refused goes =
    found_or P (delivered_any_from p now) (find (has_window_room p) p.ready) (refused _) (λ at first.
    found_or P (delivered_any_of p at.0 at.1 now) (slice_get p.subscriptions at.0) (refused _) (λ q here.
    found_or P (delivered_any_span p at.0 q now) (beginning at.1 q.spans) (refused _) (λ span is.
    goes at q span first here is)))

-- a call `by` on the span that is in flight as a delivery, to a subscription that has this link
in_flight_case : {A : Type 0} (P : CallProperty A) (p : Picture) (s link number : ℕ) → EachRefusal P p
    → (by : Option Subscription → Result A DeskRefusal × Picture)
    → (on : Subscription → Option Span → Result A DeskRefusal × Picture)
    → by None ≡ refused_call p refusal.NoSuch
    → ((q : Subscription) → by (Some q)
    ≡ cond (not (link == q.link)) (refused_call p refusal.StaleLink) (on q (out_as number q.spans)))
    → ((q : Subscription) → on q None ≡ refused_call p refusal.NotInFlight)
    → EachInFlight p s number (λ q span. P (on q (Some span))) → P (by (slice_get p.subscriptions s))
in_flight_case P p s link number refused by on none some missing goes =
    found_or P by (slice_get p.subscriptions s) (rw none (refused refusal.NoSuch)) (λ q here.
    rw (some q) (unless P p (not (link == q.link)) _ _ (refused _) (λ _.
    found_or P (on q) (out_as number q.spans) (rw (missing q) (refused refusal.NotInFlight)) (λ span is.
    goes q span here is))))

pub ack_case : (P : CallProperty ℕ) (p : Picture) (s link number cursor : ℕ) → EachRefusal P p
    → EachInFlight p s number (λ q span. P (settled_span p s q span.first (without_first span.first q.spans)))
    → P (ack p s link number cursor)
unfolding ack
ack_case P p s link number cursor refused goes =
    in_flight_case P p s link number refused (acked_by p s link number cursor) (λ q. acked_span p s q cursor)
    refl (λ q. refl) (λ q. refl)
    (λ q span here is. unless P p (nat_lt cursor span.last) _ _ (refused _) (λ _. goes q span here is))

pub nack_case : (P : CallProperty ⊤) (p : Picture) (s link number : ℕ) → EachRefusal P p
    → EachInFlight p s number (λ q span. P (Ok tt, nacked_picture p s q span)) → P (nack p s link number)
unfolding nack
nack_case P p s link number refused goes =
    in_flight_case P p s link number refused (nacked_by p s link number) (nacked_span p s)
    refl (λ q. refl) (λ q. refl) goes

pub nack_opened_case : (P : CallProperty ℕ) (p : Picture) (s link number : ℕ) → EachRefusal P p
    → EachInFlight p s number (λ q span. P (Ok (span_length span), opened_picture p s q span))
    → P (nack_opened p s link number)
unfolding nack_opened
nack_opened_case P p s link number refused goes =
    in_flight_case P p s link number refused (opened_by p s link number) (opened_span p s)
    refl (λ q. refl) (λ q. refl) goes

pub reconnect_case : (P : CallProperty ℕ) (p : Picture) (s cursor : ℕ) → EachRefusal P p
    → ((q : Subscription) → slice_get p.subscriptions s ≡ Some q → q.closed ≡ false
    → q.floor ≤ cursor → cursor ≤ q.offered
    → P (Ok p.next_link, reconnected_picture p s q cursor (cut_spans p.limits.batch (suc cursor) p.front)))
    → P (reconnect p s cursor)
unfolding reconnect
reconnect_case P p s cursor refused goes =
    found_or P (reconnected_by p s cursor) (slice_get p.subscriptions s) (refused _) (λ q here.
    unless P p q.closed _ _ (refused _) (λ open_.
    unless P p (nat_lt cursor q.floor || nat_lt q.offered cursor) _ _ (refused _) (λ fits.
    let within = either_false (nat_lt cursor q.floor) (nat_lt q.offered cursor) fits in
    goes q here open_ (ltb-false _ _ within.0) (ltb-false _ _ within.1))))

pub unsubscribe_case : (P : CallProperty ⊤) (p : Picture) (s link : ℕ) → EachRefusal P p
    → ((q : Subscription) → slice_get p.subscriptions s ≡ Some q → q.closed ≡ false
    → P (Ok tt, unsubscribed_picture p s q))
    → P (unsubscribe p s link)
unfolding unsubscribe
unsubscribe_case P p s link refused goes =
    found_or P (unsubscribed_by p s link) (slice_get p.subscriptions s) (refused _) (λ q here.
    unless P p (not (link == q.link)) _ _ (refused _) (λ _.
    unless P p q.closed _ _ (refused _) (λ open_. goes q here open_)))
