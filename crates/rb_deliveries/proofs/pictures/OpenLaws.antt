-- One open subscription: what the picture is if another replaces it.
use Rattle.std.proofs.Common.{◌≡◌, ℕ, suc, ◌≤◌, true, false, cond, List, map, Some, None, option_map, slice_get}
use Rattle.std.proofs.Common.{slice_set, refl, sym, ap, ◌∙◌}
use Rattle.std.specs.List.{AllByRecursion}
use Rattle.std.proofs.lemmas.List.{map-set}
use Rattle.std.proofs.lemmas.Option.{slice_get-map}
use Rattle.rb_deliveries.specs.declared.span.Span.{Span}
use Rattle.rb_deliveries.specs.declared.span.Status.{Status}
use Rattle.rb_deliveries.specs.declared.span.Status.TheVariants.{Ready, InFlight}
use Rattle.rb_deliveries.specs.declared.rank.Rank.{Rank}
use Rattle.rb_deliveries.specs.declared.rank.Held.{Held}
use Rattle.rb_deliveries.specs.declared.sub.Sub.{Sub}
use Rattle.rb_deliveries.specs.Spans.{is_ready, is_out, with_status}
use Rattle.rb_deliveries.specs.Queues.{AreRising, earlier, spans_of, queue_held}
use Rattle.rb_deliveries.specs.Orders.{order, ready_at, out_at, out_at_status}
use Rattle.rb_deliveries.specs.Picture.{Subscription}
use Rattle.rb_deliveries.specs.Pictured.{pictured, pictured_sub}
use Rattle.rb_deliveries.specs.Subs.{sub_held, Belongs, IsGiven, IsKnown, IsNewestAt, ComesLastAt}
use Rattle.rb_deliveries.proofs.spans.ChangeLaws.{Changes, changed_spans}
use Rattle.rb_deliveries.proofs.orders.Line.{all_then}
use Rattle.rb_deliveries.proofs.subs.KnownLaws.{all_get, drawn_before, held_open}

-- subscription s of these is this one, and open
pub record IsOpen (batch front turn number : ℕ) (subs : List Sub) (s : ℕ) (sub : Sub) : Type 0 where
  pub one : 1 ≤ batch
  pub belong : AllByRecursion (Belongs front turn number) subs
  pub found : slice_get subs s ≡ Some sub
  pub is_open : sub.closed ≡ false
  pub rises : AreRising sub.queue

-- ---- what comes next

-- the next delivery's number is greater than those that were given
pub next_is_newest : (front turn number s : ℕ) (subs : List Sub) → AllByRecursion (Belongs front turn number) subs
    → IsNewestAt subs s number
next_is_newest front turn number s subs b sub found =
    all_then (IsKnown front turn number) (λ h. IsGiven number h.span.status) sub.queue.held (λ h known. known.2)
    (all_get (Belongs front turn number) subs s sub b found).are_known

-- the next turn's rank comes after those that were drawn
pub next_comes_last : (front turn number s : ℕ) (subs : List Sub) → AllByRecursion (Belongs front turn number) subs
    → ComesLastAt subs s (record { front = front; turn = suc turn })
next_comes_last front turn number s subs b sub found =
    all_then (IsKnown front turn number)
    (λ h. earlier h.rank (record { front = front; turn = suc turn }) ≡ true) sub.queue.held
    (λ h known. drawn_before front turn h.rank known.1)
    (all_get (Belongs front turn number) subs s sub b found).are_known

-- ---- which order a span stands in

-- what is out isn't ready, and what is ready isn't out
pub out_not_ready : (status : Status) → is_out status ≡ true → is_ready status ≡ false
out_not_ready (Ready taken) is = sym is
out_not_ready (InFlight number moment) is = refl

pub ready_not_out : (status : Status) → is_ready status ≡ true → is_out status ≡ false
ready_not_out (Ready taken) is = refl
ready_not_out (InFlight number moment) is = sym is

-- one that isn't ready doesn't stand in the ready order, and one that isn't out doesn't stand in the in-flight order
not_ready_at : (s : ℕ) (h : Held) → is_ready h.span.status ≡ false → ready_at s h ≡ None
not_ready_at s h is = ap (λ b. cond b (Some (h.rank, (s, h.span.first))) None) is

not_out_at : (s first : ℕ) (status : Status) → is_out status ≡ false → out_at_status s first status ≡ None
not_out_at s first (Ready taken) is = refl
not_out_at s first (InFlight number moment) is = absurd (cc)

-- so it is of a span that is this one
pub stood_not_ready : (s : ℕ) (h : Held) (span : Span) → h.span ≡ span → is_ready span.status ≡ false → ready_at s h
    ≡ None
stood_not_ready s h span same is = not_ready_at s h (ap (λ (p : Span). is_ready p.status) same ∙ is)

pub stood_not_out : (s : ℕ) (h : Held) (span : Span) → h.span ≡ span → is_out span.status ≡ false → out_at s h ≡ None
stood_not_out s h span same is = ap (λ (p : Span). out_at_status s p.first p.status) same
    ∙ not_out_at s span.first span.status is

-- ---- one subscription among the others

module _ (batch window front turn number : ℕ) (subs : List Sub) (s : ℕ) (sub : Sub)
    (o : IsOpen batch front turn number subs s sub) where
  -- the queues of all
  abbrev pub queues : List (List Held)
  queues = map (sub_held batch front) subs

  -- its queue
  pub queue_found : slice_get queues s ≡ Some (queue_held batch front sub.queue)
  queue_found = slice_get-map (sub_held batch front) subs s ∙ ap (option_map (sub_held batch front)) o.found
      ∙ ap (λ held. Some held) (held_open batch front sub o.is_open)

  -- it belongs
  pub belongs : Belongs front turn number sub
  belongs = all_get (Belongs front turn number) subs s sub o.belong o.found

  -- another one in its place
  lanes_set : (sub' : Sub) → sub'.closed ≡ false → map (sub_held batch front) (slice_set subs s sub')
      ≡ slice_set queues s (queue_held batch front sub'.queue)
  lanes_set sub' is = map-set (sub_held batch front) subs s sub'
      ∙ ap (slice_set queues s) (held_open batch front sub' is)

  -- the picture with another one in its place
  pub pictured_changed : (number' : ℕ) (sub' : Sub) (q : Subscription) (ready out : List (ℕ × ℕ))
      → sub'.closed ≡ false → pictured_sub batch front sub' ≡ q
      → order ready_at (slice_set queues s (queue_held batch front sub'.queue)) ≡ ready
      → order out_at (slice_set queues s (queue_held batch front sub'.queue)) ≡ out
      → pictured batch window front number' (slice_set subs s sub') ≡ record {
        batch = batch;
        window = window;
        front = front;
        next_delivery = number';
        subscriptions = slice_set (map (pictured_sub batch front) subs) s q;
        ready = ready;
        in_flight = out;
      }
  pictured_changed number' sub' q ready out is seen ready_is out_is =
      let subscriptions : map (pictured_sub batch front) (slice_set subs s sub')
      ≡ slice_set (map (pictured_sub batch front) subs) s q = map-set (pictured_sub batch front) subs s sub'
      ∙ ap (slice_set (map (pictured_sub batch front) subs) s) seen in
      let ready_order = ap (order ready_at) (lanes_set sub' is) ∙ ready_is in
      let out_order = ap (order out_at) (lanes_set sub' is) ∙ out_is in
      (λ i. record {
        batch = batch;
        window = window;
        front = front;
        next_delivery = number';
        subscriptions = subscriptions i;
        ready = ready_order i;
        in_flight = out_order i;
      })

  -- the spans of another one in its place, where one span of its queue changes
  pub spans_changed : (span : Span) (status : Status) (rank : Rank) (sub' : Sub) → sub'.closed ≡ false
      → Changes span status rank (queue_held batch front sub.queue) (queue_held batch front sub'.queue)
      → spans_of (sub_held batch front sub')
      ≡ with_status span.first status (spans_of (sub_held batch front sub))
  spans_changed span status rank sub' is c =
      ap spans_of (held_open batch front sub' is) ∙ changed_spans span status rank c
      ∙ ap (λ held. with_status span.first status (spans_of held)) (sym (held_open batch front sub o.is_open))
