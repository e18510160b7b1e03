-- The picture after a subscription is made, continues after a cursor, or is closed.
use Rattle.std.proofs.Common.{◌≡◌, ℕ, suc, ◌-◌, ◌<◌, ◌≤◌, Bool, true, false, cond, List, [], ◌∷◌, ◌++◌, length, map}
use Rattle.std.proofs.Common.{Some, option_map, filter_map, slice_get, slice_set, nat_le}
use Rattle.std.proofs.Common.{append-nil, refl, sym, ap, ◌∙◌, arith}
use Rattle.std.specs.List.{AllByRecursion}
use Rattle.std.proofs.lemmas.Bool.{le-leb}
use Rattle.std.proofs.lemmas.List.{map-append, map-set, length-map}
use Rattle.std.proofs.lemmas.Option.{slice_get-map}
use Rattle.rb_deliveries.specs.declared.rank.Rank.{Rank}
use Rattle.rb_deliveries.specs.declared.rank.Held.{Held}
use Rattle.rb_deliveries.specs.declared.span.Span.{Span}
use Rattle.rb_deliveries.specs.declared.sub.Sub.{Sub}
use Rattle.rb_deliveries.specs.Spans.{fresh, cut_spans}
use Rattle.rb_deliveries.specs.Queues.{AreRising, HeldRise, floor_before, queue_floor, cut_queue, ranked}
use Rattle.rb_deliveries.specs.Queues.{spans_of, queue_held}
use Rattle.rb_deliveries.specs.Orders.{order, ready_at, out_at}
use Rattle.rb_deliveries.specs.Picture.{DeliveryPicture, Subscription}
use Rattle.rb_deliveries.specs.Changes.{named, subscribed_spans, reconnected_spans, unsubscribed_from}
use Rattle.rb_deliveries.specs.Pictured.{pictured, pictured_sub}
use Rattle.rb_deliveries.specs.Subs.{sub_held, Belongs, new_sub, reconnected_sub, closed_sub}
use Rattle.rb_deliveries.proofs.spans.CutLaws.{cut_ends, cut_induction}
use Rattle.rb_deliveries.proofs.spans.QueueLaws.{queue_spans_is, joins_reach}
use Rattle.rb_deliveries.proofs.orders.Line.{all_both, all_then}
use Rattle.rb_deliveries.proofs.subs.KnownLaws.{all_set, all_get, drawn_before, known_belongs_later}
use Rattle.rb_deliveries.proofs.pictures.EarlierLaws.{out_earlier, ready_earlier}
use Rattle.rb_deliveries.proofs.orders.OrderLaws.{tagged_ready, tagged_out, order_cleared, order_replaced, order_pushed}
use Rattle.rb_deliveries.proofs.orders.OrderLaws.{cut_out}

-- the spans of a cutting are ready, with its rank, up to the rank's front
pub cut_ready : (batch front a s : ℕ) (t : Rank) → 1 ≤ batch → front ≤ t.front
    → filter_map (ready_at s) (ranked t (cut_spans batch a front))
    ≡ map (λ x. (t, x)) (named s (cut_spans batch a front))
cut_ready batch front a s t one le =
    cut_induction batch front
    (λ a spans. filter_map (ready_at s) (ranked t spans) ≡ map (λ x. (t, x)) (named s spans)) one (λ a h. refl)
    some (suc front - a) a (omega arith)
  where
    by : (x end : ℕ) (rest : List Span) (b : Bool) → b ≡ true → filter_map (ready_at s) (ranked t rest)
        ≡ map (λ x. (t, x)) (named s rest)
        → (cond b t (record { front = x; turn = 0 }), (s, x)) ∷ filter_map (ready_at s) (ranked t rest) ≡ (t, (s, x))
        ∷ map (λ x. (t, x)) (named s rest)
    by x end rest b is h = rw is (ap (λ (l : List (Rank × (ℕ × ℕ))). (t, (s, x)) ∷ l) h)

    some : (a : ℕ) → a ≤ front
        → filter_map (ready_at s) (ranked t (cut_spans batch (suc (cut_ends batch a front)) front))
        ≡ map (λ x. (t, x)) (named s (cut_spans batch (suc (cut_ends batch a front)) front))
        → filter_map (ready_at s)
        (ranked t (fresh a (cut_ends batch a front) ∷ cut_spans batch (suc (cut_ends batch a front)) front))
        ≡ map (λ x. (t, x))
        (named s (fresh a (cut_ends batch a front) ∷ cut_spans batch (suc (cut_ends batch a front)) front))
    some a h rest = by a (cut_ends batch a front) (cut_spans batch (suc (cut_ends batch a front)) front)
        (nat_le a t.front) (le-leb a t.front (omega arith)) rest

-- ---- the three calls

-- what a subscription that cuts behind a number shows
fresh_queue : (batch front cursor : ℕ) (t : Rank) → spans_of (queue_held batch front (cut_queue cursor t))
    ≡ cut_spans batch (suc cursor) front
fresh_queue batch front cursor t = queue_spans_is batch front (cut_queue cursor t)

-- and where its floor is
cut_at : (cursor : ℕ) → suc cursor - 1 ≡ cursor
cut_at cursor = omega arith

-- two pictures that agree in what a call changes
abbrev pub picture_of : ℕ → ℕ → ℕ → ℕ → List Subscription → List (ℕ × ℕ) → List (ℕ × ℕ) → DeliveryPicture
picture_of batch window front next_delivery subs ready out =
    record {
      batch = batch;
      window = window;
      front = front;
      next_delivery = next_delivery;
      subscriptions = subs;
      ready = ready;
      in_flight = out;
    }

pub same_picture : (batch window front next_delivery : ℕ) (subs subs' : List Subscription)
    (ready ready' out out' : List (ℕ × ℕ)) → subs ≡ subs' → ready ≡ ready' → out ≡ out'
    → picture_of batch window front next_delivery subs ready out
    ≡ picture_of batch window front next_delivery subs' ready' out'
same_picture batch window front next_delivery subs subs' ready ready' out out' p q r =
    λ i. picture_of batch window front next_delivery (p i) (q i) (r i)

-- a new subscription behind all
pub subscribed_pictured : (batch window front turn link next_delivery start : ℕ) (subs : List Sub) → 1 ≤ batch
    → AllByRecursion (Belongs front turn next_delivery) subs
    → pictured batch window front next_delivery
    (subs ++ new_sub start link (record { front = front; turn = suc turn }) ∷ [])
    ≡ subscribed_spans (pictured batch window front next_delivery subs) start
    (cut_spans batch (suc start) front) link
subscribed_pictured batch window front turn link next_delivery start subs one h =
    same_picture batch window front next_delivery _ _ _ _ _ _
    (map-append (pictured_sub batch front) subs (new ∷ [])
    ∙ (λ i. map (pictured_sub batch front) subs
    ++ record {
      start = start;
      floor = cut_at start i;
      offered = start;
      link = link;
      closed = false;
      spans = fresh_queue batch front start t i;
    } ∷ []))
    (ap (order ready_at) lanes_are
    ∙ order_pushed ready_at t queues queue
    (named (length (map (pictured_sub batch front) subs)) (cut_spans batch (suc start) front))
    (cut_ready batch front (suc start) (length queues) t one (omega arith)
    ∙ ap (λ s. map (λ x. (t, x)) (named s (cut_spans batch (suc start) front))) same_length)
    (ready_earlier batch front turn next_delivery t subs one (drawn_before front turn) h))
    (ap (order out_at) lanes_are ∙ order_pushed out_at (record { front = next_delivery; turn = 0 }) queues queue []
    (cut_out batch front (suc start) (length queues) t one)
    (out_earlier batch front turn next_delivery subs one h) ∙ append-nil _)
  where
    t : Rank
    t = record { front = front; turn = suc turn }

    new : Sub
    new = new_sub start link t

    queues : List (List Held)
    queues = map (sub_held batch front) subs

    queue : List Held
    queue = sub_held batch front new

    lanes_are : map (sub_held batch front) (subs ++ new ∷ []) ≡ queues ++ queue ∷ []
    lanes_are = map-append (sub_held batch front) subs (new ∷ [])

    same_length : length queues ≡ length (map (pictured_sub batch front) subs)
    same_length = length-map subs (sub_held batch front) ∙ sym (length-map subs (pictured_sub batch front))

pub belongs_subscribed : (front turn link next_delivery start : ℕ) (subs : List Sub) → start ≤ front
    → AllByRecursion (Belongs front turn next_delivery) subs
    → AllByRecursion (Belongs front (suc turn) next_delivery)
    (subs ++ new_sub start link (record { front = front; turn = suc turn }) ∷ [])
belongs_subscribed front turn link next_delivery start subs le h =
    all_both (Belongs front (suc turn) next_delivery) subs _
    (all_then (Belongs front turn next_delivery) (Belongs front (suc turn) next_delivery) subs
    (λ sub. known_belongs_later front turn (suc turn) next_delivery next_delivery sub (omega arith) (omega arith)) h)
    (record { is_offered = le; is_next = omega arith; is_drawn = (omega arith, omega arith); are_known = tt }, tt)

-- a subscription that goes on behind a cursor
pub reconnected_pictured : (batch window front turn link next_delivery s cursor : ℕ) (subs : List Sub) (sub : Sub)
    → 1 ≤ batch → AllByRecursion (Belongs front turn next_delivery) subs
    → slice_get subs s ≡ Some sub → sub.closed ≡ false
    → pictured batch window front next_delivery
    (slice_set subs s (reconnected_sub sub cursor link (record { front = front; turn = suc turn })))
    ≡ reconnected_spans (pictured batch window front next_delivery subs) s (pictured_sub batch front sub)
    cursor (cut_spans batch (suc cursor) front) link
reconnected_pictured batch window front turn link next_delivery s cursor subs sub one h found opened =
    same_picture batch window front next_delivery _ _ _ _ _ _
    (map-set (pictured_sub batch front) subs s new
    ∙ (λ i. slice_set (map (pictured_sub batch front) subs) s
    (record {
      start = sub.start;
      floor = cut_at cursor i;
      offered = sub.offered;
      link = link;
      closed = sub.closed;
      spans = spans_are i;
    })))
    (ap (order ready_at) lanes_are ∙ order_replaced ready_at t queues s (sub_held batch front sub) queue
    (named s (cut_spans batch (suc cursor) front)) queue_found tagged_ready
    (cut_ready batch front (suc cursor) s t one (omega arith))
    (ready_earlier batch front turn next_delivery t subs one (drawn_before front turn) h))
    (ap (order out_at) lanes_are ∙ order_replaced out_at (record { front = next_delivery; turn = 0 }) queues s
    (sub_held batch front sub) queue [] queue_found tagged_out (cut_out batch front (suc cursor) s t one)
    (out_earlier batch front turn next_delivery subs one h) ∙ append-nil _)
  where
    t : Rank
    t = record { front = front; turn = suc turn }

    new : Sub
    new = reconnected_sub sub cursor link t

    queues : List (List Held)
    queues = map (sub_held batch front) subs

    queue : List Held
    queue = queue_held batch front (cut_queue cursor t)

    queue_is : sub_held batch front new ≡ queue
    queue_is = ap (λ b. cond b [] queue) opened

    spans_are : spans_of (sub_held batch front new) ≡ cut_spans batch (suc cursor) front
    spans_are = ap spans_of queue_is ∙ fresh_queue batch front cursor t

    lanes_are : map (sub_held batch front) (slice_set subs s new) ≡ slice_set queues s queue
    lanes_are = map-set (sub_held batch front) subs s new ∙ ap (slice_set queues s) queue_is

    queue_found : slice_get queues s ≡ Some (sub_held batch front sub)
    queue_found = slice_get-map (sub_held batch front) subs s ∙ ap (option_map (sub_held batch front)) found

pub belongs_reconnected : (front turn link next_delivery s cursor : ℕ) (subs : List Sub) (sub : Sub) → cursor
    ≤ front → AllByRecursion (Belongs front turn next_delivery) subs → slice_get subs s ≡ Some sub
    → AllByRecursion (Belongs front (suc turn) next_delivery)
    (slice_set subs s (reconnected_sub sub cursor link (record { front = front; turn = suc turn })))
belongs_reconnected front turn link next_delivery s cursor subs sub le h found =
    all_set (Belongs front (suc turn) next_delivery) subs s _
    (all_then (Belongs front turn next_delivery) (Belongs front (suc turn) next_delivery) subs
    (λ sub. known_belongs_later front turn (suc turn) next_delivery next_delivery sub (omega arith) (omega arith)) h)
    (record {
      is_offered = (all_get (Belongs front turn next_delivery) subs s sub h found).is_offered;
      is_next = omega arith;
      is_drawn = (omega arith, omega arith);
      are_known = tt;
    })

-- a subscription that is closed
pub unsubscribed_pictured : (batch window front next_delivery s : ℕ) (subs : List Sub) (sub : Sub)
    → slice_get subs s ≡ Some sub
    → pictured batch window front next_delivery (slice_set subs s (closed_sub sub))
    ≡ unsubscribed_from (pictured batch window front next_delivery subs) s
    (pictured_sub batch front sub)
unsubscribed_pictured batch window front next_delivery s subs sub found =
    same_picture batch window front next_delivery _ _ _ _ _ _
    (map-set (pictured_sub batch front) subs s (closed_sub sub)
    ∙ ap (λ floor. slice_set (map (pictured_sub batch front) subs) s
    (record {
      start = sub.start;
      floor = floor;
      offered = sub.offered;
      link = sub.link;
      closed = true;
      spans = [];
    })) (cut_at (queue_floor sub.queue)))
    (ap (order ready_at) lanes_are ∙ order_cleared ready_at queues s (sub_held batch front sub) tagged_ready
    queue_found)
    (ap (order out_at) lanes_are ∙ order_cleared out_at queues s (sub_held batch front sub) tagged_out queue_found)
  where
    queues : List (List Held)
    queues = map (sub_held batch front) subs

    lanes_are : map (sub_held batch front) (slice_set subs s (closed_sub sub)) ≡ slice_set queues s []
    lanes_are = map-set (sub_held batch front) subs s (closed_sub sub)

    queue_found : slice_get queues s ≡ Some (sub_held batch front sub)
    queue_found = slice_get-map (sub_held batch front) subs s ∙ ap (option_map (sub_held batch front)) found

-- the floor comes before the next number
floor_before_next : (held : List Held) (next : ℕ) → HeldRise 1 held next → floor_before held next < next
floor_before_next [] next rises = omega (arith, rises)
floor_before_next (h ∷ rest) next rises =
    omega (arith, rises.0, rises.1, joins_reach (suc h.span.last) next rest rises.2)

pub belongs_unsubscribed : (front turn next_delivery s : ℕ) (subs : List Sub) (sub : Sub)
    → AllByRecursion (Belongs front turn next_delivery) subs → slice_get subs s ≡ Some sub
    → AreRising sub.queue → AllByRecursion (Belongs front turn next_delivery) (slice_set subs s (closed_sub sub))
belongs_unsubscribed front turn next_delivery s subs sub h found rises =
    let b = all_get (Belongs front turn next_delivery) subs s sub h found in
    let reach = floor_before_next sub.queue.held sub.queue.next rises in
    all_set (Belongs front turn next_delivery) subs s (closed_sub sub) h
    (record {
      is_offered = b.is_offered;
      is_next = omega (arith, reach, b.is_next);
      is_drawn = b.is_drawn;
      are_known = tt;
    })
