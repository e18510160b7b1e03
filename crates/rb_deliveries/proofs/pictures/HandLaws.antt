-- The picture after a span is delivered, negatively acknowledged, acknowledged or opened.
use Rattle.std.proofs.Common.{◌≡◌, ℕ, suc, max, true, List, [], ◌∷◌, ◌++◌, Some, filter_map, slice_get, slice_set, refl}
use Rattle.std.proofs.Common.{sym, ap, ◌∙◌, arith, ◌+◌, ◌≤◌, subst}
use Rattle.std.specs.List.{AllByRecursion}
use Rattle.rb_deliveries.specs.declared.span.Span.{Span}
use Rattle.rb_deliveries.specs.declared.span.Status.{Status}
use Rattle.rb_deliveries.specs.declared.span.Status.TheVariants.{Ready, InFlight}
use Rattle.rb_deliveries.specs.declared.rank.Rank.{Rank}
use Rattle.rb_deliveries.specs.declared.rank.Held.{Held}
use Rattle.rb_deliveries.specs.declared.sub.Sub.{Sub}
use Rattle.rb_deliveries.specs.Spans.{out_as, is_ready, is_out, with_status, without_first, floor_of, opened_spans}
use Rattle.rb_deliveries.specs.Spans.{singles, span_length}
use Rattle.rb_deliveries.specs.Queues.{queue_floor, spans_of, queue_held, settled_queue}
use Rattle.rb_deliveries.specs.Orders.{order, ready_at, out_at}
use Rattle.rb_deliveries.specs.Changes.{acked_to, delivered_to, nacked_to, without_span, named, opened_to}
use Rattle.rb_deliveries.specs.Pictured.{pictured, pictured_sub}
use Rattle.rb_deliveries.specs.Subs.{sub_held, Belongs, delivered_sub, returned_sub, settled_sub, IsHeld, IsDeliverable}
use Rattle.rb_deliveries.proofs.orders.Line.{all_then, all_second}
use Rattle.rb_deliveries.proofs.orders.OrderLaws.{tagged_ready, tagged_out, order_same, order_without, order_with}
use Rattle.rb_deliveries.proofs.spans.ChangeLaws.{Changes, stands_new, stands_left, Removes, removed_spans}
use Rattle.rb_deliveries.proofs.spans.ChangeLaws.{removed_same, removed_left}
use Rattle.rb_deliveries.proofs.spans.QueueLaws.{queue_floor_is, floor_restated, floor_delivered}
use Rattle.rb_deliveries.proofs.spans.QueueChanges.{may_go_span, may_go_ready, restated_changes, handed_changes}
use Rattle.rb_deliveries.proofs.spans.QueueChanges.{settled_changes, held_span}
use Rattle.rb_deliveries.proofs.subs.KnownLaws.{all_set, drawn_before, held_open, known_belongs_later, sub_handed}
use Rattle.rb_deliveries.proofs.subs.KnownLaws.{sub_returned, sub_settled}
use Rattle.rb_deliveries.proofs.spans.FoundLaws.{out_as_held}
use Rattle.rb_deliveries.proofs.pictures.EarlierLaws.{out_earlier, ready_earlier}
use Rattle.rb_deliveries.proofs.pictures.OpenLaws.{IsOpen, queues, queue_found, belongs, pictured_changed, spans_changed}
use Rattle.rb_deliveries.proofs.pictures.OpenLaws.{out_not_ready, ready_not_out, stood_not_ready, stood_not_out}
use Rattle.rb_deliveries.specs.Opening.{opened_held, opened_queue, opened_sub}
use Rattle.rb_deliveries.proofs.orders.OpenedOrder.{entries_late, entries_named, entries_rise, opened_entries}
use Rattle.rb_deliveries.proofs.orders.OpenedOrder.{order_gains}
use Rattle.rb_deliveries.proofs.spans.JoinLaws.{joins_begin}
use Rattle.rb_deliveries.proofs.spans.OpenedSpans.{floor_opened, queue_opened, queue_spans_opened, opened_left}
use Rattle.rb_deliveries.proofs.spans.OpenedSpans.{opened_stand_ready}
use Rattle.rb_deliveries.proofs.subs.OpenedKnown.{sub_opened}

module _ (batch window front turn number : ℕ) (subs : List Sub) (s : ℕ) (sub : Sub)
    (o : IsOpen batch front turn number subs s sub) where
  abbrev all : List (List Held)
  all = queues batch window front turn number subs s sub o

  abbrev queue : List Held
  queue = queue_held batch front sub.queue

  found : slice_get all s ≡ Some queue
  found = queue_found batch window front turn number subs s sub o

  own : Belongs front turn number sub
  own = belongs batch window front turn number subs s sub o

  -- ---- a span is handed over

  -- it leaves the ready order and stands at the end of the in-flight order
  pub handed_pictured : (tick : ℕ) (span : Span) → IsDeliverable batch front sub.queue span
      → pictured batch window front (suc number) (slice_set subs s (delivered_sub sub span number tick))
      ≡ delivered_to (pictured batch window front number subs) s (pictured_sub batch front sub) span tick
  handed_pictured tick span may =
      let status : Status = InFlight number tick in
      let t : Rank = record { front = number; turn = 0 } in
      let sub' : Sub = delivered_sub sub span number tick in
      let queue' : List Held = queue_held batch front sub'.queue in
      let c : Changes span status sub.queue.cutting queue queue' =
      handed_changes batch front sub.queue span o.one own.is_next o.rises status may in
      let floor : queue_floor sub'.queue ≡ queue_floor sub.queue = floor_delivered sub.queue span status in
      let spans =
      spans_changed batch window front turn number subs s sub o span status sub.queue.cutting sub' o.is_open c in
      let was_ready : is_ready span.status ≡ true = may_go_ready batch front sub.queue span o.one may in
      let new = stands_new span status sub.queue.cutting c out_at s t
      (λ h is. stood_not_out s h span is (ready_not_out span.status was_ready)) refl in
      pictured_changed batch window front turn number subs s sub o (suc number) sub'
      (record (pictured_sub batch front sub) {
        offered = max sub.offered span.last;
        spans = with_status span.first status (spans_of (sub_held batch front sub));
      })
      (without_span s span.first (order ready_at all)) (order out_at all ++ (s, span.first) ∷ []) o.is_open
      (λ i. record {
        start = sub.start;
        floor = floor i;
        offered = max sub.offered span.last;
        link = sub.link;
        closed = sub.closed;
        spans = spans i;
      })
      (order_without ready_at all s span.first queue queue' tagged_ready found
      (stands_left span status sub.queue.cutting c ready_at s tagged_ready refl))
      (order_with out_at t all s queue queue' (filter_map (out_at s) c.at.ahead) (filter_map (out_at s) c.at.behind)
      ((s, span.first) ∷ []) found new.0 new.1 (out_earlier batch front turn number subs o.one o.belong))

  -- what is kept belongs still
  pub belongs_handed : (tick : ℕ) (span : Span) → IsDeliverable batch front sub.queue span
      → AllByRecursion (Belongs front turn (suc number)) (slice_set subs s (delivered_sub sub span number tick))
  belongs_handed tick span may =
      let at = may_go_span batch front 1 sub.queue span o.one own.is_next o.rises may in
      all_set (Belongs front turn (suc number)) subs s (delivered_sub sub span number tick)
      (all_then (Belongs front turn number) (Belongs front turn (suc number)) subs
      (λ sub. known_belongs_later front turn turn number (suc number) sub (omega arith) (omega arith)) o.belong)
      (sub_handed front turn number sub span tick at.1 own)

  -- ---- a span goes back

  -- it leaves the in-flight order and stands at the end of the ready order
  pub returned_pictured : (span : Span) → IsHeld sub.queue span
      → is_out span.status ≡ true
      → pictured batch window front number
      (slice_set subs s (returned_sub sub span.first (record { front = front; turn = suc turn })))
      ≡ nacked_to (pictured batch window front number subs) s (pictured_sub batch front sub) span
  returned_pictured span held out =
      let status : Status = Ready true in
      let t : Rank = record { front = front; turn = suc turn } in
      let sub' : Sub = returned_sub sub span.first t in
      let queue' : List Held = queue_held batch front sub'.queue in
      let c : Changes span status t queue queue' =
      restated_changes batch front sub.queue span o.one own.is_next o.rises status t held in
      let floor : queue_floor sub'.queue ≡ queue_floor sub.queue =
      floor_restated span.first sub.queue.next status t sub.queue.held in
      let spans = spans_changed batch window front turn number subs s sub o span status t sub' o.is_open c in
      let new = stands_new span status t c ready_at s t
      (λ h is. stood_not_ready s h span is (out_not_ready span.status out)) refl in
      pictured_changed batch window front turn number subs s sub o number sub'
      (record (pictured_sub batch front sub)
      { spans = with_status span.first status (spans_of (sub_held batch front sub)) })
      (order ready_at all ++ (s, span.first) ∷ []) (without_span s span.first (order out_at all)) o.is_open
      (λ i. record (pictured_sub batch front sub) { floor = floor i; spans = spans i })
      (order_with ready_at t all s queue queue' (filter_map (ready_at s) c.at.ahead) (filter_map (ready_at s) c.at.behind)
      ((s, span.first) ∷ []) found new.0 new.1
      (ready_earlier batch front turn number t subs o.one (drawn_before front turn) o.belong))
      (order_without out_at all s span.first queue queue' tagged_out found
      (stands_left span status t c out_at s tagged_out refl))

  -- so it is of the one that is out as a delivery
  pub returned_as : (delivery : ℕ) (span : Span)
      → out_as delivery (spans_of sub.queue.held) ≡ Some span
      → pictured batch window front number
      (slice_set subs s (returned_sub sub span.first (record { front = front; turn = suc turn })))
      ≡ nacked_to (pictured batch window front number subs) s (pictured_sub batch front sub) span
  returned_as delivery span is = let h = out_as_held delivery sub.queue span is in
      returned_pictured span h.0 h.1

  -- what is kept belongs still, with one turn more
  pub belongs_returned : (first : ℕ)
      → AllByRecursion (Belongs front (suc turn) number)
      (slice_set subs s (returned_sub sub first (record { front = front; turn = suc turn })))
  belongs_returned first =
      all_set (Belongs front (suc turn) number) subs s
      (returned_sub sub first (record { front = front; turn = suc turn }))
      (all_then (Belongs front turn number) (Belongs front (suc turn) number) subs
      (λ sub. known_belongs_later front turn (suc turn) number number sub (omega arith) (omega arith)) o.belong)
      (sub_returned front turn number sub first own)

  -- ---- a span is settled

  -- the spans and the floor are those of the picture
  settled_is : (span : Span) → IsHeld sub.queue span → spans_of (sub_held batch front (settled_sub sub span.first))
      ≡ without_first span.first (spans_of (sub_held batch front sub))
  settled_is span held =
      ap spans_of (held_open batch front (settled_sub sub span.first) o.is_open)
      ∙ removed_spans span (settled_changes batch front sub.queue span o.one own.is_next o.rises held)
      ∙ ap (λ held. without_first span.first (spans_of held)) (sym (held_open batch front sub o.is_open))

  pub settled_floor : (span : Span) → IsHeld sub.queue span → queue_floor (settled_queue sub.queue span.first)
      ≡ floor_of (without_first span.first (spans_of (sub_held batch front sub))) front
  settled_floor span held =
      sym (queue_floor_is batch front (settled_queue sub.queue span.first) o.one own.is_next)
      ∙ ap (λ held. floor_of (spans_of held) front)
      (sym (held_open batch front (settled_sub sub span.first) o.is_open))
      ∙ ap (λ spans. floor_of spans front) (settled_is span held)

  -- it leaves the in-flight order
  pub settled_pictured : (span : Span) → IsHeld sub.queue span
      → is_out span.status ≡ true
      → pictured batch window front number (slice_set subs s (settled_sub sub span.first))
      ≡ acked_to (pictured batch window front number subs) s (pictured_sub batch front sub) span.first
      (without_first span.first (spans_of (sub_held batch front sub)))
  settled_pictured span held out =
      let sub' : Sub = settled_sub sub span.first in
      let queue' : List Held = queue_held batch front sub'.queue in
      let r : Removes span queue queue' = settled_changes batch front sub.queue span o.one own.is_next o.rises held in
      let spans = settled_is span held in
      let floor = settled_floor span held in
      let others : List Span = without_first span.first (spans_of (sub_held batch front sub)) in
      pictured_changed batch window front turn number subs s sub o number sub'
      (record (pictured_sub batch front sub) { floor = floor_of others front; spans = others }) (order ready_at all)
      (without_span s span.first (order out_at all))
      o.is_open
      (λ i. record (pictured_sub batch front sub) { floor = floor i; spans = spans i })
      (order_same ready_at all s queue queue' found
      (removed_same span r ready_at s (λ h is. stood_not_ready s h span is (out_not_ready span.status out))))
      (order_without out_at all s span.first queue queue' tagged_out found (removed_left span r out_at s tagged_out))

  -- so it is of the one that is out as a delivery
  pub settled_as : (delivery : ℕ) (span : Span)
      → out_as delivery (spans_of sub.queue.held) ≡ Some span
      → pictured batch window front number (slice_set subs s (settled_sub sub span.first))
      ≡ acked_to (pictured batch window front number subs) s (pictured_sub batch front sub) span.first
      (without_first span.first (spans_of (sub_held batch front sub)))
  settled_as delivery span is = let h = out_as_held delivery sub.queue span is in
      settled_pictured span h.0 h.1

  -- what is kept belongs still
  pub belongs_settled : (first : ℕ)
      → AllByRecursion (Belongs front turn number) (slice_set subs s (settled_sub sub first))
  belongs_settled first = all_set (Belongs front turn number) subs s (settled_sub sub first) o.belong
      (sub_settled front turn number sub first own)

  -- ---- a span is opened

  abbrev latest : Rank
  latest = record { front = front; turn = turn }

  -- the first number of a span that is held
  some_number : (span : Span) → IsHeld sub.queue span → 1 ≤ span.first
  some_number span held =
      let all = subst (AllByRecursion (λ h. 1 ≤ h.span.first)) held.3
      (joins_begin 1 sub.queue.next sub.queue.held o.rises) in
      subst (λ (p : Span). 1 ≤ p.first) held.4
      (all_second (λ h. 1 ≤ h.span.first) held.0 (held.1 ∷ held.2) all).0

  -- what becomes of the queue
  queue_is : (span : Span) → IsHeld sub.queue span
      → queue_held batch front (opened_queue sub.queue span.first latest) ≡ opened_held span.first latest queue
  queue_is span held =
      let at = held_span 1 sub.queue span o.rises held in
      queue_opened batch front span.first latest sub.queue o.one own.is_next (omega (arith, at))

  spans_are : (span : Span) → IsHeld sub.queue span
      → spans_of (sub_held batch front (opened_sub sub span.first latest))
      ≡ opened_spans span.first (spans_of (sub_held batch front sub))
  spans_are span held =
      let at = held_span 1 sub.queue span o.rises held in
      ap spans_of (held_open batch front (opened_sub sub span.first latest) o.is_open)
      ∙ queue_spans_opened batch front span.first latest sub.queue o.one own.is_next (omega (arith, at))
      ∙ ap (λ held. opened_spans span.first (spans_of held)) (sym (held_open batch front sub o.is_open))

  -- its numbers stand at the end of the ready order
  ready_are : (span : Span) → IsHeld sub.queue span → is_out span.status ≡ true
      → order ready_at (slice_set all s (queue_held batch front (opened_queue sub.queue span.first latest)))
      ≡ order ready_at all ++ named s (singles span.first (span_length span))
  ready_are span held out =
      let r = settled_changes batch front sub.queue span o.one own.is_next o.rises held in
      let stand = opened_stand_ready span latest r s
      (λ h is. stood_not_ready s h span is (out_not_ready span.status out)) in
      let count : ℕ = span_length span in
      order_gains ready_at (record { front = front; turn = suc turn }) all s queue
      (queue_held batch front (opened_queue sub.queue span.first latest)) (filter_map (ready_at s) r.at.ahead)
      (opened_entries s latest span.first count) (filter_map (ready_at s) r.at.behind) found stand.0
      (ap (filter_map (ready_at s)) (queue_is span held) ∙ stand.1)
      (entries_late s front turn span.first count (some_number span held)) (entries_rise s latest span.first count)
      (ready_earlier batch front turn number (record { front = front; turn = suc turn }) subs o.one
      (drawn_before front turn) o.belong)
      ∙ ap (λ (l : List (ℕ × ℕ)). order ready_at all ++ l) (entries_named s latest span.first count)

  -- it leaves the in-flight order
  out_are : (span : Span) → IsHeld sub.queue span
      → order out_at (slice_set all s (queue_held batch front (opened_queue sub.queue span.first latest)))
      ≡ without_span s span.first (order out_at all)
  out_are span held =
      let r = settled_changes batch front sub.queue span o.one own.is_next o.rises held in
      order_without out_at all s span.first queue (queue_held batch front (opened_queue sub.queue span.first latest))
      tagged_out found (ap (filter_map (out_at s)) (queue_is span held) ∙ opened_left span latest r s)

  -- it leaves the in-flight order, and its numbers stand at the end of the ready order
  pub opened_pictured : (span : Span) → IsHeld sub.queue span
      → is_out span.status ≡ true
      → pictured batch window front number
      (slice_set subs s (opened_sub sub span.first (record { front = front; turn = turn })))
      ≡ opened_to (pictured batch window front number subs) s (pictured_sub batch front sub) span
  opened_pictured span held out =
      let floor : queue_floor (opened_queue sub.queue span.first latest) ≡ queue_floor sub.queue =
      floor_opened 1 span.first sub.queue.next latest sub.queue.held o.rises in
      let spans = spans_are span held in
      pictured_changed batch window front turn number subs s sub o number
      (opened_sub sub span.first latest)
      (record (pictured_sub batch front sub)
      { spans = opened_spans span.first (spans_of (sub_held batch front sub)) })
      (order ready_at all ++ named s (singles span.first (span_length span)))
      (without_span s span.first (order out_at all)) o.is_open
      (λ i. record (pictured_sub batch front sub) { floor = floor i; spans = spans i })
      (ready_are span held out) (out_are span held)

  -- so it is of the one that is out as a delivery
  pub opened_as : (delivery : ℕ) (span : Span) → out_as delivery (spans_of sub.queue.held) ≡ Some span
      → pictured batch window front number
      (slice_set subs s (opened_sub sub span.first (record { front = front; turn = turn })))
      ≡ opened_to (pictured batch window front number subs) s (pictured_sub batch front sub) span
  opened_as delivery span is = let h = out_as_held delivery sub.queue span is in opened_pictured span h.0 h.1

  -- its numbers are placed
  pub out_numbers : (delivery : ℕ) (span : Span) → out_as delivery (spans_of sub.queue.held) ≡ Some span
      → (span.first ≤ span.last) × (span.last ≤ front)
  out_numbers delivery span is =
      let h = out_as_held delivery sub.queue span is in
      let at = held_span 1 sub.queue span o.rises h.0 in
      omega (arith, at, own.is_next)

  -- what is kept belongs still, with a turn more for each number placed
  pub belongs_opened : (first : ℕ)
      → AllByRecursion (Belongs front (turn + front) number)
      (slice_set subs s (opened_sub sub first (record { front = front; turn = turn })))
  belongs_opened first =
      all_set (Belongs front (turn + front) number) subs s (opened_sub sub first latest)
      (all_then (Belongs front turn number) (Belongs front (turn + front) number) subs
      (λ sub. known_belongs_later front turn (turn + front) number number sub (omega arith) (omega arith)) o.belong)
      (sub_opened front turn number sub first own o.rises)
