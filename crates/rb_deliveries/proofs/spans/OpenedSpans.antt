-- A stored span is opened: what that changes in the spans of its queue, in its floor, and in the orders.
use Rattle.std.proofs.Common.{◌≡◌, ℕ, zero, suc, ◌-◌, ◌<◌, ◌≤◌, eq-eqb, ne_eqb, Bool, true, false, not, ◌==◌, cond}
use Rattle.std.proofs.Common.{List, [], ◌∷◌, ◌++◌, None, filter, filter_map, append_assoc, refl, sym, ap, ◌∙◌, arith}
use Rattle.std.specs.List.{AllByRecursion, cons_option}
use Rattle.std.proofs.lemmas.List.{map-append}
use Rattle.std.proofs.lemmas.List.Elements.{filter_map-append}
use Rattle.rb_deliveries.specs.declared.span.Span.{Span}
use Rattle.rb_deliveries.specs.declared.rank.Rank.{Rank}
use Rattle.rb_deliveries.specs.declared.rank.Held.{Held}
use Rattle.rb_deliveries.specs.Spans.{cut_spans, opened_spans, single_span, singles, span_length}
use Rattle.rb_deliveries.specs.Queues.{Queue, HeldRise, floor_before, queue_held, spans_of, ranked}
use Rattle.rb_deliveries.specs.Opening.{opened_held, opened_queue, singles_held}
use Rattle.rb_deliveries.specs.Orders.{ready_at, out_at}
use Rattle.rb_deliveries.proofs.orders.Line.{all_then}
use Rattle.rb_deliveries.proofs.orders.OrderLaws.{At, is_at, tagged_out}
use Rattle.rb_deliveries.proofs.spans.ChangeLaws.{Removes, removed_left}
use Rattle.rb_deliveries.proofs.spans.JoinLaws.{Other, joins_begin, joins_cut}

-- ---- lists

-- the stored numbers are spans of their own
singles_stored : (latest : Rank) (n count : ℕ) → spans_of (singles_held latest n count) ≡ singles n count
singles_stored latest n zero = refl
singles_stored latest n (suc count) =
    ap (λ (spans : List Span). single_span n ∷ spans) (singles_stored latest (suc n) count)

-- the spans are those with this one opened
spans_opened : (first : ℕ) (latest : Rank) (xs : List Held)
    → spans_of (opened_held first latest xs) ≡ opened_spans first (spans_of xs)
spans_opened first latest [] = refl
spans_opened first latest (h ∷ xs) =
    map-append (λ (h : Held). h.span)
    (cond (h.span.first == first) (singles_held latest h.span.first (span_length h.span)) (h ∷ []))
    (opened_held first latest xs)
    ∙ (λ i. one (h.span.first == first) i ++ spans_opened first latest xs i)
  where
    one : (b : Bool) → spans_of (cond b (singles_held latest h.span.first (span_length h.span)) (h ∷ []))
        ≡ cond b (singles h.span.first (span_length h.span)) (h.span ∷ [])
    one true = singles_stored latest h.span.first (span_length h.span)
    one false = refl

-- those that begin with other numbers stay
opened_others : (first : ℕ) (latest : Rank) (xs : List Held) → AllByRecursion (Other first) xs
    → opened_held first latest xs ≡ xs
opened_others first latest [] others = refl
opened_others first latest (h ∷ xs) others =
    (λ i. cond (others.0 i) (singles_held latest h.span.first (span_length h.span)) (h ∷ [])
    ++ opened_others first latest xs others.1 i)

-- two lists in a row
opened_both : (first : ℕ) (latest : Rank) (xs ys : List Held) → opened_held first latest (xs ++ ys)
    ≡ opened_held first latest xs ++ opened_held first latest ys
opened_both first latest [] ys = refl
opened_both first latest (h ∷ xs) ys =
    let own : List Held =
    cond (h.span.first == first) (singles_held latest h.span.first (span_length h.span)) (h ∷ []) in
    ap (λ z. own ++ z) (opened_both first latest xs ys)
    ∙ sym (append_assoc own (opened_held first latest xs) (opened_held first latest ys))

-- the floor stays, since the first number of a span is that of its first one
pub floor_opened : (low first next : ℕ) (latest : Rank) (held : List Held) → HeldRise low held next
    → floor_before (opened_held first latest held) next ≡ floor_before held next
floor_opened low first next latest [] j = refl
floor_opened low first next latest (h ∷ rest) j =
    let some : suc (h.span.last - h.span.first) ≡ span_length h.span = omega (arith, j.1) in
    ap (λ count. floor_before
    (cond (h.span.first == first) (singles_held latest h.span.first count) (h ∷ [])
    ++ opened_held first latest rest) next) (sym some)
    ∙ by (h.span.first == first)
  where
    by : (b : Bool) → floor_before
        (cond b (singles_held latest h.span.first (suc (h.span.last - h.span.first))) (h ∷ [])
        ++ opened_held first latest rest) next ≡ h.span.first - 1
    by true = refl
    by false = refl

-- ---- a queue

-- of all spans of a queue, a stored one is opened
pub queue_opened : (batch front first : ℕ) (latest : Rank) (kept : Queue) → 1 ≤ batch → kept.next ≤ suc front
    → first < kept.next
    → queue_held batch front (opened_queue kept first latest) ≡ opened_held first latest (queue_held batch front kept)
queue_opened batch front first latest kept one le less =
    let cutting : List Held = ranked kept.cutting (cut_spans batch kept.next front) in
    let others : AllByRecursion (Other first) cutting =
    all_then (λ h. kept.next ≤ h.span.first) (Other first) cutting
    (λ h from. ne_eqb h.span.first first (omega (arith, from, less)))
    (joins_begin kept.next (suc front) cutting (joins_cut batch front kept.next kept.cutting one le)) in
    ap (λ z. opened_held first latest kept.held ++ z) (sym (opened_others first latest cutting others))
    ∙ sym (opened_both first latest kept.held cutting)

-- so all spans of the queue are those with this one opened
pub queue_spans_opened : (batch front first : ℕ) (latest : Rank) (kept : Queue) → 1 ≤ batch → kept.next ≤ suc front
    → first < kept.next → spans_of (queue_held batch front (opened_queue kept first latest))
    ≡ opened_spans first (spans_of (queue_held batch front kept))
queue_spans_opened batch front first latest kept one le less =
    ap spans_of (queue_opened batch front first latest kept one le less)
    ∙ spans_opened first latest (queue_held batch front kept)

-- ---- what stands in an order

-- no opened number is in flight
singles_not_out : (s : ℕ) (latest : Rank) (n count : ℕ) → filter_map (out_at s) (singles_held latest n count) ≡ []
singles_not_out s latest n zero = refl
singles_not_out s latest n (suc count) = singles_not_out s latest (suc n) count

-- xs has one span that begins as this one does, and zs are the others
module _ (span : Span) (latest : Rank) {xs zs : List Held} (r : Removes span xs zs) where
  abbrev own : List Held
  own = singles_held latest span.first (span_length span)

  -- its numbers stand in its place
  opened_one : opened_held span.first latest xs ≡ r.at.ahead ++ (own ++ r.at.behind)
  opened_one =
      ap (opened_held span.first latest) r.at.before
      ∙ opened_both span.first latest r.at.ahead (r.at.one ∷ r.at.behind)
      ∙ (λ i. opened_others span.first latest r.at.ahead r.at.others.0 i
      ++ (here i ++ opened_others span.first latest r.at.behind r.at.others.1 i))
    where
      here : cond (r.at.one.span.first == span.first)
          (singles_held latest r.at.one.span.first (span_length r.at.one.span))
          (r.at.one ∷ []) ≡ own
      here =
          ap (λ b. cond b (singles_held latest r.at.one.span.first (span_length r.at.one.span)) (r.at.one ∷ []))
          (eq-eqb r.at.one.span.first span.first (ap (λ (p : Span). p.first) r.at.is))
          ∙ ap (λ (p : Span). singles_held latest p.first (span_length p)) r.at.is

  opened_stands : (at : At) (s : ℕ) → filter_map (at s) (opened_held span.first latest xs)
      ≡ filter_map (at s) r.at.ahead ++ (filter_map (at s) own ++ filter_map (at s) r.at.behind)
  opened_stands at s =
      ap (filter_map (at s)) opened_one ∙ filter_map-append (at s) r.at.ahead (own ++ r.at.behind)
      ∙ ap (λ z. filter_map (at s) r.at.ahead ++ z) (filter_map-append (at s) own r.at.behind)

  -- it leaves the in-flight order
  pub opened_left : (s : ℕ) → filter_map (out_at s) (opened_held span.first latest xs)
      ≡ filter (λ e. not (is_at s span.first e.1)) (filter_map (out_at s) xs)
  opened_left s =
      opened_stands out_at s
      ∙ ap (λ z. filter_map (out_at s) r.at.ahead ++ (z ++ filter_map (out_at s) r.at.behind))
      (singles_not_out s latest span.first (span_length span))
      ∙ sym (ap (filter_map (out_at s)) r.after ∙ filter_map-append (out_at s) r.at.ahead r.at.behind)
      ∙ removed_left span r out_at s tagged_out

  -- it wasn't in the ready order, and its numbers are
  pub opened_stand_ready : (s : ℕ) → ((h : Held) → h.span ≡ span → ready_at s h ≡ None)
      → (filter_map (ready_at s) xs ≡ filter_map (ready_at s) r.at.ahead ++ filter_map (ready_at s) r.at.behind)
      × (filter_map (ready_at s) (opened_held span.first latest xs)
      ≡ filter_map (ready_at s) r.at.ahead ++ (filter_map (ready_at s) own ++ filter_map (ready_at s) r.at.behind))
  opened_stand_ready s old = (
    ap (filter_map (ready_at s)) r.at.before ∙ filter_map-append (ready_at s) r.at.ahead (r.at.one ∷ r.at.behind)
        ∙ ap (λ o. filter_map (ready_at s) r.at.ahead ++ cons_option o (filter_map (ready_at s) r.at.behind))
        (old r.at.one r.at.is),
    opened_stands ready_at s,
  )
