-- The spans of a subscription rise: those that are stored, and behind them those of the cutting.
use Rattle.std.proofs.Common.{◌≡◌, ℕ, suc, ◌-◌, ◌≤◌, ◌++◌, Bool, true, false, cond, List, [], ◌∷◌, sym, subst, arith}
use Rattle.rb_deliveries.specs.declared.span.Span.{Span}
use Rattle.rb_deliveries.specs.declared.sub.Sub.{Sub}
use Rattle.rb_deliveries.specs.declared.rank.Held.{Held}
use Rattle.rb_deliveries.specs.Queues.{AreRising, HeldRise, Queue, floor_before, queue_floor, queue_held, spans_of}
use Rattle.rb_deliveries.specs.Spans.{SpansRise, cut_spans}
use Rattle.rb_deliveries.specs.Subs.{Belongs, sub_held}
use Rattle.rb_deliveries.proofs.spans.CutLaws.{cut_induction}
use Rattle.rb_deliveries.proofs.spans.QueueLaws.{queue_spans_is}

-- spans that rise from a number rise from a lower one
pub rise_lower : (low low' high : ℕ) (spans : List Span) → low ≤ low' → SpansRise low' spans high
    → SpansRise low spans high
rise_lower low low' high [] le h = omega (arith, le, h)
rise_lower low low' high (p ∷ rest) le h = (omega (arith, le, h.0), h.1, h.2)

-- the spans of a cutting rise from its first number on
pub cut_rise : (batch a b : ℕ) → 1 ≤ batch → a ≤ suc b → SpansRise a (cut_spans batch a b) b
cut_rise batch a b one =
    cut_induction batch b (λ a spans. a ≤ suc b → SpansRise a spans b) one
    (λ a less h. omega arith)
    (λ a le rest h. (omega arith, omega arith, rest (omega arith)))
    (suc b - a) a (omega arith)

-- stored spans rise on into those of the cutting
stored_rise : (batch low front next : ℕ) (held : List Held) → 1 ≤ batch → next ≤ suc front → HeldRise low held next
    → SpansRise low (spans_of held ++ cut_spans batch next front) front
stored_rise batch low front next [] one le h =
    rise_lower low next front (cut_spans batch next front) h (cut_rise batch next front one le)
stored_rise batch low front next (p ∷ rest) one le h =
    (h.0, h.1, stored_rise batch (suc p.span.last) front next rest one le h.2)

-- they rise from the number after the floor on
from_floor : (batch front next : ℕ) (held : List Held) → 1 ≤ batch → next ≤ suc front → HeldRise 1 held next
    → SpansRise (suc (floor_before held next)) (spans_of held ++ cut_spans batch next front) front
from_floor batch front next [] one le h =
    rise_lower (suc (next - 1)) next front (cut_spans batch next front) (omega (arith, h))
    (cut_rise batch next front one le)
from_floor batch front next (p ∷ rest) one le h =
    (omega (arith, h.0), h.1, stored_rise batch (suc p.span.last) front next rest one le h.2)

pub open_rises : (batch front turn number : ℕ) (sub : Sub) → 1 ≤ batch → Belongs front turn number sub
    → AreRising sub.queue → sub.closed ≡ false
    → SpansRise (suc (queue_floor sub.queue)) (spans_of (sub_held batch front sub)) front
open_rises batch front turn number sub one own h is =
    subst
    (λ (b : Bool). SpansRise (suc (queue_floor sub.queue)) (spans_of (cond b [] (queue_held batch front sub.queue))) front)
    (sym is)
    (rw (queue_spans_is batch front sub.queue) (from_floor batch front sub.queue.next sub.queue.held one own.is_next h))
