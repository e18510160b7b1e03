-- Spans that rise: each begins with a number of its own.
use Rattle.std.proofs.Common.{◌≡◌, ℕ, suc, ◌-◌, ◌<◌, ◌≤◌, ne_eqb, false, ◌==◌, List, [], ◌∷◌, ◌++◌, arith}
use Rattle.std.specs.List.{AllByRecursion}
use Rattle.rb_deliveries.specs.declared.rank.Rank.{Rank}
use Rattle.rb_deliveries.specs.declared.rank.Held.{Held}
use Rattle.rb_deliveries.specs.Spans.{cut_spans}
use Rattle.rb_deliveries.specs.Queues.{AreRising, Queue, HeldRise, ranked, queue_held}
use Rattle.rb_deliveries.proofs.spans.CutLaws.{cut_induction}
use Rattle.rb_deliveries.proofs.spans.QueueLaws.{joins_reach, rises_earlier}
use Rattle.rb_deliveries.proofs.orders.Line.{all_then, all_second}

-- spans behind spans
pub joins_append : (low mid next : ℕ) (xs ys : List Held) → HeldRise low xs mid → HeldRise mid ys next
    → HeldRise low (xs ++ ys) next
joins_append low mid next [] ys j k = rises_earlier mid low next ys j k
joins_append low mid next (x ∷ xs) ys j k = (j.0, j.1, joins_append (suc x.span.last) mid next xs ys j.2 k)

-- those of a cutting rise up to the front
pub joins_cut : (batch front a : ℕ) (cutting : Rank) → 1 ≤ batch → a ≤ suc front
    → HeldRise a (ranked cutting (cut_spans batch a front)) (suc front)
joins_cut batch front a cutting one =
    cut_induction batch front (λ a spans. a ≤ suc front → HeldRise a (ranked cutting spans) (suc front)) one
    (λ a less h. h)
    (λ a le rest h. (omega arith, omega arith, rest (omega arith)))
    (suc front - a) a (omega arith)

-- and so do all spans of a queue
pub joins_queue : (batch front : ℕ) (kept : Queue) → 1 ≤ batch → kept.next ≤ suc front → AreRising kept
    → HeldRise 1 (queue_held batch front kept) (suc front)
joins_queue batch front kept one le j =
    joins_append 1 kept.next (suc front) kept.held _ j (joins_cut batch front kept.next kept.cutting one le)

-- none begins below the first number, and each ends ahead of the next one
pub joins_begin : (low next : ℕ) (xs : List Held) → HeldRise low xs next → AllByRecursion (λ h. low ≤ h.span.first) xs
joins_begin low next [] j = tt
joins_begin low next (x ∷ xs) j = (
  omega (arith, j.0),
  all_then (λ h. suc x.span.last ≤ h.span.first) (λ h. low ≤ h.span.first) xs (λ h le. omega (arith, le, j.0, j.1))
      (joins_begin (suc x.span.last) next xs j.2),
)

pub joins_end : (low next : ℕ) (xs : List Held) → HeldRise low xs next
    → AllByRecursion (λ h. (h.span.first ≤ h.span.last) × (h.span.last < next)) xs
joins_end low next [] j = tt
joins_end low next (x ∷ xs) j =
    ((j.1, joins_reach (suc x.span.last) next xs j.2), joins_end (suc x.span.last) next xs j.2)

-- it begins with another number
abbrev pub Other : ℕ → Held → Type 0
Other first h = (h.span.first == first) ≡ false

-- those ahead of a span and behind it begin with other numbers
pub joins_others : (low next : ℕ) (ahead : List Held) (one : Held) (behind : List Held)
    → HeldRise low (ahead ++ one ∷ behind) next → AllByRecursion (Other one.span.first) ahead
    × AllByRecursion (Other one.span.first) behind
joins_others low next [] one behind j = (
  tt,
  all_then (λ h. suc one.span.last ≤ h.span.first) (Other one.span.first) behind
      (λ h le. ne_eqb h.span.first one.span.first (omega (arith, le, j.0, j.1)))
      (joins_begin (suc one.span.last) next behind j.2),
)
joins_others low next (x ∷ ahead) one behind j =
    let rest = joins_others (suc x.span.last) next ahead one behind j.2 in
    let later =
    (all_second (λ h. suc x.span.last ≤ h.span.first) ahead (one ∷ behind)
    (joins_begin (suc x.span.last) next (ahead ++ one ∷ behind) j.2)).0 in
    ((ne_eqb x.span.first one.span.first (omega (arith, later, j.1)), rest.0), rest.1)
