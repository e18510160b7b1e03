-- What is stored of a subscription still agrees with the front, the turns and the deliveries after a span is opened:
-- a turn was drawn for each number that is placed.
use Rattle.std.proofs.Common.{ℕ, zero, suc, ◌+◌, ◌<◌, ◌≤◌, Bool, true, false, ◌==◌, cond, List, [], ◌∷◌, refl, arith}
use Rattle.std.specs.List.{AllByRecursion}
use Rattle.rb_deliveries.specs.declared.rank.Rank.{Rank}
use Rattle.rb_deliveries.specs.declared.rank.Held.{Held}
use Rattle.rb_deliveries.specs.declared.sub.Sub.{Sub}
use Rattle.rb_deliveries.specs.Spans.{span_length}
use Rattle.rb_deliveries.specs.Queues.{AreRising, HeldRise}
use Rattle.rb_deliveries.specs.Opening.{IsLatestAt, opened_held, opened_sub, singles_held}
use Rattle.rb_deliveries.specs.Subs.{Belongs, IsDrawn, IsKnown}
use Rattle.rb_deliveries.proofs.orders.Line.{all_both, all_then}
use Rattle.rb_deliveries.proofs.spans.QueueLaws.{joins_reach}
use Rattle.rb_deliveries.proofs.subs.KnownLaws.{all_get, known_belongs_later}

module _ (front turn number : ℕ) where
  abbrev latest : Rank
  latest = record { front = front; turn = turn }

  -- the last number placed has the last turn
  known_singles : (n count : ℕ) → n + count ≤ suc front
      → AllByRecursion (IsKnown front (turn + front) number) (singles_held latest n count)
  known_singles n zero le = tt
  known_singles n (suc count) le =
      ((refl, (omega arith, omega (arith, le)), tt), known_singles (suc n) count (omega (arith, le)))

  known_opened : (first low next : ℕ) (xs : List Held) → HeldRise low xs next → next ≤ suc front
      → AllByRecursion (IsKnown front (turn + front) number) xs
      → AllByRecursion (IsKnown front (turn + front) number) (opened_held first latest xs)
  known_opened first low next [] j le known = tt
  known_opened first low next (h ∷ xs) j le known =
      all_both (IsKnown front (turn + front) number)
      (cond (h.span.first == first) (singles_held latest h.span.first (span_length h.span)) (h ∷ []))
      (opened_held first latest xs) (by (h.span.first == first))
      (known_opened first (suc h.span.last) next xs j.2 le known.1)
    where
      by : (b : Bool) → AllByRecursion (IsKnown front (turn + front) number)
          (cond b (singles_held latest h.span.first (span_length h.span)) (h ∷ []))
      by true = known_singles h.span.first (span_length h.span)
          (omega (arith, j.1, joins_reach (suc h.span.last) next xs j.2, le))
      by false = (known.0, tt)

  -- a subscription belongs after a span of it was opened
  pub sub_opened : (sub : Sub) (first : ℕ) → Belongs front turn number sub → AreRising sub.queue
      → Belongs front (turn + front) number (opened_sub sub first latest)
  sub_opened sub first b j =
      let later = known_belongs_later front turn (turn + front) number number sub (omega arith) (omega arith) b in
      record {
        is_offered = later.is_offered;
        is_next = later.is_next;
        is_drawn = later.is_drawn;
        are_known = known_opened first 1 sub.queue.next sub.queue.held j later.is_next later.are_known;
      }

  -- where a turn is left for each number placed, this rank is the latest
  pub latest_at : (s : ℕ) (subs : List Sub) → AllByRecursion (Belongs front turn number) subs
      → turn + front < 18446744073709551616 → IsLatestAt subs s latest
  latest_at s subs belong left sub found =
      let b = all_get (Belongs front turn number) subs s sub belong found in
      record {
        drawn = all_then (IsKnown front turn number) (λ h. IsDrawn front turn h.rank) sub.queue.held
            (λ h known. known.1) b.are_known;
        turns = omega (arith, left, b.is_next);
      }
