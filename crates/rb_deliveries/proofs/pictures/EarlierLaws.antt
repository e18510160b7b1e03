-- What stands in the two orders comes before a later rank, and before the next delivery.
use Rattle.std.proofs.Common.{◌≡◌, ℕ, suc, ◌<◌, ◌≤◌, Bool, true, false, cond, List, [], ◌∷◌, map, Some, None, IfSome}
use Rattle.std.proofs.Common.{if◌then◌else◌, arith}
use Rattle.std.specs.List.{AllByRecursion}
use Rattle.rb_deliveries.specs.declared.span.Status.{Status}
use Rattle.rb_deliveries.specs.declared.span.Status.TheVariants.{Ready, InFlight}
use Rattle.rb_deliveries.specs.declared.sub.Sub.{Sub}
use Rattle.rb_deliveries.specs.declared.rank.Held.{Held}
use Rattle.rb_deliveries.specs.declared.rank.Rank.{Rank}
use Rattle.rb_deliveries.specs.Queues.{earlier, queue_held, ranked, with_birth}
use Rattle.rb_deliveries.specs.Orders.{all_at, ready_at, out_at, out_at_status}
use Rattle.rb_deliveries.specs.Spans.{cut_spans, fresh, is_ready}
use Rattle.rb_deliveries.specs.Subs.{sub_held, IsDrawn, IsGiven, IsKnown, Belongs}
use Rattle.rb_deliveries.proofs.orders.Line.{all_both, all_then}
use Rattle.rb_deliveries.proofs.orders.OrderLaws.{all_earlier}
use Rattle.rb_deliveries.proofs.spans.QueueLaws.{cutting_all}
use Rattle.rb_deliveries.proofs.subs.KnownLaws.{known_birth_drawn}

-- a rank that was drawn is earlier than that of the next placement
pub before_placement : (front turn : ℕ) (k : Rank) → IsDrawn front turn k
    → earlier k (record { front = suc front; turn = 0 }) ≡ true
before_placement front turn k h = grind arith

-- a delivery's number that was given stands before the next one
pub before_delivery : (number next : ℕ) → number < next
    → earlier (record { front = number; turn = 0 }) (record { front = next; turn = 0 }) ≡ true
before_delivery number next h = grind arith

-- ---- what holds of each span

-- what holds of those that were taken before and of the cutting's holds of each of a subscription
pub sub_all : (batch front : ℕ) (P : Held → Type 0) (sub : Sub) → AllByRecursion P sub.queue.held
    → AllByRecursion P (ranked sub.queue.cutting (cut_spans batch sub.queue.next front))
    → AllByRecursion P (sub_held batch front sub)
sub_all batch front P sub h k = by sub.closed
  where
    by : (t : Bool) → AllByRecursion P (if t then [] else queue_held batch front sub.queue)
    by true = tt
    by false = all_both P sub.queue.held _ h k

-- what holds of each subscription's spans, by what belongs to it
pub queues_all : (batch front : ℕ) (B : Sub → Type 0) (P : List Held → Type 0) (subs : List Sub)
    → ((sub : Sub) → B sub → P (sub_held batch front sub)) → AllByRecursion B subs
    → AllByRecursion P (map (sub_held batch front) subs)
queues_all batch front B P [] each h = tt
queues_all batch front B P (sub ∷ subs) each h = (each sub h.0, queues_all batch front B P subs each h.1)

-- each ready span has a rank that is earlier than one later than all that were drawn
pub ready_earlier : (batch front turn number : ℕ) (t : Rank) (subs : List Sub) → 1 ≤ batch
    → ((k : Rank) → IsDrawn front turn k → earlier k t ≡ true) → AllByRecursion (Belongs front turn number) subs
    → AllByRecursion (λ e. earlier e.0 t ≡ true) (all_at ready_at 0 (map (sub_held batch front) subs))
ready_earlier batch front turn number t subs one later h =
    all_earlier ready_at t (map (sub_held batch front) subs)
    (queues_all batch front (Belongs front turn number) (AllByRecursion IsEarlier) subs of_sub h)
  where
    IsEarlier : Held → Type 0
    IsEarlier h = (s : ℕ) → IfSome (ready_at s h) (λ e. earlier e.0 t ≡ true)

    of_held : (h : Held) → IsDrawn front turn h.rank → IsEarlier h
    of_held h drawn s = by (is_ready h.span.status)
      where
        by : (b : Bool) → IfSome {T = Rank × (ℕ × ℕ)} (cond b (Some (h.rank, (s, h.span.first))) None)
            (λ e. earlier e.0 t ≡ true)
        by true = later h.rank drawn
        by false = tt

    of_sub : (sub : Sub) → Belongs front turn number sub → AllByRecursion IsEarlier (sub_held batch front sub)
    of_sub sub b =
        sub_all batch front IsEarlier sub
        (all_then (IsKnown front turn number) IsEarlier sub.queue.held (λ h known. of_held h known.1) b.are_known)
        (cutting_all batch front sub.queue.cutting IsEarlier one sub.queue.next
        (λ x end l m n. of_held (with_birth sub.queue.cutting (fresh x end))
        (known_birth_drawn front turn x sub.queue.cutting b.is_drawn (omega arith))))

-- and each that is out has a number that was given
pub out_earlier : (batch front turn number : ℕ) (subs : List Sub) → 1 ≤ batch
    → AllByRecursion (Belongs front turn number) subs
    → AllByRecursion (λ e. earlier e.0 (record { front = number; turn = 0 }) ≡ true)
    (all_at out_at 0 (map (sub_held batch front) subs))
out_earlier batch front turn number subs one h =
    all_earlier out_at (record { front = number; turn = 0 }) (map (sub_held batch front) subs)
    (queues_all batch front (Belongs front turn number) (AllByRecursion IsEarlier) subs of_sub h)
  where
    IsEarlier : Held → Type 0
    IsEarlier h = (s : ℕ) → IfSome (out_at s h) (λ e. earlier e.0 (record { front = number; turn = 0 }) ≡ true)

    of_status : (s first : ℕ) (status : Status) → IsGiven number status
        → IfSome (out_at_status s first status) (λ e. earlier e.0 (record { front = number; turn = 0 }) ≡ true)
    of_status s first (Ready taken) given = tt
    of_status s first (InFlight n moment) given = before_delivery n number given

    of_sub : (sub : Sub) → Belongs front turn number sub → AllByRecursion IsEarlier (sub_held batch front sub)
    of_sub sub b =
        sub_all batch front IsEarlier sub
        (all_then (IsKnown front turn number) IsEarlier sub.queue.held
        (λ h known s. of_status s h.span.first h.span.status known.2) b.are_known)
        (cutting_all batch front sub.queue.cutting IsEarlier one sub.queue.next (λ x end l m n s. tt))
