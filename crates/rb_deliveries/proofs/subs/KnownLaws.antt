-- What agrees with the front, the turns and the deliveries: its ranks are before the next one, and it still agrees
-- after a call.
use Rattle.std.proofs.Common.{◌≡◌, ℕ, zero, suc, max, ◌≤◌, Bool, true, false, not, ◌==◌, cond, List, [], ◌∷◌}
use Rattle.std.proofs.Common.{Some, None, map, nat_le, slice_get, slice_set, refl, ap, subst, arith}
use Rattle.std.proofs.Common.{length}
use Rattle.std.specs.List.{AllByRecursion}
use Rattle.std.proofs.lemmas.List.{length-map, length-set}
use Rattle.rb_deliveries.specs.declared.span.Span.{Span}
use Rattle.rb_deliveries.specs.declared.span.Status.{Status}
use Rattle.rb_deliveries.specs.declared.span.Status.TheVariants.{Ready, InFlight}
use Rattle.rb_deliveries.specs.declared.rank.Rank.{Rank}
use Rattle.rb_deliveries.specs.declared.rank.Held.{Held}
use Rattle.rb_deliveries.specs.declared.sub.Sub.{Sub}
use Rattle.rb_deliveries.specs.Spans.{is_fresh}
use Rattle.rb_deliveries.specs.Queues.{earlier, birth, queue_held, restated}
use Rattle.rb_deliveries.specs.Queues.{restated_queue, pushed_queue}
use Rattle.rb_deliveries.specs.Subs.{sub_held, IsDrawn, IsGiven, IsKnown, Belongs, delivered_sub, returned_sub}
use Rattle.rb_deliveries.specs.Subs.{settled_sub}
use Rattle.rb_deliveries.proofs.orders.Line.{all_both, all_filter, all_then}

-- ---- lists

module _ {A : Type 0} (P : A → Type 0) where
  -- what holds of each thing holds of the one at a place, and still of each where it holds of a thing that is put there
  pub all_get : (xs : List A) (i : ℕ) (x : A) → AllByRecursion P xs → slice_get xs i ≡ Some x → P x
  all_get [] i x h found = absurd (let none : None ≡ Some x = found in cc)
  all_get (y ∷ xs) zero x h found = let same : y ≡ x = cc in subst P same h.0
  all_get (y ∷ xs) (suc i) x h found = all_get xs i x h.1 found

  pub all_set : (xs : List A) (i : ℕ) (x : A) → AllByRecursion P xs → P x → AllByRecursion P (slice_set xs i x)
  all_set [] i x h p = tt
  all_set (y ∷ xs) zero x h p = (p, h.1)
  all_set (y ∷ xs) (suc i) x h p = (h.0, all_set xs i x h.1 p)

-- a bound on a list's length holds still once one item, or each, becomes another
pub few_set : {A : Type 0} {most : ℕ} (xs : List A) (i : ℕ) (x : A) → length xs ≤ most
    → length (slice_set xs i x) ≤ most
few_set xs i x few = omega (arith, few, length-set xs i x)

pub few_map : {A B : Type 0} {most : ℕ} (xs : List A) (f : A → B) → length xs ≤ most → length (map f xs) ≤ most
few_map xs f few = omega (arith, few, length-map xs f)

-- ---- earlier ranks

-- a drawn rank is earlier than that of the next turn
pub drawn_before : (front turn : ℕ) (t : Rank) → IsDrawn front turn t
    → earlier t (record { front = front; turn = suc turn }) ≡ true
drawn_before front turn t drawn = let f = drawn.0 in let n = drawn.1 in grind arith

-- the rank of a span never taken was drawn, where its first number is placed
pub known_birth_drawn : (front turn first : ℕ) (cutting : Rank) → IsDrawn front turn cutting → first ≤ front
    → IsDrawn front turn (birth cutting first)
known_birth_drawn front turn first cutting drawn le = by (nat_le first cutting.front)
  where
    by : (b : Bool) → IsDrawn front turn (cond b cutting (record { front = first; turn = 0 }))
    by true = drawn
    by false = (le, omega arith)

-- an open subscription has the spans of its queue
pub held_open : (batch front : ℕ) (sub : Sub) → sub.closed ≡ false → sub_held batch front sub
    ≡ queue_held batch front sub.queue
held_open batch front sub is = ap (λ b. cond b [] (queue_held batch front sub.queue)) is

-- ---- after a call

-- what was known is known after more turns and deliveries
given_later : (number number' : ℕ) (status : Status) → number ≤ number' → IsGiven number status → IsGiven number' status
given_later number number' (Ready taken) le given = tt
given_later number number' (InFlight n moment) le given = omega (arith, given, le)

known_later : (front turn turn' number number' : ℕ) (h : Held) → turn ≤ turn' → number ≤ number'
    → IsKnown front turn number h → IsKnown front turn' number' h
known_later front turn turn' number number' h t n known =
    (known.0, (known.1.0, omega (arith, known.1.1, t)), given_later number number' h.span.status n known.2)

pub known_belongs_later : (front turn turn' number number' : ℕ) (sub : Sub) → turn ≤ turn' → number ≤ number'
    → Belongs front turn number sub → Belongs front turn' number' sub
known_belongs_later front turn turn' number number' sub t n b = record {
  is_offered = b.is_offered;
  is_next = b.is_next;
  is_drawn = (b.is_drawn.0, omega (arith, b.is_drawn.1, t));
  are_known = all_then (IsKnown front turn number) (IsKnown front turn' number') sub.queue.held
      (λ h known. known_later front turn turn' number number' h t n known) b.are_known;
}

module _ (front turn number : ℕ) where
  -- a span that becomes so is known, where its status and its rank are
  known_restated : (first : ℕ) (status : Status) (rank : Rank) (xs : List Held) → is_fresh status ≡ false
      → IsDrawn front turn rank → IsGiven number status → AllByRecursion (IsKnown front turn number) xs
      → AllByRecursion (IsKnown front turn number) (restated first status rank xs)
  known_restated first status rank [] taken drawn given known = tt
  known_restated first status rank (h ∷ xs) taken drawn given known =
      (one (h.span.first == first), known_restated first status rank xs taken drawn given known.1)
    where
      one : (b : Bool) → IsKnown front turn number
          (cond b (record { span = record h.span { status = status }; rank = rank }) h)
      one true = (taken, drawn, given)
      one false = known.0

module _ (front turn number : ℕ) where
  -- a subscription belongs after a span was handed over
  pub sub_handed : (sub : Sub) (span : Span) (clock : ℕ) → span.last ≤ front → Belongs front turn number sub
      → Belongs front turn (suc number) (delivered_sub sub span number clock)
  sub_handed sub span clock le b = by (span.first == sub.queue.next)
    where
      later : Belongs front turn (suc number) sub
      later = known_belongs_later front turn turn number (suc number) sub (omega arith) (omega arith) b

      by : (t : Bool) → Belongs front turn (suc number)
          (record sub {
            offered = max sub.offered span.last;
            queue = cond t (pushed_queue sub.queue span (InFlight number clock))
                (restated_queue sub.queue span.first (InFlight number clock) sub.queue.cutting);
          })
      by true = record {
        is_offered = omega (arith, b.is_offered, le);
        is_next = omega (arith, le);
        is_drawn = b.is_drawn;
        are_known = all_both (IsKnown front turn (suc number)) sub.queue.held
            (record { span = record span { status = InFlight number clock }; rank = sub.queue.cutting } ∷ [])
            later.are_known ((refl, b.is_drawn, omega arith), tt);
      }
      by false = record {
        is_offered = omega (arith, b.is_offered, le);
        is_next = b.is_next;
        is_drawn = b.is_drawn;
        are_known = known_restated front turn (suc number) span.first (InFlight number clock) sub.queue.cutting
            sub.queue.held refl b.is_drawn (omega arith) later.are_known;
      }

  -- after one went back
  pub sub_returned : (sub : Sub) (first : ℕ) → Belongs front turn number sub
      → Belongs front (suc turn) number (returned_sub sub first (record { front = front; turn = suc turn }))
  sub_returned sub first b =
      let later = known_belongs_later front turn (suc turn) number number sub (omega arith) (omega arith) b in
      record {
        is_offered = later.is_offered;
        is_next = later.is_next;
        is_drawn = later.is_drawn;
        are_known = known_restated front (suc turn) number first (Ready true)
            (record { front = front; turn = suc turn }) sub.queue.held refl (omega arith, omega arith) tt
            later.are_known;
      }

  -- after one was settled
  pub sub_settled : (sub : Sub) (first : ℕ) → Belongs front turn number sub
      → Belongs front turn number (settled_sub sub first)
  sub_settled sub first b = record {
    is_offered = b.is_offered;
    is_next = b.is_next;
    is_drawn = b.is_drawn;
    are_known = all_filter (IsKnown front turn number) (λ h. not (h.span.first == first)) sub.queue.held b.are_known;
  }
