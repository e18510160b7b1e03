-- What the subscriptions offer: the first in line of each that is open and passes a test, and the first of all.
use Rattle.std.proofs.Common.{◌≡◌, ℕ, suc, ◌+◌, ◌≤◌, ne_eqb, eq-eqb, Bool, true, false, not, ◌&&◌, cond, ◌⊎◌, inl, inr}
use Rattle.std.proofs.Common.{List, [], ◌∷◌, map, Option, Some, None, option_map, filter_map, find, slice_get}
use Rattle.std.proofs.Common.{nat_lt, if◌then◌else◌, refl, sym, ap, ◌∙◌, arith}
use Rattle.std.specs.List.{cons_option}
use Rattle.rb_deliveries.specs.declared.rank.Rank.{Rank}
use Rattle.rb_deliveries.specs.declared.rank.Held.{Held}
use Rattle.rb_deliveries.specs.declared.sub.Sub.{Sub}
use Rattle.rb_deliveries.specs.Spans.{beginning, how_many_out, is_ready}
use Rattle.rb_deliveries.specs.Queues.{AreRising, HeldRise, spans_of, queue_held, earlier, better, if_ready, least}
use Rattle.rb_deliveries.specs.Orders.{all_at, ready_at, order}
use Rattle.rb_deliveries.specs.Subs.{sub_held}
use Rattle.rb_deliveries.proofs.orders.Line.{chosen_seen, sooner, first_of, first_of_append, find_first}
use Rattle.rb_deliveries.proofs.spans.FoundLaws.{better_one}
use Rattle.rb_deliveries.proofs.spans.JoinLaws.{joins_queue}
use Rattle.rb_deliveries.proofs.orders.OrderLaws.{At}

-- ---- the first in an order

-- how a ready span stands in line
abbrev pub in_ready : ℕ → Held → Rank × (ℕ × ℕ)
in_ready s h = (h.rank, (s, h.span.first))

-- the first in line of a span and others
first_better : (s : ℕ) (h : Held) (o : Option Held) → sooner (Some (in_ready s h)) (option_map (in_ready s) o)
    ≡ option_map (in_ready s) (better (Some h) o)
first_better s h None = refl
first_better s h (Some k) = sym (chosen_seen (in_ready s) (earlier k.rank h.rank) h k)

-- the first in line of a queue is the one with the least rank
pub first_ready_of : (test : ℕ → Bool) (s : ℕ) (queue : List Held)
    → first_of (λ x. test x.0) (filter_map (ready_at s) queue)
    ≡ (if test s then option_map (λ h. (h.rank, (s, h.span.first))) (least queue) else None)
first_ready_of test s [] = by (test s)
  where
    by : (b : Bool) → None ≡ cond b (option_map (in_ready s) None) None
    by true = refl
    by false = refl
first_ready_of test s (h ∷ queue) = by (is_ready h.span.status) (first_ready_of test s queue)
  where
    with_one : (b : Bool) → sooner (cond b (Some (in_ready s h)) None)
        (cond b (option_map (in_ready s) (least queue)) None)
        ≡ cond b (option_map (in_ready s) (better (Some h) (least queue))) None
    with_one true = first_better s h (least queue)
    with_one false = refl

    by : (b : Bool) → first_of (λ x. test x.0) (filter_map (ready_at s) queue)
        ≡ cond (test s) (option_map (in_ready s) (least queue)) None
        → first_of (λ x. test x.0) (cons_option (cond b (Some (in_ready s h)) None) (filter_map (ready_at s) queue))
        ≡ cond (test s) (option_map (in_ready s) (better (cond b (Some h) None) (least queue))) None
    by true rest = ap (sooner (cond (test s) (Some (in_ready s h)) None)) rest ∙ with_one (test s)
    by false rest = rest

-- the first of all queues from number s on is that of the first queue or that of the others
pub first_of_queues : (at : At) (p : ℕ × ℕ → Bool) (s : ℕ) (queue : List Held) (queues : List (List Held))
    → first_of p (all_at at s (queue ∷ queues))
    ≡ sooner (first_of p (filter_map (at s) queue)) (first_of p (all_at at (suc s) queues))
first_of_queues at p s queue queues = first_of_append p (filter_map (at s) queue) (all_at at (suc s) queues)

-- what is found in the order is the first of all queues
pub find_order : (at : At) (p : ℕ × ℕ → Bool) (queues : List (List Held)) → find p (order at queues)
    ≡ option_map (λ e. e.1) (first_of p (all_at at 0 queues))
find_order at p queues = find_first p (all_at at 0 queues)

-- ---- the first that is offered

-- what a subscription that is open and passes a test offers: its first in line
abbrev pub candidate : ℕ → ℕ → (Sub → Bool) → ℕ → Sub → Option (Rank × (ℕ × ℕ))
candidate batch front test s sub = if not sub.closed
    && test sub then option_map (λ h. (h.rank, (s, h.span.first))) (least (queue_held batch front sub.queue)) else None

-- the first of what the subscriptions from number s on offer
abbrev pub candidates : ℕ → ℕ → (Sub → Bool) → ℕ → List Sub → Option (Rank × (ℕ × ℕ))
candidates batch front test s [] = None
candidates batch front test s (sub ∷ rest) =
    sooner (candidate batch front test s sub) (candidates batch front test (suc s) rest)

-- whether a subscription's window has room
abbrev pub roomy : ℕ → ℕ → ℕ → Sub → Bool
roomy batch front window sub = nat_lt (how_many_out (spans_of (queue_held batch front sub.queue))) window

-- a test that says the same of all spans of a subscription
first_of_own : (p : ℕ × ℕ → Bool) (b : Bool) (s : ℕ) (queue : List Held) → ((first : ℕ) → p (s, first) ≡ b)
    → first_of p (filter_map (ready_at s) queue) ≡ first_of (λ x. b) (filter_map (ready_at s) queue)
first_of_own p b s [] own = refl
first_of_own p b s (h ∷ queue) own = by (is_ready h.span.status) (first_of_own p b s queue own)
  where
    by : (t : Bool) → first_of p (filter_map (ready_at s) queue) ≡ first_of (λ x. b) (filter_map (ready_at s) queue)
        → first_of p (cons_option (cond t (Some (h.rank, (s, h.span.first))) None) (filter_map (ready_at s) queue))
        ≡ first_of (λ x. b) (cons_option (cond t (Some (h.rank, (s, h.span.first))) None)
        (filter_map (ready_at s) queue))
    by true rest = λ i. sooner (cond (own h.span.first i) (Some (h.rank, (s, h.span.first))) None) (rest i)
    by false rest = rest

-- so the first of a subscription's is what it offers
first_of_sub : (batch front : ℕ) (p : ℕ × ℕ → Bool) (test : Sub → Bool) (s : ℕ) (sub : Sub)
    → (sub.closed ≡ false → (first : ℕ) → p (s, first) ≡ test sub)
    → first_of p (filter_map (ready_at s) (sub_held batch front sub)) ≡ candidate batch front test s sub
first_of_sub batch front p test s sub own = by sub.closed own
  where
    by : (c : Bool) → (c ≡ false → (first : ℕ) → p (s, first) ≡ test sub)
        → first_of p (filter_map (ready_at s) (cond c [] (queue_held batch front sub.queue)))
        ≡ (if not c && test sub then option_map (λ h. (h.rank, (s, h.span.first)))
        (least (queue_held batch front sub.queue)) else None)
    by true own = refl
    by false own = first_of_own p (test sub) s (queue_held batch front sub.queue) (own refl)
        ∙ first_ready_of (λ _. test sub) s (queue_held batch front sub.queue)

-- and the first of all is the first of what they offer
pub first_of_subs : (batch front : ℕ) (p : ℕ × ℕ → Bool) (test : Sub → Bool) (s : ℕ) (subs : List Sub)
    → ((k i : ℕ) (sub : Sub) → k ≡ s + i → slice_get subs i ≡ Some sub → sub.closed ≡ false → (first : ℕ) → p (k, first)
    ≡ test sub)
    → first_of p (all_at ready_at s (map (sub_held batch front) subs)) ≡ candidates batch front test s subs
first_of_subs batch front p test s [] own = refl
first_of_subs batch front p test s (sub ∷ subs) own =
    first_of_queues ready_at p s (sub_held batch front sub) (map (sub_held batch front) subs)
    ∙ (λ i. sooner (first_of_sub batch front p test s sub (own s 0 sub (omega arith) refl) i)
    (first_of_subs batch front p test (suc s) subs (λ k j other is found. own k (suc j) other (omega (arith, is)) found)
    i))

-- ---- the span that it is

-- it is ready
ready_one : (x h : Held) → if_ready x ≡ Some h → (x ≡ h) × (is_ready h.span.status ≡ true)
ready_one x h is = by (is_ready x.span.status) refl is
  where
    by : (t : Bool) → is_ready x.span.status ≡ t → cond t (Some x) None ≡ Some h → (x ≡ h)
        × (is_ready h.span.status ≡ true)
    by true ready is = let same : x ≡ h = cc in (same, ap (λ (h : Held). is_ready h.span.status) (sym same) ∙ ready)
    by false ready is = let none : ⊥ = cc in absurd none

-- among spans that rise it is the one that begins where it does
record SearchBegins (low : ℕ) (held : List Held) (h : Held) : Type 0 where
  from : low ≤ h.span.first
  found : beginning h.span.first (spans_of held) ≡ Some h.span
  ready : is_ready h.span.status ≡ true

least_begins : (low next : ℕ) (held : List Held) (h : Held) → HeldRise low held next → least held ≡ Some h
    → SearchBegins low held h
least_begins low next [] h j is = let none : ⊥ = cc in absurd none
least_begins low next (x ∷ rest) h j is =
    by (better_one (if_ready x) (least rest) h is) (least_begins (suc x.span.last) next rest h j.2)
  where
    by : (if_ready x ≡ Some h) ⊎ (least rest ≡ Some h) → (least rest ≡ Some h → SearchBegins (suc x.span.last) rest h)
        → SearchBegins low (x ∷ rest) h
    by (inl here) more =
        let one = ready_one x h here in
        record {
          from = omega (arith, j.0, ap (λ (h : Held). h.span.first) one.0);
          found = rw (eq-eqb x.span.first h.span.first (ap (λ (h : Held). h.span.first) one.0))
              (ap (λ (h : Held). Some h.span) one.0);
          ready = one.1;
        }
    by (inr there) more =
        let m = more there in
        let low_is : low ≤ x.span.first = j.0 in
        let up : x.span.first ≤ x.span.last = j.1 in
        record {
          from = omega (arith, low_is, up, m.from);
          found = rw (ne_eqb x.span.first h.span.first (omega (arith, up, m.from))) m.found;
          ready = m.ready;
        }

-- the span that is found by the number that the first in line begins with is that span
pub least_found : (batch front : ℕ) (sub : Sub) (h : Held) → 1 ≤ batch → sub.queue.next ≤ suc front
    → AreRising sub.queue → sub.closed ≡ false
    → least (queue_held batch front sub.queue) ≡ Some h
    → beginning h.span.first (spans_of (sub_held batch front sub)) ≡ Some h.span
least_found batch front sub h one le j opened is =
    ap (λ c. beginning h.span.first (spans_of (cond c [] (queue_held batch front sub.queue)))) opened
    ∙ (least_begins 1 (suc front) (queue_held batch front sub.queue) h
    (joins_queue batch front sub.queue one le j) is).found
