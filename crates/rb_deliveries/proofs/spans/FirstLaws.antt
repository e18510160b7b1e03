-- Which span is first in line.
use Rattle.std.proofs.Common.{◌≡◌, ℕ, zero, suc, ◌+◌, Bool, true, false, not, ◌&&◌, nat_lt, if◌then◌else◌, ◌⊎◌}
use Rattle.std.proofs.Common.{inl, inr, slice_get, List, [], ◌∷◌, Option, Some}
use Rattle.std.proofs.Common.{None, option_map, sym, ap, ◌∙◌, refl, arith}
use Rattle.rb_deliveries.specs.declared.rank.Rank.{Rank}
use Rattle.rb_deliveries.specs.Spans.{how_many_out}
use Rattle.rb_deliveries.specs.Queues.{spans_of, queue_held, least, earlier}
use Rattle.rb_deliveries.proofs.orders.Line.{sooner, chosen_seen, chosen_one}
use Rattle.rb_deliveries.proofs.spans.FoundLaws.{queue_how_many_out}
use Rattle.rb_deliveries.proofs.orders.CandidateLaws.{candidate, candidates}
use Rattle.rb_deliveries.specs.declared.rank.Held.{Held}
use Rattle.rb_deliveries.specs.declared.sub.Sub.{Sub}
use Rattle.rb_deliveries.specs.Subs.{goes_first, next_to_deliver, first_to_deliver}

-- ---- what the search finds is what the orders say

abbrev pub tagged_to_go : ℕ × Held → Rank × (ℕ × ℕ)
tagged_to_go c = (c.1.rank, (c.0, c.1.span.first))

ahead_tagged : (a b : Option (ℕ × Held)) → option_map tagged_to_go (goes_first a b)
    ≡ sooner (option_map tagged_to_go a) (option_map tagged_to_go b)
ahead_tagged None b = refl
ahead_tagged (Some a) None = refl
ahead_tagged (Some a) (Some b) = chosen_seen tagged_to_go (earlier b.1.rank a.1.rank) a b

candidate_by : (s : ℕ) (t : Bool) (o : Option Held)
    → (if t then option_map (λ h. (h.rank, (s, h.span.first))) o else None)
    ≡ option_map tagged_to_go (option_map (λ h. (s, h)) (if t then o else None))
candidate_by s true None = refl
candidate_by s true (Some h) = refl
candidate_by s false o = refl

candidate_is : (window batch front s : ℕ) (sub : Sub)
    → candidate batch front (λ sub. nat_lt (how_many_out (spans_of (queue_held batch front sub.queue))) window) s sub
    ≡ option_map tagged_to_go (option_map (λ h. (s, h)) (next_to_deliver window batch front sub))
candidate_is window batch front s sub =
    ap (λ n. if not sub.closed && nat_lt n window then option_map (λ h. (h.rank, (s, h.span.first)))
    (least (queue_held batch front sub.queue)) else None) (queue_how_many_out batch front sub.queue)
    ∙ candidate_by s (not sub.closed && nat_lt (how_many_out (spans_of sub.queue.held)) window)
    (least (queue_held batch front sub.queue))

pub candidates_are : (window batch front s : ℕ) (subs : List Sub)
    → candidates batch front (λ sub. nat_lt (how_many_out (spans_of (queue_held batch front sub.queue))) window) s subs
    ≡ option_map tagged_to_go (first_to_deliver window batch front s subs)
candidates_are window batch front s [] = refl
candidates_are window batch front s (sub ∷ rest) =
    (λ i. sooner (candidate_is window batch front s sub i) (candidates_are window batch front (suc s) rest i))
    ∙ sym (ahead_tagged (option_map (λ h. (s, h)) (next_to_deliver window batch front sub))
    (first_to_deliver window batch front (suc s) rest))

ahead_one : (a b : Option (ℕ × Held)) (c : ℕ × Held) → goes_first a b ≡ Some c → (a ≡ Some c) ⊎ (b ≡ Some c)
ahead_one None b c h = inr h
ahead_one (Some a) None c h = inl h
ahead_one (Some a) (Some b) c h = chosen_one (earlier b.1.rank a.1.rank) a b c h

pub none_some : {X : Type 0} {c : X} → None ≡ Some c → ⊥
none_some {X} {c} h = cc

some_same : {a c : ℕ × Held} → Some a ≡ Some c → a ≡ c
some_same {a} {c} h = cc

-- the one that goes first is of a subscription that is kept
abbrev pub GoesAt : ℕ → ℕ → ℕ → ℕ → List Sub → ℕ × Held → Type 0
GoesAt window batch front s subs c = (k : ℕ) × (sub : Sub) × (c.0 ≡ s + k) × (slice_get subs k ≡ Some sub)
    × (next_to_deliver window batch front sub ≡ Some c.1)

first_own_goes : (window batch front s : ℕ) (sub : Sub) (rest : List Sub) (c : ℕ × Held) (o : Option Held)
    → next_to_deliver window batch front sub ≡ o → option_map (λ h. (s, h)) o ≡ Some c
    → GoesAt window batch front s (sub ∷ rest) c
first_own_goes window batch front s sub rest c None e h = absurd (none_some h)
first_own_goes window batch front s sub rest c (Some held) e h =
    let same : (s, held) ≡ c = some_same h in
    (zero, sub, omega (arith, ap (λ (c : ℕ × Held). c.0) same), refl, e ∙ ap (λ (c : ℕ × Held). Some c.1) same)

goes_by : (window batch front s : ℕ) (sub : Sub) (rest : List Sub) (c : ℕ × Held)
    → (option_map (λ h. (s, h)) (next_to_deliver window batch front sub) ≡ Some c)
    ⊎ (first_to_deliver window batch front (suc s) rest ≡ Some c)
    → (first_to_deliver window batch front (suc s) rest ≡ Some c → GoesAt window batch front (suc s) rest c)
    → GoesAt window batch front s (sub ∷ rest) c
goes_by window batch front s sub rest c (inl own) later =
    first_own_goes window batch front s sub rest c (next_to_deliver window batch front sub) refl own
goes_by window batch front s sub rest c (inr behind) later = let g =
    later behind in (suc g.0, g.1, omega (arith, g.2), g.3, g.4)

pub first_goes : (window batch front s : ℕ) (subs : List Sub) (c : ℕ × Held)
    → first_to_deliver window batch front s subs ≡ Some c → GoesAt window batch front s subs c
first_goes window batch front s [] c h = absurd (none_some h)
first_goes window batch front s (sub ∷ rest) c h =
    goes_by window batch front s sub rest c
    (ahead_one (option_map (λ h. (s, h)) (next_to_deliver window batch front sub))
    (first_to_deliver window batch front (suc s) rest) c h) (first_goes window batch front (suc s) rest c)

goes_by_tests : (closed room : Bool) (o : Option Held) (h : Held) → (if not closed && room then o else None) ≡ Some h
    → (closed ≡ false) × (o ≡ Some h)
goes_by_tests true room o h e = absurd (none_some e)
goes_by_tests false true o h e = (refl, e)
goes_by_tests false false o h e = absurd (none_some e)

-- it is of an open subscription, and the first in line there
pub goes_open : (window batch front : ℕ) (sub : Sub) (h : Held) → next_to_deliver window batch front sub ≡ Some h
    → (sub.closed ≡ false) × (least (queue_held batch front sub.queue) ≡ Some h)
goes_open window batch front sub h e =
    goes_by_tests sub.closed (nat_lt (how_many_out (spans_of sub.queue.held)) window)
    (least (queue_held batch front sub.queue)) h e
