-- What is stored still agrees with the front, the turns and the deliveries after expired spans are returned.
use Rattle.std.proofs.Common.{◌≡◌, ℕ, ◌+◌, ◌-◌, ◌<◌, ◌≤◌, Bool, true, false, cond, List, [], ◌∷◌, map, nat_le, refl}
use Rattle.std.proofs.Common.{arith}
use Rattle.std.specs.Prelude.{⊤}
use Rattle.std.specs.List.{AllByRecursion}
use Rattle.rb_deliveries.specs.Expiry.{turns_from, by_number, expired_held, expired_sub}
use Rattle.rb_deliveries.specs.declared.rank.Rank.{Rank}
use Rattle.rb_deliveries.specs.declared.rank.Held.{Held}
use Rattle.rb_deliveries.specs.declared.span.Status.{Status}
use Rattle.rb_deliveries.specs.declared.span.Status.TheVariants.{Ready, InFlight}
use Rattle.rb_deliveries.specs.declared.sub.Sub.{Sub}
use Rattle.rb_deliveries.specs.Subs.{IsDrawn, IsGiven, IsKnown, Belongs}
use Rattle.rb_deliveries.proofs.orders.Line.{all_then}

-- ---- the numbers of what is due

-- D holds of the delivery's number of a span that is due
abbrev pub Numbered : (ℕ → Type 0) → ℕ → ℕ → Status → Type 0
Numbered D timeout clock (Ready taken) = ⊤
Numbered D timeout clock (InFlight number moment) = nat_le timeout (clock - moment) ≡ true → D number

abbrev pub AllNumbered : (ℕ → Type 0) → ℕ → ℕ → Sub → Type 0
AllNumbered D timeout clock sub = AllByRecursion (λ h. Numbered D timeout clock h.span.status) sub.queue.held

-- a number that was given, for one
pub given_numbered : (front turn number timeout clock : ℕ) (subs : List Sub)
    → AllByRecursion (Belongs front turn number) subs
    → AllByRecursion (AllNumbered (λ n. n < number) timeout clock) subs
given_numbered front turn number timeout clock subs =
    all_then (Belongs front turn number) (AllNumbered (λ n. n < number) timeout clock) subs
    (λ sub b. all_then (IsKnown front turn number) (λ h. Numbered (λ n. n < number) timeout clock h.span.status)
    sub.queue.held (λ h known. by h.span.status known.2) b.are_known)
  where
    by : (status : Status) → IsGiven number status → Numbered (λ n. n < number) timeout clock status
    by (Ready taken) given = tt
    by (InFlight n moment) given = λ _. given

-- ---- what stays so

-- what belongs to a desk does after it, where the turns go on so far that the new ranks are drawn
pub belongs_expired : (front turn turn' number timeout clock : ℕ) (D : ℕ → Type 0) (tk : ℕ → Rank) (subs : List Sub)
    → turn ≤ turn' → ((n : ℕ) → D n → IsDrawn front turn' (tk n)) → AllByRecursion (Belongs front turn number) subs
    → AllByRecursion (AllNumbered D timeout clock) subs
    → AllByRecursion (Belongs front turn' number) (map (expired_sub timeout clock (by_number tk)) subs)
belongs_expired front turn turn' number timeout clock D tk [] le drawn h num = tt
belongs_expired front turn turn' number timeout clock D tk (sub ∷ subs) le drawn h num =
    (each h.0, belongs_expired front turn turn' number timeout clock D tk subs le drawn h.1 num.1)
  where
    known : (x : Held) → IsKnown front turn number x → Numbered D timeout clock x.span.status
        → IsKnown front turn' number (expired_held timeout clock (by_number tk) x)
    known x k n = by x.span.status k n
      where
        in_state : Status → Held
        in_state status = record { span = record x.span { status = status }; rank = x.rank }

        by : (status : Status) → IsKnown front turn number (in_state status) → Numbered D timeout clock status
            → IsKnown front turn' number (expired_held timeout clock (by_number tk) (in_state status))
        by (Ready taken) k num = (k.0, (k.1.0, omega (arith, k.1.1)), k.2)
        by (InFlight n moment) k num = either_known (nat_le timeout (clock - moment)) num
          where
            either_known : (t : Bool) → (t ≡ true → D n)
                → IsKnown front turn' number
                (cond t (record { span = record x.span { status = Ready true }; rank = tk n })
                (in_state (InFlight n moment)))
            either_known true num = (refl, drawn n (num refl), tt)
            either_known false num = (k.0, (k.1.0, omega (arith, k.1.1)), k.2)

    all_known : (held : List Held) → AllByRecursion (IsKnown front turn number) held
        → AllByRecursion (λ h. Numbered D timeout clock h.span.status) held
        → AllByRecursion (IsKnown front turn' number) (map (expired_held timeout clock (by_number tk)) held)
    all_known [] h num = tt
    all_known (x ∷ held) h num = (known x h.0 num.0, all_known held h.1 num.1)

    open_known : (c : Bool) → AllByRecursion (IsKnown front turn number) sub.queue.held
        → AllByRecursion (IsKnown front turn' number)
        (cond c sub.queue.held (map (expired_held timeout clock (by_number tk)) sub.queue.held))
    open_known true h = all_then (IsKnown front turn number) (IsKnown front turn' number) sub.queue.held
        (λ h k. (k.0, (k.1.0, omega (arith, le, k.1.1)), k.2)) h
    open_known false h = all_known sub.queue.held h num.0

    each : Belongs front turn number sub → Belongs front turn' number (expired_sub timeout clock (by_number tk) sub)
    each b = record {
      is_offered = b.is_offered;
      is_next = b.is_next;
      is_drawn = (b.is_drawn.0, omega (arith, b.is_drawn.1));
      are_known = open_known sub.closed b.are_known;
    }

-- with the turns behind this one, by the deliveries' numbers
pub belongs_turned_back : (front turn number timeout clock : ℕ) (subs : List Sub)
    → AllByRecursion (Belongs front turn number) subs
    → AllByRecursion (Belongs front (turn + number) number)
    (map (expired_sub timeout clock (by_number (turns_from front turn))) subs)
belongs_turned_back front turn number timeout clock subs h =
    belongs_expired front turn (turn + number) number timeout clock (λ n. n < number) (turns_from front turn) subs
    (omega arith) (λ n less. (omega arith, omega (arith, less))) h
    (given_numbered front turn number timeout clock subs h)
