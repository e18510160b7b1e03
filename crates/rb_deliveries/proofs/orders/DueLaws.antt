-- Which subscription has a delivery that is due, and what is left when each has expired its own.
use Rattle.std.proofs.Common.{◌≡◌, ℕ, zero, suc, ◌+◌, ◌<◌, ◌≤◌, Bool, true, false, List, [], ◌∷◌, ◌*◌, length}
use Rattle.std.proofs.Common.{map, filter}
use Rattle.std.proofs.Common.{Option, Some, None, IfSome, slice_get, slice_set, refl, sym, ap, subst, ◌∙◌, arith, cond}
use Rattle.std.proofs.Common.{get_or, if◌then◌else◌}
use Rattle.std.specs.List.{AllByRecursion}
use Rattle.std.proofs.lemmas.List.{map-set}
use Rattle.rb_deliveries.specs.declared.span.Status.TheVariants.{Ready}
use Rattle.rb_deliveries.specs.declared.sub.Sub.{Sub}
use Rattle.rb_deliveries.specs.declared.rank.Held.{Held}
use Rattle.rb_deliveries.specs.declared.rank.Rank.{Rank}
use Rattle.rb_deliveries.specs.declared.tournament.Winner.{Winner}
use Rattle.rb_deliveries.specs.Spans.{is_due}
use Rattle.rb_deliveries.specs.Queues.{earlier, AreRising}
use Rattle.rb_deliveries.specs.Expiry.{due_held, due_in, all_due, expired_held, expired_sub}
use Rattle.rb_deliveries.specs.Subs.{Belongs, IsGiven}
use Rattle.rb_deliveries.specs.Tournament.{winner_of_two, at_place, winner_from}
use Rattle.rb_deliveries.specs.Waiting.{earliest, sub_moment, sub_rank, is_past, FirstPast, AreWaiting, StandsAgain}
use Rattle.rb_deliveries.proofs.orders.MomentLaws.{expired_undue, none_due, some_due, undue_held, undue_same}
use Rattle.rb_deliveries.proofs.orders.Line.{earlier_fronts, not_earlier, read_there}
use Rattle.rb_deliveries.proofs.subs.KnownLaws.{all_set}
use Rattle.rb_deliveries.proofs.spans.QueueLaws.{count_rising}

-- ---- the earliest of all

-- what follows of each rank that there is
pub each_some : {X : Type 0} {P Q : X → Type 0} → ((x : X) → P x → Q x) → (xs : List (Option X))
    → AllByRecursion (λ o. IfSome o P) xs → AllByRecursion (λ o. IfSome o Q) xs
each_some step [] h = tt
each_some step (None ∷ xs) h = (tt, each_some step xs h.1)
each_some step (Some x ∷ xs) h = (step x h.0, each_some step xs h.1)

-- the winner has a rank of this list, and no other has a smaller front
abbrev pub IsLeast : ℕ → List (Option Rank) → Option Winner → Type 0
IsLeast n ts None = AllByRecursion (λ o. IfSome o (λ (t : Rank). ⊥)) ts
IsLeast n ts (Some w) = (i : ℕ) × (w.place ≡ n + i) × (slice_get ts i ≡ Some (Some w.rank))
    × AllByRecursion (λ o. IfSome o (λ (t : Rank). w.rank.front ≤ t.front)) ts

least_of_two : (n : ℕ) (a : Rank) (ts : List (Option Rank)) (o : Option Winner) → IsLeast (suc n) ts o
    → IsLeast n (Some a ∷ ts) (winner_of_two (at_place n (Some a)) o)
least_of_two n a ts None h = (0, omega arith, refl, (omega arith, each_some (λ t e. absurd e) ts h))
least_of_two n a ts (Some w) h = by (earlier w.rank a) refl
  where
    by : (t : Bool) → earlier w.rank a ≡ t
        → IsLeast n (Some a ∷ ts) (if t then Some w else Some (record { place = n; rank = a }))
    by true is = (suc h.0, omega (arith, h.1), h.2, (earlier_fronts w.rank a is, h.3))
    by false is =
        let le = not_earlier w.rank a is in
        (0, omega arith, refl, (omega arith, each_some (λ t more. omega (arith, le, more)) ts h.3))

least_behind : (n : ℕ) (ts : List (Option Rank)) (o : Option Winner) → IsLeast (suc n) ts o → IsLeast n (None ∷ ts) o
least_behind n ts None h = (tt, h)
least_behind n ts (Some w) h = (suc h.0, omega (arith, h.1), h.2, (tt, h.3))

pub winner_is_least : (n : ℕ) (ts : List (Option Rank)) → IsLeast n ts (winner_from n ts)
winner_is_least n [] = tt
winner_is_least n (None ∷ ts) = least_behind n ts (winner_from (suc n) ts) (winner_is_least (suc n) ts)
winner_is_least n (Some a ∷ ts) = least_of_two n a ts (winner_from (suc n) ts) (winner_is_least (suc n) ts)

-- ---- one subscription expires its own

module _ (timeout clock : ℕ) (rank : Held → Rank) where
  expires : Sub → Sub
  expires = expired_sub timeout clock rank

  pub expired_twice : (sub : Sub) → expired_sub timeout clock rank (expired_sub timeout clock rank sub)
      ≡ expired_sub timeout clock rank sub
  expired_twice sub = ap (λ held. record sub { queue = record sub.queue { held = held } }) (by sub.closed)
    where
      by : (b : Bool) → (if b then (if b then sub.queue.held else map (expired_held timeout clock rank) sub.queue.held)
          else map (expired_held timeout clock rank)
          (if b then sub.queue.held else map (expired_held timeout clock rank) sub.queue.held))
          ≡ (if b then sub.queue.held else map (expired_held timeout clock rank) sub.queue.held)
      by true = refl
      by false = undue_same timeout clock rank (map (expired_held timeout clock rank) sub.queue.held)
          (expired_undue timeout clock rank sub.queue.held)

  pub none_left : (sub : Sub) → due_in timeout clock (expired_sub timeout clock rank sub) ≡ 0
  none_left sub = by sub.closed
    where
      by : (b : Bool) → (if b then 0 else due_held timeout clock
          (if b then sub.queue.held else map (expired_held timeout clock rank) sub.queue.held)) ≡ 0
      by true = refl
      by false = undue_held timeout clock (map (expired_held timeout clock rank) sub.queue.held)
          (expired_undue timeout clock rank sub.queue.held)

  pub map_expired : (subs : List Sub) (s : ℕ) (sub : Sub) → slice_get subs s ≡ Some sub
      → map (expired_sub timeout clock rank) (slice_set subs s (expired_sub timeout clock rank sub))
      ≡ map (expired_sub timeout clock rank) subs
  map_expired [] s sub is = refl
  map_expired (x ∷ subs) zero sub is =
      let same : x ≡ sub = cc in
      ap (λ y. y ∷ map (expired_sub timeout clock rank) subs) (expired_twice sub
      ∙ ap (expired_sub timeout clock rank) (sym same))
  map_expired (x ∷ subs) (suc s) sub is =
      ap (λ l. expired_sub timeout clock rank x ∷ l) (map_expired subs s sub is)

  -- where nothing is past, all is as it would be after expiring
  pub all_expired : (subs : List Sub) → FirstPast timeout clock (map sub_moment subs) None
      → (map (expired_sub timeout clock rank) subs ≡ subs) × (all_due timeout clock subs ≡ 0)
  all_expired [] h = (refl, refl)
  all_expired (sub ∷ subs) h =
      let rest = all_expired subs h.1 in
      let own = by sub.closed h.0 in (
        (λ k. ap (λ held. record sub { queue = record sub.queue { held = held } }) own.0 k ∷ rest.0 k),
        omega (arith, rest.1, own.1),
      )
    where
      by : (b : Bool) → IfSome (if b then None else earliest sub.queue.held) (λ t. is_past timeout clock t ≡ false)
          → ((if b then sub.queue.held else map (expired_held timeout clock rank) sub.queue.held) ≡ sub.queue.held)
          × ((if b then 0 else due_held timeout clock sub.queue.held) ≡ 0)
      by true h = (refl, refl)
      by false h =
          let undue = none_due timeout clock sub.queue.held h in
          (undue_same timeout clock rank sub.queue.held undue, undue_held timeout clock sub.queue.held undue)

  -- so it is where none is found among the moments
  pub none_past : (subs : List Sub) (moments : List (Option Rank)) (o : Option ℕ) → moments ≡ map sub_moment subs
      → FirstPast timeout clock moments o → o ≡ None
      → (map (expired_sub timeout clock rank) subs ≡ subs) × (all_due timeout clock subs ≡ 0)
  none_past subs moments o are past is =
      all_expired subs (subst (λ ts. FirstPast timeout clock ts None) are
      (subst (FirstPast timeout clock moments) is past))

  given_expired : (next : ℕ) (held : List Held) → AllByRecursion (λ h. IsGiven next h.span.status) held
      → AllByRecursion (λ h. IsGiven next h.span.status) (map (expired_held timeout clock rank) held)
  given_expired next [] h = tt
  given_expired next (x ∷ held) h = (by (is_due timeout clock x.span.status), given_expired next held h.1)
    where
      by : (b : Bool) → IsGiven next (if b then record {
        span = record x.span { status = Ready true };
        rank = rank x;
      } else x).span.status
      by true = tt
      by false = h.0

  pub given_expired_sub : (next : ℕ) (sub : Sub) → AllByRecursion (λ h. IsGiven next h.span.status) sub.queue.held
      → AllByRecursion (λ h. IsGiven next h.span.status) (expired_sub timeout clock rank sub).queue.held
  given_expired_sub next sub h = by sub.closed
    where
      by : (b : Bool) → AllByRecursion (λ h. IsGiven next h.span.status)
          (if b then sub.queue.held else map (expired_held timeout clock rank) sub.queue.held)
      by true = h
      by false = given_expired next sub.queue.held h

-- ---- sums over subscriptions

pub due_after : (timeout clock : ℕ) (subs : List Sub) (s : ℕ) (sub new : Sub) → slice_get subs s ≡ Some sub
    → all_due timeout clock (slice_set subs s new) + due_in timeout clock sub
    ≡ all_due timeout clock subs + due_in timeout clock new
due_after timeout clock [] s sub new is = absurd (let e : None ≡ Some sub = is in cc)
due_after timeout clock (x ∷ subs) zero sub new is =
    let same : x ≡ sub = cc in
    omega (arith, ap (due_in timeout clock) same)
due_after timeout clock (x ∷ subs) (suc s) sub new is = omega (arith, due_after timeout clock subs s sub new is)

-- the subscription whose moment is past has a span that is due
abbrev HasDue : ℕ → ℕ → List Sub → ℕ → Type 0
HasDue timeout clock subs s = (sub : Sub) × (slice_get subs s ≡ Some sub) × (1 ≤ due_in timeout clock sub)

past_at : (timeout clock : ℕ) (subs : List Sub) (s : ℕ) → FirstPast timeout clock (map sub_moment subs) (Some s)
    → HasDue timeout clock subs s
past_at timeout clock [] s past = absurd (let e : None ≡ Some (Some past.0) = past.1 in cc)
past_at timeout clock (sub ∷ subs) zero past = (sub, refl, by sub.closed (inner past.1))
  where
    inner : {X : Type 0} {a b : X} → Some a ≡ Some b → a ≡ b
    inner e = cc

    by : (b : Bool) → (if b then None else earliest sub.queue.held) ≡ Some past.0
        → 1 ≤ (if b then 0 else due_held timeout clock sub.queue.held)
    by true is = absurd (let e : None ≡ Some past.0 = is in cc)
    by false is = some_due timeout clock sub.queue.held past.0 is past.2
past_at timeout clock (sub ∷ subs) (suc s) past = past_at timeout clock subs s past

-- so has the one that is found among the moments
pub past_has_due : (timeout clock : ℕ) (subs : List Sub) (moments : List (Option Rank)) (o : Option ℕ) (s : ℕ)
    → moments ≡ map sub_moment subs → FirstPast timeout clock moments o → o ≡ Some s → HasDue timeout clock subs s
past_has_due timeout clock subs moments o s are past is =
    past_at timeout clock subs s (subst (λ ts. FirstPast timeout clock ts (Some s)) are
    (subst (FirstPast timeout clock moments) is past))

pub due_part : (timeout clock : ℕ) (subs : List Sub) (s : ℕ) (sub : Sub) → slice_get subs s ≡ Some sub
    → due_in timeout clock sub ≤ all_due timeout clock subs
due_part timeout clock subs s sub is =
    omega (
      arith,
      due_after timeout clock subs s sub (expired_sub timeout clock (λ h. h.rank) sub) is,
      none_left timeout clock (λ h. h.rank) sub,
    )

-- ---- what stands after a change

pub waiting_after : (window s : ℕ) (subs : List Sub) (sub : Sub) (line moments new_line new_moments : List (Option
    Rank))
    → AreWaiting window subs line moments → StandsAgain window s sub line moments new_line new_moments
    → AreWaiting window (slice_set subs s sub) new_line new_moments
waiting_after window s subs sub line moments new_line new_moments old stands = record {
  in_line = stands.in_line ∙ ap (λ l. slice_set l s (sub_rank window sub)) old.in_line
      ∙ sym (map-set (sub_rank window) subs s sub);
  in_flight = stands.in_flight ∙ ap (λ l. slice_set l s (sub_moment sub)) old.in_flight
      ∙ sym (map-set sub_moment subs s sub);
  rising = all_set (λ sub. AreRising sub.queue) subs s sub old.rising stands.rises;
}

pub set_there : (xs : List Sub) (i : ℕ) (x : Sub) → i < length xs → slice_get (slice_set xs i x) i ≡ Some x
set_there [] i x h = absurd (omega (arith, h))
set_there (y ∷ xs) zero x h = refl
set_there (y ∷ xs) (suc i) x h = set_there xs i x (omega (arith, h))

-- in a call, which says what the subscription has become
pub waiting_as : {window : ℕ} {subs now : List Sub} {line moments new_line new_moments : List (Option Rank)} (s : ℕ)
    (sub : Sub)
    → AreWaiting window subs line moments → s < length subs → now ≡ slice_set subs s sub
    → ((found : Sub) → slice_get now s ≡ Some found → StandsAgain window s found line moments new_line new_moments)
    → AreWaiting window (slice_set subs s sub) new_line new_moments
waiting_as {window} {subs} {now} {line} {moments} {new_line} {new_moments} s sub old less is given =
    waiting_after window s subs sub line moments new_line new_moments old
    (given sub (ap (λ l. slice_get l s) is ∙ set_there subs s sub less))

-- and what that is, told of the subscription that was there
pub changed_as : {new : Sub} (subs : List Sub) (s : ℕ) (read sub : Sub) (change : Sub → Sub)
    → read ≡ get_or subs s read
    → slice_get subs s ≡ Some sub → new ≡ change read → new ≡ change sub
changed_as subs s read sub change is found made = made ∙ ap change (read_there subs s read sub is found)

-- ---- how many can be due

due_at_most : (timeout clock : ℕ) (held : List Held) → due_held timeout clock held ≤ length held
due_at_most timeout clock [] = omega arith
due_at_most timeout clock (x ∷ held) = by (is_due timeout clock x.span.status) (due_at_most timeout clock held)
  where
    by : (b : Bool) → length (filter (λ h. is_due timeout clock h.span.status) held) ≤ length held
        → length (cond b (x ∷ filter (λ h. is_due timeout clock h.span.status) held)
        (filter (λ h. is_due timeout clock h.span.status) held)) ≤ suc (length held)
    by true le = omega (arith, le)
    by false le = omega (arith, le)

pub few_due : (timeout clock front turn number : ℕ) (subs : List Sub)
    → AllByRecursion (Belongs front turn number) subs → AllByRecursion (λ sub. AreRising sub.queue) subs
    → front ≤ 16777216 → all_due timeout clock subs ≤ 16777217 * length subs
few_due timeout clock front turn number [] belong rising le = omega arith
few_due timeout clock front turn number (sub ∷ subs) belong rising le =
    omega (arith, few_due timeout clock front turn number subs belong.1 rising.1 le, by sub.closed)
  where
    by : (b : Bool) → (if b then 0 else due_held timeout clock sub.queue.held) ≤ 16777217
    by true = omega arith
    by false = omega (
      arith,
      due_at_most timeout clock sub.queue.held,
      count_rising 1 sub.queue.next sub.queue.held rising.0,
      belong.0.is_next,
      le,
    )
