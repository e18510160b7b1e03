-- The earliest moments of deliveries in flight, and which spans are due.
use Rattle.std.proofs.Common.{◌≡◌, ℕ, ◌-◌, ◌≤◌, Bool, true, false, List, [], ◌∷◌}
use Rattle.std.proofs.Common.{length, map, filter, Option, Some, None, IfSome, refl, sym, ap}
use Rattle.std.proofs.Common.{subst, ◌∙◌, arith, cond, if◌then◌else◌}
use Rattle.std.specs.List.{AllByRecursion}
use Rattle.std.proofs.lemmas.Bool.{leb-false, lt-leb}
use Rattle.rb_deliveries.specs.declared.span.Status.{Status}
use Rattle.rb_deliveries.specs.declared.span.Status.TheVariants.{Ready, InFlight}
use Rattle.rb_deliveries.specs.declared.rank.Held.{Held}
use Rattle.rb_deliveries.specs.declared.rank.Rank.{Rank}
use Rattle.rb_deliveries.specs.Spans.{is_out, is_due}
use Rattle.rb_deliveries.specs.Queues.{earlier}
use Rattle.rb_deliveries.specs.Expiry.{due_held, expired_held}
use Rattle.rb_deliveries.specs.Waiting.{moment_of, first_rank, earliest, is_past}
use Rattle.rb_deliveries.proofs.orders.Line.{earlier_fronts, not_earlier}

-- ---- the earliest of some spans

pub first_assoc : (a b c : Option Rank) → first_rank (first_rank a b) c ≡ first_rank a (first_rank b c)
first_assoc None b c = refl
first_assoc (Some a) None c = refl
first_assoc (Some a) (Some b) None = grind arith
first_assoc (Some a) (Some b) (Some c) = grind arith

no_moment : (status : Status) → is_out status ≡ false → moment_of status ≡ None
no_moment (Ready taken) is = refl
no_moment (InFlight number moment) is = absurd (let e : true ≡ false = is in cc)

-- only spans in flight have a moment
pub earliest_out : (xs : List Held) → earliest (filter (λ h. is_out h.span.status) xs) ≡ earliest xs
earliest_out [] = refl
earliest_out (x ∷ xs) = by (is_out x.span.status) refl (earliest_out xs)
  where
    by : (b : Bool) → is_out x.span.status ≡ b → earliest (filter (λ h. is_out h.span.status) xs) ≡ earliest xs
        → earliest (cond b (x ∷ filter (λ h. is_out h.span.status) xs) (filter (λ h. is_out h.span.status) xs))
        ≡ first_rank (moment_of x.span.status) (earliest xs)
    by true is e = ap (first_rank (moment_of x.span.status)) e
    by false is e = e ∙ sym (ap (λ o. first_rank o (earliest xs)) (no_moment x.span.status is))

-- ---- what is due

module _ (timeout clock : ℕ) where
  past_is_due : (status : Status) (t : Rank) → moment_of status ≡ Some t → is_due timeout clock status
      ≡ is_past timeout clock t
  past_is_due (Ready taken) t is = absurd (let e : None ≡ Some t = is in cc)
  past_is_due (InFlight number moment) t is =
      ap (is_past timeout clock) (let e : record { front = moment; turn = 0 } ≡ t = cc in e)

  pub past_later : (a b : Rank) → a.front ≤ b.front → is_past timeout clock a ≡ false → is_past timeout clock b
      ≡ false
  past_later a b le is = lt-leb timeout (clock - b.front) (omega (arith, le, leb-false timeout (clock - a.front) is))

  -- where the earliest moment is past, a span is due
  pub some_due : (xs : List Held) (t : Rank) → earliest xs ≡ Some t → is_past timeout clock t ≡ true
      → 1 ≤ due_held timeout clock xs
  some_due [] t is past = absurd (let e : None ≡ Some t = is in cc)
  some_due (x ∷ xs) t is past =
      by (moment_of x.span.status) refl (earliest xs) refl is (λ u e p. some_due xs u e p)
    where
      more : (b : Bool) → 1 ≤ due_held timeout clock xs
          → 1 ≤ length (cond b (x ∷ filter (λ h. is_due timeout clock h.span.status) xs)
          (filter (λ h. is_due timeout clock h.span.status) xs))
      more true le = omega arith
      more false le = le

      here : (a : Rank) → moment_of x.span.status ≡ Some a → is_past timeout clock a ≡ true
          → 1 ≤ due_held timeout clock (x ∷ xs)
      here a is past = subst (λ b. 1 ≤ length (cond b (x ∷ filter (λ h. is_due timeout clock h.span.status) xs)
          (filter (λ h. is_due timeout clock h.span.status) xs)))
          (sym (past_is_due x.span.status a is ∙ past)) (omega arith)

      two : (b : Bool) (a u : Rank) → moment_of x.span.status ≡ Some a → earliest xs ≡ Some u
          → (if b then Some u else Some a) ≡ Some t
          → ((u : Rank) → earliest xs ≡ Some u → is_past timeout clock u ≡ true → 1 ≤ due_held timeout clock xs)
          → 1 ≤ due_held timeout clock (x ∷ xs)
      two true a u e f is rest = more (is_due timeout clock x.span.status) (rest u f
          (ap (is_past timeout clock) (let s : u ≡ t = cc in s) ∙ past))
      two false a u e f is rest = here a e (ap (is_past timeout clock) (let s : a ≡ t = cc in s) ∙ past)

      by : (o : Option Rank) → moment_of x.span.status ≡ o → (p : Option Rank) → earliest xs ≡ p
          → first_rank o p ≡ Some t
          → ((u : Rank) → earliest xs ≡ Some u → is_past timeout clock u ≡ true → 1 ≤ due_held timeout clock xs)
          → 1 ≤ due_held timeout clock (x ∷ xs)
      by None e p f is rest = more (is_due timeout clock x.span.status) (rest t (f ∙ is) past)
      by (Some a) e None f is rest = here a e (ap (is_past timeout clock) (let s : a ≡ t = cc in s) ∙ past)
      by (Some a) e (Some u) f is rest = two (earlier u a) a u e f is rest

  abbrev pub Undue : List Held → Type 0
  Undue = AllByRecursion (λ h. is_due timeout clock h.span.status ≡ false)

  -- where it isn't, none is
  pub none_due : (xs : List Held) → IfSome (earliest xs) (λ t. is_past timeout clock t ≡ false) → Undue xs
  none_due [] h = tt
  none_due (x ∷ xs) h = by (moment_of x.span.status) refl (earliest xs) refl h (λ p. none_due xs p)
    where
      own : (o : Option Rank) → moment_of x.span.status ≡ o → IfSome o (λ t. is_past timeout clock t ≡ false)
          → is_due timeout clock x.span.status ≡ false
      own None e p = never x.span.status e
        where
          never : (status : Status) → moment_of status ≡ None → is_due timeout clock status ≡ false
          never (Ready taken) e = refl
          never (InFlight number moment) e = absurd (let f : Some (record { front = moment; turn = 0 })
              ≡ None = e in cc)
      own (Some a) e p = past_is_due x.span.status a e ∙ p

      two : (b : Bool) (a u : Rank) → earlier u a ≡ b → IfSome (if b then Some u else Some a)
          (λ t. is_past timeout clock t ≡ false)
          → (is_past timeout clock a ≡ false) × (is_past timeout clock u ≡ false)
      two true a u e p = (past_later u a (earlier_fronts u a e) p, p)
      two false a u e p = (p, past_later a u (not_earlier u a e) p)

      by : (o : Option Rank) → moment_of x.span.status ≡ o → (p : Option Rank) → earliest xs ≡ p
          → IfSome (first_rank o p) (λ t. is_past timeout clock t ≡ false)
          → (IfSome (earliest xs) (λ t. is_past timeout clock t ≡ false) → Undue xs)
          → (is_due timeout clock x.span.status ≡ false) × Undue xs
      by None e p f h rest =
          (own None e tt, rest (subst (λ o. IfSome o (λ t. is_past timeout clock t ≡ false)) (sym f) h))
      by (Some a) e None f h rest =
          (own (Some a) e h, rest (subst (λ o. IfSome o (λ t. is_past timeout clock t ≡ false)) (sym f) tt))
      by (Some a) e (Some u) f h rest =
          let both = two (earlier u a) a u refl h in
          (own (Some a) e both.0, rest (subst (λ o. IfSome o (λ t. is_past timeout clock t ≡ false)) (sym f) both.1))

  pub undue_held : (xs : List Held) → Undue xs → due_held timeout clock xs ≡ 0
  undue_held [] h = refl
  undue_held (x ∷ xs) h = ap (λ b. length (cond b (x ∷ filter (λ h. is_due timeout clock h.span.status) xs)
      (filter (λ h. is_due timeout clock h.span.status) xs))) h.0 ∙ undue_held xs h.1

  pub held_undue : (xs : List Held) → due_held timeout clock xs ≡ 0 → Undue xs
  held_undue [] h = tt
  held_undue (x ∷ xs) h =
      let both = by (is_due timeout clock x.span.status) h in (both.0, held_undue xs both.1)
    where
      by : (b : Bool) → length (cond b (x ∷ filter (λ h. is_due timeout clock h.span.status) xs)
          (filter (λ h. is_due timeout clock h.span.status) xs)) ≡ 0
          → (b ≡ false) × (due_held timeout clock xs ≡ 0)
      by true h = absurd (omega (arith, h))
      by false h = (refl, h)

  pub undue_same : (rank : Held → Rank) (xs : List Held) → Undue xs → map (expired_held timeout clock rank) xs
      ≡ xs
  undue_same rank [] h = refl
  undue_same rank (x ∷ xs) h = (λ k. (if h.0 k then record {
    span = record x.span { status = Ready true };
    rank = rank x;
  } else x) ∷ undue_same rank xs h.1 k)

  pub expired_undue : (rank : Held → Rank) (xs : List Held) → Undue (map (expired_held timeout clock rank) xs)
  expired_undue rank [] = tt
  expired_undue rank (x ∷ xs) = (by (is_due timeout clock x.span.status) refl, expired_undue rank xs)
    where
      by : (b : Bool) → is_due timeout clock x.span.status ≡ b → is_due timeout clock (if b then record {
        span = record x.span { status = Ready true };
        rank = rank x;
      } else x).span.status ≡ false
      by true is = refl
      by false is = is
