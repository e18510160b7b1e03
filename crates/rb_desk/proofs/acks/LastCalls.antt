-- What a journal says is said by the calls before the last, or by the last. By this no two deliveries of a journal have
-- one number, and each acknowledgement is under an issued link.
use Rattle.std.proofs.Common.{◌≡◌, ℕ, ◌<◌, ◌≤◌, ◌⊎◌, inl, inr, List, [], ◌∷◌, ◌++◌, Option, Some, None, Result, Ok, Err}
use Rattle.std.proofs.Common.{refl, sym, ap, ◌∙◌, subst, arith}
use Rattle.std.specs.Result.{result_ok}
use Rattle.rb_desk.specs.declared.delivery.Delivery.{Delivery}
use Rattle.rb_desk.specs.declared.refusal.DeskRefusal.{DeskRefusal}
use Rattle.rb_desk.specs.declared.step.Step.{Step}
use Rattle.rb_desk.specs.declared.step.Step.TheVariants.{Subscribe, Take, TakeAny, Ack, Nack, Expire, Reconnect}
use Rattle.rb_desk.specs.declared.step.Step.TheVariants.{Unsubscribe, Place, Close, NackOpened}
use Rattle.rb_desk.specs.Calls.{take, take_any, ack}
use Rattle.rb_desk.specs.Limits.{Limits}
use Rattle.rb_desk.specs.Picture.{Picture, empty_picture}
use Rattle.rb_desk.specs.Steps.{after_step, delivery_number, number_given, replay}
use Rattle.rb_desk.proofs.pictures.CallRises.{ReplaysGoesOn, after_rises}
use Rattle.rb_desk.specs.History.{WasAckedUnder, WasDelivered, delivery_made}
use Rattle.rb_desk.specs.IsPicture.{AreInRange, IsPicture}
use Rattle.rb_desk.proofs.journals.KeepLaws.{replayed_last}
use Rattle.rb_desk.proofs.history.Histories.{ack_is_linked, all_lists, with_call}
use Rattle.rb_desk.proofs.pictures.Replays.{replay_keeps}
use Rattle.rb_desk.proofs.pictures.StandLaws.{found_good}
use Rattle.rb_desk.specs.Calls.{acked_by}
use Rattle.rb_deliveries.specs.Picture.{Subscription}
use Rattle.std.proofs.Common.{slice_get}
use Rattle.rb_desk.specs.declared.refusal.DeskRefusal.TheVariants.{NoSuch}

-- ---- lists with a last item

-- where such a list is cut in two around an item: this is the last, or an earlier one
pub data LastSplit {A : Type 0} (xs : List A) (x : A) (ys : List A) (y : A) (zs : List A) : Type 0 where
  AtLast : ys ≡ xs → y ≡ x → LastSplit xs x ys y zs
  Before : (rest : List A) → xs ≡ ys ++ y ∷ rest → LastSplit xs x ys y zs

pub split_last : {A : Type 0} (xs : List A) (x : A) (ys : List A) (y : A) (zs : List A)
    → xs ++ x ∷ [] ≡ ys ++ y ∷ zs → LastSplit xs x ys y zs
split_last [] x [] y zs is = AtLast refl (let e : x ∷ [] ≡ y ∷ zs = is in cc)
split_last [] x (w ∷ ys) y zs is = absurd (no ys (let e : [] ≡ ys ++ y ∷ zs = cc in e))
  where
    no : (ys : List _) → [] ≡ ys ++ y ∷ zs → ⊥
    no [] e = cc
    no (v ∷ vs) e = cc
split_last (w ∷ xs) x [] y zs is = Before xs (let e : w ≡ y = cc in ap (λ v. v ∷ xs) e)
split_last (w ∷ xs) x (v ∷ ys) y zs is =
    by (split_last xs x ys y zs (let e : xs ++ x ∷ [] ≡ ys ++ y ∷ zs = cc in e)) (let e : w ≡ v = cc in e)
  where
    by : LastSplit xs x ys y zs → w ≡ v → LastSplit (w ∷ xs) x (v ∷ ys) y zs
    by (AtLast same e) first = AtLast (λ i. sym first i ∷ same i) e
    by (Before rest same) first = Before rest (λ i. first i ∷ same i)

-- ---- what one call issues

-- the delivery that a call returns has the number that the call issues
made_number : (p : Picture) (step : Step) (d : Delivery) → delivery_made p step ≡ Some d
    → number_given p step ≡ Some d.number
made_number p step d = by step
  where
    of : (r : Result Delivery DeskRefusal) → result_ok r ≡ Some d → delivery_number r ≡ Some d.number
    of (Ok e) is = let same : e ≡ d = cc in ap (λ (x : Delivery). Some x.number) same
    of (Err why) is = absurd (let none : None ≡ Some d = is in cc)

    no : None ≡ Some d → None ≡ Some d.number
    no is = absurd cc

    by : (step : Step) → delivery_made p step ≡ Some d → number_given p step ≡ Some d.number
    by (Subscribe start) is = no is
    by (Take s link cursor now) is = of (take p s link cursor now).0 is
    by (TakeAny now) is = of (take_any p now).0 is
    by (Ack s link number cursor) is = no is
    by (Nack s link number) is = no is
    by (NackOpened s link number) is = no is
    by (Expire now) is = no is
    by (Reconnect s cursor) is = no is
    by (Unsubscribe s link) is = no is
    by Place is = no is
    by Close is = no is

goes_up : (next next' : ℕ) (o : Option ℕ) → ReplaysGoesOn next next' o → next ≤ next'
goes_up next next' None h = h
goes_up next next' (Some n) h = omega (arith, h.1)

-- the link of an `ack` that is Ok was issued
ack_linked : (p : Picture) (s link number cursor floor : ℕ) → IsPicture p
    → (ack p s link number cursor).0 ≡ Ok floor → link < p.next_link
unfolding ack
ack_linked p s link number cursor floor good ok = by (slice_get p.subscriptions s) refl
  where
    by : (o : Option Subscription) → slice_get p.subscriptions s ≡ o → link < p.next_link
    by None none = absurd (
        let no : Err NoSuch ≡ Ok floor = ap (λ o. (acked_by p s link number cursor o).0) (sym none) ∙ ok in cc)
    by (Some q) here =
        omega (arith, ack_is_linked p s link number cursor floor ok q here, (found_good p s q here good).linked)

-- ---- the journal's last call

module _ (limits : Limits) where
  delivered_last : (steps : List Step) (last : Step) (d : Delivery) → WasDelivered limits (with_call steps last) d
      → WasDelivered limits steps d ⊎ (delivery_made (replay limits steps) last ≡ Some d)
  delivered_last steps last d h = by (split_last steps last h.before h.step h.after h.calls)
    where
      by : LastSplit steps last h.before h.step h.after
          → WasDelivered limits steps d ⊎ (delivery_made (replay limits steps) last ≡ Some d)
      by (AtLast same e) = inr ((λ i. delivery_made (replay limits (sym same i)) (sym e i)) ∙ h.answers)
      by (Before rest same) = inl (record {
        before = h.before;
        step = h.step;
        after = rest;
        calls = same;
        answers = h.answers;
      })

  -- what `WasAckedUnder` says, of the last call
  pub record IsAckedBy (steps : List Step) (last : Step) (s link n : ℕ) : Type 0 where
    pub number : ℕ
    pub cursor : ℕ
    pub floor : ℕ
    pub delivery : Delivery
    pub call : last ≡ Ack s link number cursor
    pub is_ok : (ack (replay limits steps) s link number cursor).0 ≡ Ok floor
    pub made : WasDelivered limits steps delivery
    pub is_of : (delivery.number ≡ number) × (delivery.sub ≡ s)
    pub has : (delivery.first ≤ n) × (n ≤ delivery.last)

  pub acked_last : (steps : List Step) (last : Step) (s link n : ℕ)
      → WasAckedUnder limits (with_call steps last) s link n
      → WasAckedUnder limits steps s link n ⊎ IsAckedBy steps last s link n
  acked_last steps last s link n h = by (split_last steps last h.before (Ack s link h.number h.cursor) h.after h.calls)
    where
      by : LastSplit steps last h.before (Ack s link h.number h.cursor) h.after
          → WasAckedUnder limits steps s link n ⊎ IsAckedBy steps last s link n
      by (AtLast same e) = inr (record {
        number = h.number;
        cursor = h.cursor;
        floor = h.floor;
        delivery = h.delivery;
        call = sym e;
        is_ok = ap (λ xs. (ack (replay limits xs) s link h.number h.cursor).0) (sym same) ∙ h.is_ok;
        made = subst (λ xs. WasDelivered limits xs h.delivery) same h.made;
        is_of = h.is_of;
        has = h.has;
      })
      by (Before rest same) = inl (record {
        before = h.before;
        number = h.number;
        cursor = h.cursor;
        floor = h.floor;
        after = rest;
        delivery = h.delivery;
        calls = same;
        is_ok = h.is_ok;
        made = h.made;
        is_of = h.is_of;
        has = h.has;
      })

  -- numbers below the next one were issued, each to one delivery
  pub record AreNumbered (steps : List Step) : Type 0 where
    pub below : (d : Delivery) → WasDelivered limits steps d → d.number < (replay limits steps).next_delivery
    pub one : (d e : Delivery) → WasDelivered limits steps d → WasDelivered limits steps e → d.number ≡ e.number → d ≡ e

  none_made : (d : Delivery) → WasDelivered limits [] d → ⊥
  none_made d h = by h.before h.step h.after h.calls
    where
      by : (before : List Step) (step : Step) (after : List Step) → [] ≡ before ++ step ∷ after → ⊥
      by [] step after is = cc
      by (first ∷ before) step after is = cc

  one_numbered : (steps : List Step) (last : Step) → AreNumbered steps → AreNumbered (with_call steps last)
  one_numbered steps last h = record {
    below = λ d w. subst (λ (p : Picture). d.number < p.next_delivery)
        (sym (replayed_last (empty_picture limits) steps last)) (below d (delivered_last steps last d w));
    one = λ d e v w same. one d e same (delivered_last steps last d v) (delivered_last steps last e w);
  }
    where
      p : Picture
      p = replay limits steps

      now : (d : Delivery) → delivery_made p last ≡ Some d
          → (d.number ≡ p.next_delivery) × (p.next_delivery < (after_step p last).next_delivery)
      now d is = subst (ReplaysGoesOn p.next_delivery (after_step p last).next_delivery) (made_number p last d is)
          (after_rises p last).numbers

      below : (d : Delivery) → WasDelivered limits steps d ⊎ (delivery_made p last ≡ Some d)
          → d.number < (after_step p last).next_delivery
      below d (inl was) =
          omega (arith, h.below d was, goes_up _ _ (number_given p last) (after_rises p last).numbers)
      below d (inr is) = omega (arith, (now d is).0, (now d is).1)

      one : (d e : Delivery) → d.number ≡ e.number → WasDelivered limits steps d ⊎ (delivery_made p last ≡ Some d)
          → WasDelivered limits steps e ⊎ (delivery_made p last ≡ Some e) → d ≡ e
      one d e same (inl v) (inl w) = h.one d e v w same
      one d e same (inl v) (inr w) = absurd (omega (arith, h.below d v, (now e w).0, same))
      one d e same (inr v) (inl w) = absurd (omega (arith, h.below e w, (now d v).0, same))
      one d e same (inr v) (inr w) = let both : Some d ≡ Some e = sym v ∙ w in cc

  pub numbered : (steps : List Step) → AreNumbered steps
  numbered = all_lists AreNumbered
      (record { below = λ d w. absurd (none_made d w); one = λ d e v w same. absurd (none_made d v) }) one_numbered

  -- each acknowledgement's link was issued
  pub acked_linked : AreInRange limits → (steps : List Step) (s link n : ℕ) → WasAckedUnder limits steps s link n
      → link < (replay limits steps).next_link
  acked_linked ranges = all_lists (λ steps. (s link n : ℕ) → WasAckedUnder limits steps s link n
      → link < (replay limits steps).next_link)
      (λ s link n h. absurd (none h.before h.number h.cursor h.after s link h.calls))
      (λ steps last was s link n h. subst (λ (p : Picture). link < p.next_link)
      (sym (replayed_last (empty_picture limits) steps last))
      (by steps last s link n (was s link n) (acked_last steps last s link n h)))
    where
      none : (before : List Step) (number cursor : ℕ) (after : List Step) (s link : ℕ)
          → [] ≡ before ++ Ack s link number cursor ∷ after → ⊥
      none [] number cursor after s link is = cc
      none (first ∷ before) number cursor after s link is = cc

      by : (steps : List Step) (last : Step) (s link n : ℕ)
          → (WasAckedUnder limits steps s link n → link < (replay limits steps).next_link)
          → WasAckedUnder limits steps s link n ⊎ IsAckedBy steps last s link n
          → link < (after_step (replay limits steps) last).next_link
      by steps last s link n was (inl h) =
          omega (arith, was h, goes_up _ _ _ (after_rises (replay limits steps) last).links)
      by steps last s link n was (inr h) =
          omega (
            arith,
            ack_linked (replay limits steps) s link h.number h.cursor h.floor
                (replay_keeps limits steps ranges) h.is_ok,
            goes_up _ _ _ (after_rises (replay limits steps) last).links,
          )
