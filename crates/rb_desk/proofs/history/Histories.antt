-- `no_number_is_lost`: the invariant by induction on the calls, with the journal's own facts in it.
use Rattle.std.proofs.Common.{◌≡◌, ℕ, suc, ◌<◌, ◌≤◌, ◌⊎◌, inl, inr, Bool, true, false, List, [], ◌∷◌, ◌++◌, Some, None}
use Rattle.std.proofs.Common.{Ok, slice_get, append_assoc, append-nil, refl, sym, ap, ◌∙◌, subst, arith}
use Rattle.std.specs.Result.{result_ok}
use Rattle.rb_desk.specs.declared.delivery.Delivery.{Delivery}
use Rattle.rb_desk.specs.declared.step.Step.{Step}
use Rattle.rb_desk.specs.declared.step.Step.TheVariants.{Subscribe, Take, TakeAny, Ack, Nack, Expire, Reconnect}
use Rattle.rb_desk.specs.declared.step.Step.TheVariants.{Unsubscribe, Place, Close, NackOpened}
use Rattle.rb_desk.specs.Calls.{ack, reconnect, prepare}
use Rattle.rb_desk.specs.IsPicture.{AreInRange, IsGoodSubscription, IsInSpan, IsPicture}
use Rattle.rb_desk.specs.Limits.{Limits}
use Rattle.rb_desk.specs.Picture.{Picture, empty_picture}
use Rattle.rb_desk.specs.Steps.{after_step, replay, replayed}
use Rattle.rb_desk.proofs.journals.KeepLaws.{replayed_last}
use Rattle.rb_desk.proofs.calls.CallCases.{reconnect_case}
use Rattle.rb_desk.proofs.pictures.PictureLaws.{get_set}
use Rattle.rb_desk.proofs.pictures.Replays.{after_keeps, replay_keeps, replayed_rise}
use Rattle.rb_desk.proofs.pictures.StandLaws.{found_good}
use Rattle.rb_deliveries.specs.Picture.{Subscription}
use Rattle.rb_deliveries.specs.Spans.{SpansRise}
use Rattle.rb_desk.specs.History.{IsAccountedFor, WasAckedUnder, WasDelivered, WasReconnectedPast, WasSettled}
use Rattle.rb_desk.specs.History.{delivery_made, how_many_have}
use Rattle.rb_desk.proofs.history.HavingLaws.{exactly_one_has, none_has, one_has_it}
use Rattle.rb_desk.proofs.history.Accounts.{Accounts, CarriesOver}
use Rattle.rb_desk.proofs.history.CallAccounts as call
use Rattle.rb_desk.specs.Calls.{acked_by, acked_span}
use Rattle.rb_desk.specs.declared.refusal.DeskRefusal.TheVariants.{StaleLink}
use Rattle.rb_deliveries.specs.Spans.{out_as}
use Rattle.std.proofs.Common.{Err, cond, not, ◌==◌, eqb-true}

-- a journal with one call more
abbrev pub with_call : List Step → Step → List Step
with_call steps last = steps ++ last ∷ []

-- induction from the last item
pub all_lists : {A : Type 0} (P : List A → Type 0) → P [] → ((xs : List A) (x : A) → P xs → P (xs ++ x ∷ []))
    → (xs : List A) → P xs
all_lists {A} P none more xs = from [] xs none
  where
    from : (before after : List A) → P before → P (before ++ after)
    from before [] h = subst P (sym (append-nil before)) h
    from before (x ∷ after) h =
        subst P (append_assoc before (x ∷ []) after) (from (before ++ x ∷ []) after (more before x h))

-- calls, one call and other calls are replayed one after another
replayed_on : (p : Picture) (before : List Step) (step : Step) (after : List Step)
    → replayed p (before ++ step ∷ after) ≡ replayed (after_step (replayed p before) step) after
replayed_on p [] step after = refl
replayed_on p (first ∷ before) step after = replayed_on (after_step p first) before step after

-- after a `reconnect` that is Ok the floor is its cursor
cursor_is_floor : (p : Picture) (s cursor link : ℕ) → (reconnect p s cursor).0 ≡ Ok link
    → (a : Subscription) × (slice_get (reconnect p s cursor).1.subscriptions s ≡ Some a) × (a.floor ≡ cursor)
cursor_is_floor p s cursor link =
    reconnect_case (λ x. x.0 ≡ Ok link → (a : Subscription) × (slice_get x.1.subscriptions s ≡ Some a)
    × (a.floor ≡ cursor)) p s cursor
    (λ why is. absurd (let no : Err why ≡ Ok link = is in cc))
    (λ q here runs low high is. (_, get_set p.subscriptions s q _ here, refl))

-- an `ack` that is Ok is under the link that the subscription has
pub ack_is_linked : (p : Picture) (s link number cursor floor : ℕ) → (ack p s link number cursor).0 ≡ Ok floor
    → (q : Subscription) → slice_get p.subscriptions s ≡ Some q → link ≡ q.link
unfolding ack
ack_is_linked p s link number cursor floor ok q here =
    by (link == q.link) refl (ap (λ o. (acked_by p s link number cursor o).0) (sym here) ∙ ok)
  where
    by : (b : Bool) → (link == q.link) ≡ b
        → (cond (not b) (Err StaleLink, p) (acked_span p s q cursor (out_as number q.spans))).0 ≡ Ok floor
        → link ≡ q.link
    by true same is = eqb-true link q.link same
    by false other is = absurd (let no : Err StaleLink ≡ Ok floor = is in cc)

module _ (limits : Limits) (ranges : AreInRange limits) where
  -- a call of the journal returned a delivery with this number, to this subscription, of these numbers
  pub record Makes (steps : List Step) (s number first last : ℕ) : Type 0 where
    pub delivery : Delivery
    pub made : WasDelivered limits steps delivery
    pub is_of : (delivery.number ≡ number) × (delivery.sub ≡ s)
    pub has : (delivery.first ≡ first) × (delivery.last ≡ last)

  -- ---- a journal with a call more says the same of the calls before

  longer : (steps before after : List Step) (step last : Step) → steps ≡ before ++ step ∷ after
      → with_call steps last ≡ before ++ step ∷ with_call after last
  longer steps before after step last is = ap (λ xs. xs ++ last ∷ []) is
      ∙ append_assoc before (step ∷ after) (last ∷ [])

  pub delivered_still : (steps : List Step) (last : Step) (d : Delivery) → WasDelivered limits steps d
      → WasDelivered limits (with_call steps last) d
  delivered_still steps last d h =
      record {
        before = h.before;
        step = h.step;
        after = with_call h.after last;
        calls = longer steps h.before h.after h.step last h.calls;
        answers = h.answers;
      }

  pub acked_still : (steps : List Step) (last : Step) (s link n : ℕ) → WasAckedUnder limits steps s link n
      → WasAckedUnder limits (with_call steps last) s link n
  acked_still steps last s link n h = record {
    before = h.before;
    number = h.number;
    cursor = h.cursor;
    floor = h.floor;
    after = with_call h.after last;
    delivery = h.delivery;
    calls = longer steps h.before h.after (Ack s link h.number h.cursor) last h.calls;
    is_ok = h.is_ok;
    made = h.made;
    is_of = h.is_of;
    has = h.has;
  }

  pub one_call_on : (steps : List Step) (last : Step)
      → CarriesOver (Makes steps) (Makes (with_call steps last)) (WasSettled limits steps)
      (WasSettled limits (with_call steps last))
  one_call_on steps last = record {
    made = λ s number first last_ h. record {
      delivery = h.delivery;
      made = delivered_still steps last h.delivery h.made;
      is_of = h.is_of;
      has = h.has;
    };
    settled = settled;
  }
    where
      settled : (s link n : ℕ) → WasSettled limits steps s link n → WasSettled limits (with_call steps last) s link n
      settled s link n (inl h) = inl (record {
        before = h.before;
        cursor = h.cursor;
        link = h.link;
        after = with_call h.after last;
        calls = longer steps h.before h.after (Reconnect s h.cursor) last h.calls;
        is_ok = h.is_ok;
        reaches = h.reaches;
      })
      settled s link n (inr h) = inr (acked_still steps last s link n h)

  -- ---- what it says of its last call

  notes_delivery : (steps : List Step) (step : Step) (d : Delivery) → delivery_made (replay limits steps) step ≡ Some d
      → Makes (with_call steps step) d.sub d.number d.first d.last
  notes_delivery steps step d is = record {
    delivery = d;
    made = record { before = steps; step = step; after = []; calls = refl; answers = is };
    is_of = (refl, refl);
    has = (refl, refl);
  }

  pub acked_now : (steps : List Step) (s link number cursor floor : ℕ)
      → (ack (replay limits steps) s link number cursor).0 ≡ Ok floor → (first last n : ℕ)
      → Makes steps s number first last
      → first ≤ n → n ≤ last → WasAckedUnder limits (with_call steps (Ack s link number cursor)) s link n
  acked_now steps s link number cursor floor is first last n h low high = record {
    before = steps;
    number = number;
    cursor = cursor;
    floor = floor;
    after = [];
    delivery = h.delivery;
    calls = refl;
    is_ok = is;
    made = h.made;
    is_of = h.is_of;
    has = (omega (arith, h.has.0, low), omega (arith, h.has.1, high));
  }

  notes_ack : (steps : List Step) (s link number cursor floor : ℕ)
      → (ack (replay limits steps) s link number cursor).0 ≡ Ok floor → (q : Subscription)
      → slice_get (replay limits steps).subscriptions s ≡ Some q → (first last n : ℕ)
      → Makes steps s number first last → first ≤ n → n ≤ last
      → WasSettled limits (with_call steps (Ack s link number cursor)) s q.link n
  notes_ack steps s link number cursor floor is q here first last n h low high =
      inr (subst (λ l. WasAckedUnder limits (with_call steps (Ack s link number cursor)) s l n)
      (ack_is_linked (replay limits steps) s link number cursor floor is q here)
      (acked_now steps s link number cursor floor is first last n h low high))

  notes_cursor : (steps : List Step) (s cursor link : ℕ) → (reconnect (replay limits steps) s cursor).0 ≡ Ok link
      → (n : ℕ) → n ≤ cursor → WasSettled limits (with_call steps (Reconnect s cursor)) s link n
  notes_cursor steps s cursor link is n le = inl (record {
    before = steps;
    cursor = cursor;
    link = link;
    after = [];
    calls = refl;
    is_ok = is;
    reaches = le;
  })

  -- ---- after a list of calls

  abbrev pub AccountsAt : List Step → Picture → Type 0
  AccountsAt steps = Accounts (Makes steps) (WasSettled limits steps)

  one_more : (steps : List Step) (step : Step) → AccountsAt steps (replay limits steps)
      → AccountsAt (with_call steps step) (after_step (replay limits steps) step)
  unfolding after_step
  one_more steps step h = by step (one_call_on steps step) (notes_delivery steps step)
    where
      p : Picture
      p = replay limits steps

      good : IsPicture p
      good = replay_keeps limits steps ranges

      by : (step : Step) → CarriesOver (Makes steps) (Makes (with_call steps step)) (WasSettled limits steps)
          (WasSettled limits (with_call steps step))
          → ((d : Delivery) → delivery_made p step ≡ Some d
          → Makes (with_call steps step) d.sub d.number d.first d.last)
          → AccountsAt (with_call steps step) (after_step p step)
      by (Subscribe start) on note = call.subscribe_accounts on p good h start
      by (Take s link cursor now) on note =
          call.take_accounts on p good h s link cursor now (λ d is. note d (ap result_ok is))
      by (TakeAny now) on note = call.take_any_accounts on p good h now (λ d is. note d (ap result_ok is))
      by (Ack s link number cursor) on note =
          call.ack_accounts on p good h s link number cursor (notes_ack steps s link number cursor)
      by (Nack s link number) on note = call.nack_accounts on p good h s link number
      by (NackOpened s link number) on note = call.nack_opened_accounts on p good h s link number
      by (Expire now) on note = call.expire_accounts on p good h now
      by (Reconnect s cursor) on note =
          call.reconnect_accounts on p good h s cursor (notes_cursor steps s cursor)
      by (Unsubscribe s link) on note = call.unsubscribe_accounts on p good h s link
      by Place on note = call.placed_accounts on p good h (prepare p)
      by Close on note = call.close_accounts on p good h

  abbrev pub AccountsOf : List Step → Type 0
  AccountsOf steps = AccountsAt steps (replay limits steps)

  pub accounts : (steps : List Step) → AccountsOf steps
  accounts = all_lists AccountsOf (λ s q here. absurd (let none : None ≡ Some q = here in cc))
      (λ steps step h. subst (AccountsAt (with_call steps step))
      (sym (replayed_last (empty_picture limits) steps step)) (one_more steps step h))

  -- ---- the clauses of the law

  module _ (steps : List Step) (s : ℕ) (q : Subscription) (n : ℕ)
      (here : slice_get (replay limits steps).subscriptions s ≡ Some q) where
    pub each_accounted : q.closed ≡ false → q.start < n → n ≤ (replay limits steps).front
        → IsAccountedFor limits steps s q n
    each_accounted runs low high = by ((accounts steps s q here).kept runs n low high)
      where
        by : WasSettled limits steps s q.link n ⊎ IsInSpan n q.spans → IsAccountedFor limits steps s q n
        by (inl settled) = inl settled
        by (inr there) =
            inr (exactly_one_has n (suc q.floor) (replay limits steps).front q.spans
            ((found_good (replay limits steps) s q here (replay_keeps limits steps ranges)).rise runs) there)

    -- the spans rise if the subscription is open, and are none if it is closed
    rise_or : (P : Type 0) → (SpansRise (suc q.floor) q.spans (replay limits steps).front → P) → (q.spans ≡ [] → P) → P
    rise_or P rises none = by q.closed refl
      where
        good : IsGoodSubscription (replay limits steps) q
        good = found_good (replay limits steps) s q here (replay_keeps limits steps ranges)

        by : (b : Bool) → q.closed ≡ b → P
        by true closed = none (good.has_none closed)
        by false runs = rises (good.rise runs)

    pub in_one : how_many_have n q.spans ≤ 1
    in_one = rise_or (how_many_have n q.spans ≤ 1) (one_has_it n (suc q.floor) (replay limits steps).front q.spans)
        (λ none. rw none (omega arith))

    pub none_settled : n ≤ q.floor → how_many_have n q.spans ≡ 0
    none_settled le = rise_or (how_many_have n q.spans ≡ 0)
        (λ rise. none_has n (suc q.floor) (replay limits steps).front q.spans rise (omega (arith, le)))
        (λ none. rw none refl)

    -- a reconnect makes its cursor the floor, and no floor falls
    pub passed_below : WasReconnectedPast limits steps s n → n ≤ q.floor
    unfolding after_step
    passed_below h =
        let p = replay limits h.before in
        let step = Reconnect s h.cursor in
        let at = cursor_is_floor p s h.cursor h.link h.is_ok in
        let later = replayed_rise (after_step p step) h.after
        (after_keeps p step (replay_keeps limits h.before ranges)) s at.0 at.1 in
        let both : Some later.0 ≡ Some q = sym later.1
        ∙ ap (λ (r : Picture). slice_get r.subscriptions s)
        (sym (replayed_on (empty_picture limits) h.before step h.after))
        ∙ ap (λ xs. slice_get (replay limits xs).subscriptions s) (sym h.calls) ∙ here in
        let same : later.0 ≡ q = cc in
        subst (λ (r : Subscription). n ≤ r.floor) same (omega (arith, h.reaches, at.2, later.2))
