-- By induction on the calls, settled numbers match the journal's acknowledgements: the clauses `acked` and `stays` of
-- `spans_are_a_partition`, and `not_again` of `no_number_is_lost`.
use Rattle.std.proofs.Common.{◌≡◌, ℕ, suc, ◌<◌, ◌≤◌, ◌⊎◌, inl, inr, Bool, true, false, List, [], ◌∷◌, ◌++◌, Option}
use Rattle.std.proofs.Common.{Some, None}
use Rattle.std.proofs.Common.{Ok, slice_get, option_map, refl, sym, ap, ◌∙◌, subst, arith}
use Rattle.std.proofs.lemmas.Option.{slice_get-map}
use Rattle.rb_deliveries.specs.declared.span.Span.{Span}
use Rattle.rb_deliveries.specs.Picture.{Subscription}
use Rattle.rb_deliveries.specs.Spans.{out_as}
use Rattle.rb_deliveries.proofs.subs.KnownLaws.{all_get}
use Rattle.rb_desk.specs.declared.delivery.Delivery.{Delivery}
use Rattle.rb_desk.specs.declared.step.Step.{Step}
use Rattle.rb_desk.specs.declared.step.Step.TheVariants.{Subscribe, Take, TakeAny, Ack, Nack, Expire, Reconnect}
use Rattle.rb_desk.specs.declared.step.Step.TheVariants.{Unsubscribe, Place, Close, NackOpened}
use Rattle.rb_desk.specs.Calls.{ack}
use Rattle.rb_desk.specs.IsPicture.{AreInRange}
use Rattle.rb_desk.specs.Limits.{Limits}
use Rattle.rb_desk.specs.Picture.{Picture}
use Rattle.rb_desk.specs.Steps.{replay}
use Rattle.rb_desk.proofs.pictures.Replays.{replay_keeps}
use Rattle.rb_desk.specs.History.{WasAckedUnder, WasSettled, how_many_have}
use Rattle.rb_desk.specs.FullSpans.{IsInSettled, unsettled_spans}
use Rattle.rb_desk.specs.FullPicture.{FullPicture, FullSubscription, empty_full_picture, unsettled_subscription}
use Rattle.rb_desk.specs.FullCalls as full
use Rattle.rb_desk.specs.FullPicture.{IsFullSubscription}
use Rattle.rb_desk.proofs.history.CallAccounts.{out_made}
use Rattle.rb_desk.proofs.history.Histories.{Makes, accounts, acked_now, acked_still, all_lists, none_settled}
use Rattle.rb_desk.proofs.history.Histories.{one_call_on, passed_below, with_call}
use Rattle.rb_desk.proofs.full.FullAnswers.{ack_alike}
use Rattle.rb_desk.proofs.full.FullReplays.{IsSoundFull, replay_shown, replay_shows}
use Rattle.rb_desk.proofs.full.FullSettled.{settled_uncovered}
use Rattle.rb_desk.proofs.acks.LastCalls.{IsAckedBy, acked_last, acked_linked, numbered}
use Rattle.rb_desk.proofs.acks.CallAcks as call
use Rattle.rb_desk.proofs.acks.CallAcks.{AckTells, MatchesAcks, AllMatch}

full_replayed_last : (x : FullPicture) (steps : List Step) (step : Step)
    → full.full_replayed x (steps ++ step ∷ []) ≡ full.full_after_step (full.full_replayed x steps) step
full_replayed_last x [] step = refl
full_replayed_last x (first ∷ steps) step = full_replayed_last (full.full_after_step x first) steps step

module _ (limits : Limits) (ranges : AreInRange limits) where
  abbrev Acked : List Step → ℕ → ℕ → ℕ → Type 0
  Acked steps s link n = WasAckedUnder limits steps s link n

  module _ (steps : List Step) (was : AllMatch (Acked steps) (full.full_replay limits steps).subscriptions) where
    abbrev x : FullPicture
    x = full.full_replay limits steps

    abbrev p : Picture
    p = replay limits steps

    shows : IsSoundFull x
    shows = replay_shows limits ranges steps

    linked : (s link n : ℕ) → Acked steps s link n → link < x.next_link
    linked s link n a =
        subst (λ (r : Picture). link < r.next_link) (replay_shown limits ranges steps)
        (acked_linked limits ranges steps s link n a)

    -- the journal has the delivery of a span that is in flight
    makes : (s number : ℕ) (q : FullSubscription) (span : Span) → slice_get x.subscriptions s ≡ Some q
        → out_as number (unsettled_spans q.spans) ≡ Some span → Makes limits ranges steps s number span.first span.last
    makes s number q span here out =
        out_made (one_call_on limits ranges steps Place) p (replay_keeps limits steps ranges)
        (accounts limits ranges steps) s
        number (unsettled_subscription q) span
        (ap (λ (r : Picture). slice_get r.subscriptions s) (replay_shown limits ranges steps)
        ∙ slice_get-map unsettled_subscription x.subscriptions s ∙ ap (option_map unsettled_subscription) here)
        out

    tells : (s link number cursor : ℕ)
        → AckTells {Acked = Acked steps} {Acked' = Acked (with_call steps (Ack s link number cursor))} x was
        (acked_still limits ranges steps (Ack s link number cursor)) shows.full shows.picture s link number cursor
        (full.full_ack x s link number cursor).0
    tells s link number cursor = record {
      now = λ floor ok q span here out n from to.
          acked_now limits ranges steps s link number cursor floor
          (ack_alike limits ranges steps s link number cursor ∙ ok)
          span.first span.last n (makes s number q span here out) from to;
      was = λ t l n a. by t l n (acked_last limits steps (Ack s link number cursor) t l n a);
    }
      where
        covers : (t l n : ℕ) (q : FullSubscription) (span : Span) → slice_get x.subscriptions s ≡ Some q
            → out_as number (unsettled_spans q.spans) ≡ Some span
            → (h : IsAckedBy limits steps (Ack s link number cursor) t l n) → h.number ≡ number
            → (span.first ≤ n) × (n ≤ span.last)
        covers t l n q span here out h same =
            let m = makes s number q span here out in
            let one : h.delivery ≡ m.delivery =
            (numbered limits steps).one h.delivery m.delivery h.made m.made (h.is_of.0 ∙ same ∙ sym m.is_of.0) in
            let has = subst (λ (d : Delivery). (d.first ≤ n) × (n ≤ d.last)) one h.has in
            (omega (arith, has.0, m.has.0), omega (arith, has.1, m.has.1))

        by : (t l n : ℕ) → Acked steps t l n ⊎ IsAckedBy limits steps (Ack s link number cursor) t l n
            → Acked steps t l n ⊎ ((t ≡ s) × (l ≡ link)
            × ((q : FullSubscription) (span : Span) → slice_get x.subscriptions s ≡ Some q
            → out_as number (unsettled_spans q.spans) ≡ Some span → (span.first ≤ n) × (n ≤ span.last))
            × ((floor : ℕ) × ((full.full_ack x s link number cursor).0 ≡ Ok floor)))
        by t l n (inl a) = inl a
        by t l n (inr h) =
            let same_sub : t ≡ s = let e : Ack s link number cursor ≡ Ack t l h.number h.cursor = h.call in cc in
            let same_link : l ≡ link = let e : Ack s link number cursor ≡ Ack t l h.number h.cursor = h.call in cc in
            let same_number : h.number ≡ number =
            let e : Ack s link number cursor ≡ Ack t l h.number h.cursor = h.call in cc in
            let same_cursor : h.cursor ≡ cursor =
            let e : Ack s link number cursor ≡ Ack t l h.number h.cursor = h.call in cc in
            inr (
              same_sub,
              same_link,
              λ q span here out. covers t l n q span here out h same_number,
              (
                h.floor,
                sym (ack_alike limits ranges steps s link number cursor)
                    ∙ (λ i. (ack p (sym same_sub i) (sym same_link i) (sym same_number i) (sym same_cursor i)).0)
                    ∙ h.is_ok,
              ),
            )

    one_more : (step : Step) → AllMatch (Acked (with_call steps step)) (full.full_after_step x step).subscriptions
    one_more step = by step (acked_still limits ranges steps step) (acked_last limits steps step) tells
      where
        -- any other call than `ack` adds no acknowledgement
        off : (step : Step) → ((s link number cursor : ℕ) → step ≡ Ack s link number cursor → ⊥)
            → ((s link n : ℕ) → Acked (with_call steps step) s link n
            → Acked steps s link n ⊎ IsAckedBy limits steps step s link n)
            → (s link n : ℕ) → Acked (with_call steps step) s link n → Acked steps s link n
        off step other last s link n a = of (last s link n a)
          where
            of : Acked steps s link n ⊎ IsAckedBy limits steps step s link n → Acked steps s link n
            of (inl was) = was
            of (inr h) = absurd (other s link h.number h.cursor h.call)

        by : (step : Step) → ((s link n : ℕ) → Acked steps s link n → Acked (with_call steps step) s link n)
            → ((s link n : ℕ) → Acked (with_call steps step) s link n
            → Acked steps s link n ⊎ IsAckedBy limits steps step s link n)
            → ((s link number cursor : ℕ)
            → AckTells {Acked = Acked steps} {Acked' = Acked (with_call steps (Ack s link number cursor))} x was
            (acked_still limits ranges steps (Ack s link number cursor)) shows.full shows.picture s link number cursor
            (full.full_ack x s link number cursor).0)
            → AllMatch (Acked (with_call steps step)) (full.full_after_step x step).subscriptions
        by (Subscribe start) on last tells =
            call.subscribe_matches x was on linked (off (Subscribe start) (λ _ _ _ _ e. cc) last) start
        by (Take s link cursor now) on last tells =
            call.take_matches x was on linked (off (Take s link cursor now) (λ _ _ _ _ e. cc) last) s link cursor now
        by (TakeAny now) on last tells =
            call.take_any_matches x was on linked (off (TakeAny now) (λ _ _ _ _ e. cc) last) now
        by (Ack s link number cursor) on last tells =
            call.ack_matches x was (acked_still limits ranges steps (Ack s link number cursor)) shows.full shows.picture
            s link
            number cursor (tells s link number cursor)
        by (Nack s link number) on last tells =
            call.nack_matches x was on linked (off (Nack s link number) (λ _ _ _ _ e. cc) last) s link number
        by (NackOpened s link number) on last tells =
            call.nack_opened_matches x was on linked
            (off (NackOpened s link number) (λ _ _ _ _ e. cc) last) s link number
        by (Expire now) on last tells =
            call.expire_matches x was on linked (off (Expire now) (λ _ _ _ _ e. cc) last) now
        by (Reconnect s cursor) on last tells =
            call.reconnect_matches x was on linked (off (Reconnect s cursor) (λ _ _ _ _ e. cc) last) s cursor
        by (Unsubscribe s link) on last tells =
            call.unsubscribe_matches x was on linked (off (Unsubscribe s link) (λ _ _ _ _ e. cc) last) s link
        by Place on last tells =
            call.placed_matches x was on linked (off Place (λ _ _ _ _ e. cc) last) (full.full_prepare x)
        by Close on last tells = call.stay x was on linked (off Close (λ _ _ _ _ e. cc) last)

  pub calls_match : (steps : List Step) → AllMatch (Acked steps) (full.full_replay limits steps).subscriptions
  calls_match = all_lists (λ steps. AllMatch (Acked steps) (full.full_replay limits steps).subscriptions)
      (λ s q here. absurd (let none : None ≡ Some q = here in cc))
      (λ steps step was. subst (λ (y : FullPicture). AllMatch (Acked (with_call steps step)) y.subscriptions)
      (sym (full_replayed_last (empty_full_picture limits) steps step)) (one_more steps was step))

  -- so no unsettled span has what was acknowledged under the link
  acked_in_none : (steps : List Step) (s : ℕ) (q : Subscription) (n : ℕ)
      → slice_get (replay limits steps).subscriptions s ≡ Some q → WasAckedUnder limits steps s q.link n
      → how_many_have n q.spans ≡ 0
  acked_in_none steps s q n here acked =
      by (slice_get y.subscriptions s) refl
    where
      y : FullPicture
      y = full.full_replay limits steps

      is : option_map unsettled_subscription (slice_get y.subscriptions s) ≡ Some q
      is = sym (slice_get-map unsettled_subscription y.subscriptions s)
          ∙ ap (λ (r : Picture). slice_get r.subscriptions s) (sym (replay_shown limits ranges steps)) ∙ here

      of : (z : FullSubscription) → slice_get y.subscriptions s ≡ Some z → unsettled_subscription z ≡ q → (b : Bool)
          → z.closed ≡ b → how_many_have n (unsettled_spans z.spans) ≡ 0
      of z found same true closed = ap (λ xs. how_many_have n (unsettled_spans xs))
          ((all_get (IsFullSubscription y.front) y.subscriptions s z
          (replay_shows limits ranges steps).full found).has_none
          closed)
      of z found same false runs =
          settled ((calls_match steps s z found).stays runs n
          (subst (λ (w : Subscription). WasAckedUnder limits steps s w.link n) (sym same) acked))
        where
          settled : (n ≤ z.floor) ⊎ IsInSettled n z.spans → how_many_have n (unsettled_spans z.spans) ≡ 0
          settled (inl below) =
              ap (λ (w : Subscription). how_many_have n w.spans) same
              ∙ none_settled limits ranges steps s q n here
              (subst (λ (w : Subscription). n ≤ w.floor) same below)
          settled (inr there) =
              (settled_uncovered n (suc z.floor) y.front z.spans
              ((all_get (IsFullSubscription y.front) y.subscriptions s z (replay_shows limits ranges steps).full
              found).parts runs) there).1

      by : (o : Option FullSubscription) → slice_get y.subscriptions s ≡ o → how_many_have n q.spans ≡ 0
      by None none = absurd (let no : None ≡ Some q = ap (option_map unsettled_subscription) (sym none) ∙ is in cc)
      by (Some z) found =
          let both : Some (unsettled_subscription z)
          ≡ Some q = ap (option_map unsettled_subscription) (sym found) ∙ is in
          let same : unsettled_subscription z ≡ q = cc in
          sym (ap (λ (w : Subscription). how_many_have n w.spans) same) ∙ of z found same z.closed refl

  -- nor what a reconnect passed, since the floor has passed it, too
  pub not_again : (steps : List Step) (s : ℕ) (q : Subscription) (n : ℕ)
      → slice_get (replay limits steps).subscriptions s ≡ Some q → WasSettled limits steps s q.link n
      → how_many_have n q.spans ≡ 0
  not_again steps s q n here (inl passed) =
      none_settled limits ranges steps s q n here (passed_below limits ranges steps s q n here passed)
  not_again steps s q n here (inr acked) = acked_in_none steps s q n here acked
