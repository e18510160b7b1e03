-- What is in a settled span of a partition is in no unsettled one, so in neither order.
use Rattle.std.proofs.Common.{◌≡◌, ℕ, suc, ◌<◌, ◌≤◌, inl, inr, Bool, true, false, List, [], ◌∷◌, Some, None}
use Rattle.std.proofs.Common.{slice_get, ne_eqb, refl, ap, ◌∙◌, subst, arith, cond, option_map}
use Rattle.std.proofs.lemmas.Option.{slice_get-map}
use Rattle.rb_deliveries.specs.declared.span.Status.{Status}
use Rattle.rb_deliveries.specs.Spans.{beginning, is_out, is_ready}
use Rattle.rb_deliveries.proofs.subs.KnownLaws.{all_get}
use Rattle.rb_desk.specs.declared.step.Step.{Step}
use Rattle.rb_desk.specs.IsPicture.{AreInRange, how_often, one_if, span_there, stands_there}
use Rattle.rb_desk.specs.Limits.{Limits}
use Rattle.rb_desk.proofs.pictures.PictureLaws.{count_cons}
use Rattle.rb_desk.specs.History.{span_has, how_many_have}
use Rattle.rb_desk.specs.FullCalls.{full_replay}
use Rattle.rb_desk.specs.FullPicture.{FullPicture, FullSubscription, unsettled_picture, unsettled_subscription}
use Rattle.rb_desk.specs.FullSpans.{FullSpan, Settled, Unsettled, IsPartition, IsInSettled, IsSettledSpan}
use Rattle.rb_desk.specs.FullSpans.{unsettled_spans}
use Rattle.rb_desk.specs.FullPicture.{IsFullSubscription}
use Rattle.rb_desk.proofs.full.FullReplays.{IsSoundFull, replay_shows}
use Rattle.rb_desk.proofs.full.FullUnsettled.{part_more, part_reach}
use Rattle.rb_desk.proofs.history.HavingLaws.{not_below, not_above}

-- ---- counted in a partition

-- a number below the partition: no unsettled span has it, or begins with it
pub part_before : (n low high : ℕ) (xs : List FullSpan) → IsPartition low xs high → n < low
    → (how_many_have n (unsettled_spans xs) ≡ 0) × (beginning n (unsettled_spans xs) ≡ None)
part_before n low high [] h less = (refl, refl)
part_before n low high (Unsettled p ∷ rest) h less =
    let next = part_before n (suc p.last) high rest h.2 (omega (arith, h.0, h.1, less)) in
    let none : one_if (span_has n p) ≡ 0 = ap one_if (not_below n p (omega (arith, h.0, less))) in (
      omega (arith, none, next.0, count_cons (span_has n) p (unsettled_spans rest)),
      ap (λ b. cond b (Some p) (beginning n (unsettled_spans rest))) (ne_eqb p.first n (omega (arith, h.0, less)))
          ∙ next.1,
    )
part_before n low high (Settled a b ∷ rest) h less =
    part_before n (suc b) high rest h.2 (omega (arith, h.0, h.1, less))

-- likewise a number of a settled span, which lies in the partition
part_settled : (n first last low high : ℕ) (xs : List FullSpan) → IsPartition low xs high
    → IsSettledSpan first last xs → first ≤ n → n ≤ last
    → (low ≤ n) × (n ≤ high) × (how_many_have n (unsettled_spans xs) ≡ 0) × (beginning n (unsettled_spans xs) ≡ None)
part_settled n first last low high [] h is from to = absurd is
part_settled n first last low high (Unsettled p ∷ rest) h is from to =
    let next = part_settled n first last (suc p.last) high rest h.2 is from to in
    let none : one_if (span_has n p) ≡ 0 = ap one_if (not_above n p (omega (arith, next.0))) in (
      omega (arith, h.0, h.1, next.0),
      next.1,
      omega (arith, none, next.2, count_cons (span_has n) p (unsettled_spans rest)),
      ap (λ b. cond b (Some p) (beginning n (unsettled_spans rest))) (ne_eqb p.first n (omega (arith, h.1, next.0)))
          ∙ next.3,
    )
part_settled n first last low high (Settled a b ∷ rest) h (inl here) from to =
    let behind = part_before n (suc b) high rest h.2 (omega (arith, here.1, to)) in (
      omega (arith, h.0, here.0, from),
      omega (arith, part_more low high (Settled a b) rest h, to, here.1, part_reach (suc b) high rest h.2),
      behind.0,
      behind.1,
    )
part_settled n first last low high (Settled a b ∷ rest) h (inr there) from to =
    let next = part_settled n first last (suc b) high rest h.2 there from to in
    (omega (arith, h.0, h.1, next.0), next.1, next.2, next.3)

-- the same by the number alone
pub settled_uncovered : (n low high : ℕ) (xs : List FullSpan) → IsPartition low xs high → IsInSettled n xs
    → (low ≤ n) × (how_many_have n (unsettled_spans xs) ≡ 0)
settled_uncovered n low high [] h i = absurd i
settled_uncovered n low high (Unsettled p ∷ rest) h i =
    let next = settled_uncovered n (suc p.last) high rest h.2 i in
    let none : one_if (span_has n p) ≡ 0 = ap one_if (not_above n p (omega (arith, next.0))) in
    (omega (arith, h.0, h.1, next.0), omega (arith, none, next.1, count_cons (span_has n) p (unsettled_spans rest)))
settled_uncovered n low high (Settled a b ∷ rest) h (inl here) =
    (omega (arith, h.0, here.0), (part_before n (suc b) high rest h.2 (omega (arith, here.1))).0)
settled_uncovered n low high (Settled a b ∷ rest) h (inr there) =
    let next = settled_uncovered n (suc b) high rest h.2 there in (omega (arith, h.0, h.1, next.0), next.1)

-- a settled span of a partition isn't empty
settled_order : (first last low high : ℕ) (xs : List FullSpan) → IsPartition low xs high → IsSettledSpan first last xs
    → first ≤ last
settled_order first last low high [] h is = absurd is
settled_order first last low high (Unsettled p ∷ rest) h is = settled_order first last (suc p.last) high rest h.2 is
settled_order first last low high (Settled a b ∷ rest) h (inl here) = omega (arith, here.0, here.1, h.1)
settled_order first last low high (Settled a b ∷ rest) h (inr there) =
    settled_order first last (suc b) high rest h.2 there

-- ---- a settled span after a list of calls

module _ (limits : Limits) (ranges : AreInRange limits) (steps : List Step) (s : ℕ) (q : FullSubscription)
    (here : slice_get (full_replay limits steps).subscriptions s ≡ Some q) (first last : ℕ)
    (is : IsSettledSpan first last q.spans) where
  abbrev y : FullPicture
  y = full_replay limits steps

  shows : IsSoundFull y
  shows = replay_shows limits ranges steps

  its : IsFullSubscription y.front q
  its = all_get (IsFullSubscription y.front) y.subscriptions s q shows.full here

  -- its subscription is open, since a closed one has no spans
  runs : q.closed ≡ false
  runs = by q.closed refl
    where
      by : (b : Bool) → q.closed ≡ b → q.closed ≡ false
      by true closed = absurd (subst (IsSettledSpan first last) (its.has_none closed) is)
      by false open_ = open_

  there : slice_get (unsettled_picture y).subscriptions s ≡ Some (unsettled_subscription q)
  there = slice_get-map unsettled_subscription y.subscriptions s ∙ ap (option_map unsettled_subscription) here

  none_stands : (test : Status → Bool) → stands_there test first (slice_get (unsettled_picture y).subscriptions s) ≡ 0
  none_stands test =
      ap (stands_there test first) there
      ∙ ap (span_there test)
      (part_settled first first last (suc q.floor) y.front q.spans (its.parts runs) is (omega arith)
      (settled_order first last (suc q.floor) y.front q.spans (its.parts runs) is)).3

  pub in_no_order : (how_often s first y.ready ≡ 0) × (how_often s first y.in_flight ≡ 0)
  in_no_order =
      (shows.picture.ready s first ∙ none_stands is_ready, shows.picture.out s first ∙ none_stands is_out)
