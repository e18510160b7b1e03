-- Settled numbers match acknowledgements (`MatchesAcks`) after each call, if they did before: a lemma for each.
use Rattle.std.proofs.Common.{◌≡◌, ℕ, zero, suc, max, ◌<◌, ◌≤◌, ◌⊎◌, inl, inr, Bool, true, false, not, cond, ◌||◌}
use Rattle.std.proofs.Common.{◌==◌, List, [], ◌∷◌, ◌++◌, length, map, find, Option, Some, None, Result, Ok, Err}
use Rattle.std.proofs.Common.{slice_get}
use Rattle.std.proofs.Common.{slice_set, nat_lt, nat_le, refl, sym, ap, ◌∙◌, subst, arith, option_map, eqb-true}
use Rattle.std.proofs.lemmas.Bool.{false≢true, cases_eq}
use Rattle.std.proofs.lemmas.Option.{slice_get-map}
use Rattle.rb_deliveries.specs.declared.span.Span.{Span}
use Rattle.rb_deliveries.specs.declared.span.Status.TheVariants.{Ready, InFlight}
use Rattle.rb_deliveries.specs.Spans.{beginning, cut_spans, first_ready, out_as}
use Rattle.rb_deliveries.proofs.subs.KnownLaws.{all_get}
use Rattle.rb_desk.specs.declared.refusal.DeskRefusal.{DeskRefusal}
use Rattle.rb_desk.specs.declared.refusal.DeskRefusal.TheVariants as refusal
use Rattle.rb_desk.specs.IsPicture.{IsPicture}
use Rattle.rb_desk.proofs.calls.CallCases.{either_case}
use Rattle.rb_desk.proofs.pictures.OutSpans.{found_out}
use Rattle.rb_desk.proofs.pictures.PictureLaws.{get_set, get_set_other}
use Rattle.rb_desk.specs.FullSpans.{FullSpan, IsPartition, IsInSettled, all_unsettled, full_gone_back, full_grown_spans}
use Rattle.rb_desk.specs.FullSpans.{full_opened_spans, full_settled, full_with_status, full_raised, unsettled_spans}
use Rattle.rb_desk.specs.FullPicture.{FullPicture, FullSubscription, unsettled_picture, unsettled_subscription}
use Rattle.rb_desk.specs.FullCalls as full
use Rattle.rb_desk.specs.FullPicture.{IsFullPicture, IsFullSubscription}
use Rattle.rb_desk.proofs.full.FullParts.{settled_part}
use Rattle.rb_desk.proofs.acks.SettledNumbers as at
use Rattle.rb_desk.proofs.acks.SettledNumbers.{SameSettled}

abbrev pub Acks : Type 1
Acks = (s link n : ℕ) → Type 0

pub record MatchesAcks (Acked : Acks) (s : ℕ) (q : FullSubscription) : Type 0 where
  pub acked : (n : ℕ) → IsInSettled n q.spans → Acked s q.link n
  pub stays : q.closed ≡ false → (n : ℕ) → Acked s q.link n → (n ≤ q.floor) ⊎ IsInSettled n q.spans

abbrev pub AllMatch : Acks → List FullSubscription → Type 0
AllMatch Acked subs = (s : ℕ) (q : FullSubscription) → slice_get subs s ≡ Some q → MatchesAcks Acked s q

module _ {Acked Acked' : Acks} (x : FullPicture) (agree : AllMatch Acked x.subscriptions)
    (on : (s link n : ℕ) → Acked s link n → Acked' s link n) where
  abbrev found : ℕ → Option FullSubscription
  found s = slice_get x.subscriptions s

  -- ---- all calls but `ack`

  module _ (linked : (s link n : ℕ) → Acked s link n → link < x.next_link)
      (off : (s link n : ℕ) → Acked' s link n → Acked s link n) where
    abbrev Later : FullPicture → Type 0
    Later y = AllMatch Acked' y.subscriptions

    matches_later : (s : ℕ) (q : FullSubscription) → MatchesAcks Acked s q → MatchesAcks Acked' s q
    matches_later s q h = record {
      acked = λ n i. on s q.link n (h.acked n i);
      stays = λ runs n a. h.stays runs n (off s q.link n a);
    }

    pub stay : Later x
    stay s q here = matches_later s q (agree s q here)

    -- its spans change, and its settled numbers don't
    respanned : (s : ℕ) (q : FullSubscription) (offered : ℕ) (spans : List FullSpan)
        → ((n : ℕ) → SameSettled n spans q.spans) → MatchesAcks Acked s q
        → MatchesAcks Acked' s (record q { offered = offered; spans = spans })
    respanned s q offered spans same h = record {
      acked = λ n i. on s q.link n (h.acked n (subst (λ T. T) (same n) i));
      stays = λ runs n a. by n (h.stays runs n (off s q.link n a));
    }
      where
        by : (n : ℕ) → (n ≤ q.floor) ⊎ IsInSettled n q.spans → (n ≤ q.floor) ⊎ IsInSettled n spans
        by n (inl below) = inl below
        by n (inr there) = inr (subst (λ T. T) (sym (same n)) there)

    set_matches : (s : ℕ) (q r : FullSubscription) → found s ≡ Some q → MatchesAcks Acked' s r
        → AllMatch Acked' (slice_set x.subscriptions s r)
    set_matches s q r here mine t z there = by (cases_eq t s)
      where
        by : (t ≡ s) ⊎ (t ≡ s → ⊥) → MatchesAcks Acked' t z
        by (inl e) =
            let both : Some r ≡ Some z = sym (get_set x.subscriptions s q r here)
            ∙ ap (slice_get (slice_set x.subscriptions s r)) (sym e) ∙ there in
            let same : r ≡ z = cc in
            subst (λ m. MatchesAcks Acked' m z) (sym e)
            (subst (λ (y : FullSubscription). MatchesAcks Acked' s y) same mine)
        by (inr other) =
            matches_later t z (agree t z (sym (get_set_other x.subscriptions s t r other) ∙ there))

    unless : {A : Type 0} (b : Bool) (why : DeskRefusal) (call : Result A DeskRefusal × FullPicture)
        → (b ≡ false → Later call.1) → Later (cond b (full.full_refused_call x why) call).1
    unless b why call goes = either_case (λ r. Later r.1) b (full.full_refused_call x why) call (λ _. stay) goes

    -- its spans are cut under a link that no acknowledgement has
    cut_matches : (s : ℕ) (q : FullSubscription) (spans : List Span) → q.spans ≡ all_unsettled spans → q.link
        ≡ x.next_link
        → MatchesAcks Acked' s q
    cut_matches s q spans is link = record {
      acked = λ n i. absurd (at.none_settled_yet n spans (subst (IsInSettled n) is i));
      stays = λ runs n a. absurd (omega (arith, linked s q.link n (off s q.link n a), link));
    }

    pub subscribe_matches : (start : ℕ) → Later (full.full_subscribe x start).1
    subscribe_matches start =
        unless (nat_lt x.front start) _ _ (λ behind.
        unless (nat_le 1024 (length x.subscriptions)) _ _ (λ few s q here.
        by s q (get_append x.subscriptions s q _ here)))
      where
        new : FullSubscription
        new = record {
          start = start;
          floor = start;
          offered = start;
          link = x.next_link;
          closed = false;
          spans = all_unsettled (cut_spans x.limits.batch (suc start) x.front);
        }

        get_append : (xs : List FullSubscription) (i : ℕ) (u v : FullSubscription) → slice_get (xs ++ v ∷ []) i ≡ Some u
            → (slice_get xs i ≡ Some u) ⊎ (v ≡ u)
        get_append [] zero u v is = inr cc
        get_append [] (suc i) u v is = absurd (let none : None ≡ Some u = is in cc)
        get_append (z ∷ xs) zero u v is = inl is
        get_append (z ∷ xs) (suc i) u v is = get_append xs i u v is

        by : (s : ℕ) (q : FullSubscription) → (found s ≡ Some q) ⊎ (new ≡ q) → MatchesAcks Acked' s q
        by s q (inl was) = stay s q was
        by s q (inr same) =
            subst (λ (y : FullSubscription). MatchesAcks Acked' s y) same
            (cut_matches s new (cut_spans x.limits.batch (suc start) x.front) refl refl)

    delivered_matches : (s : ℕ) (q : FullSubscription) (span : Span) (clock : ℕ) → found s ≡ Some q
        → Later (full.full_delivered_picture x s q span clock)
    delivered_matches s q span clock here =
        set_matches s q _ here (respanned s q (max q.offered span.last)
        (full_with_status span.first (InFlight x.next_delivery clock) q.spans)
        (λ n. at.status_same n span.first (InFlight x.next_delivery clock) q.spans) (agree s q here))

    pub take_matches : (s link cursor now : ℕ) → Later (full.full_take x s link cursor now).1
    take_matches s link cursor now = by (found s) refl
      where
        span : (q : FullSubscription) → found s ≡ Some q → (o : Option Span)
            → Later (full.full_delivered_span x s q cursor now o).1
        span q here None = stay
        span q here (Some p) = delivered_matches s q p (max x.clock now) here

        by : (o : Option FullSubscription) → found s ≡ o → Later (full.full_delivered_from x s link cursor now o).1
        by None none = stay
        by (Some q) here =
            unless (not (link == q.link)) _ _ (λ _.
            unless q.closed _ _ (λ _.
            unless (not (full.full_has_room x.limits.window q)) _ _ (λ _.
            span q here (first_ready (unsettled_spans q.spans)))))

    pub take_any_matches : (now : ℕ) → Later (full.full_take_any x now).1
    take_any_matches now = by (find (full.full_has_window_room x) x.ready)
      where
        span : (s : ℕ) (q : FullSubscription) → found s ≡ Some q → (o : Option Span)
            → Later (full.full_delivered_any_span x s q now o).1
        span s q here None = stay
        span s q here (Some p) = delivered_matches s q p (max x.clock now) here

        of : (s first : ℕ) (o : Option FullSubscription) → found s ≡ o
            → Later (full.full_delivered_any_of x s first now o).1
        of s first None none = stay
        of s first (Some q) here = span s q here (beginning first (unsettled_spans q.spans))

        by : (o : Option (ℕ × ℕ)) → Later (full.full_delivered_any_from x now o).1
        by None = stay
        by (Some place) = of place.0 place.1 (found place.0) refl

    in_flight_matches : {A : Type 0} (s link number : ℕ)
        (call : FullSubscription → Option Span → Result A DeskRefusal × FullPicture)
        → ((q : FullSubscription) → found s ≡ Some q → (o : Option Span) → Later (call q o).1)
        → Later (full.full_on_delivery x link number call (found s)).1
    in_flight_matches {A} s link number call each = by (found s) refl
      where
        by : (o : Option FullSubscription) → found s ≡ o → Later (full.full_on_delivery x link number call o).1
        by None none = stay
        by (Some q) here =
            unless (not (link == q.link)) _ _ (λ _. each q here (out_as number (unsettled_spans q.spans)))

    pub nack_matches : (s link number : ℕ) → Later (full.full_nack x s link number).1
    nack_matches s link number = in_flight_matches s link number (full.full_nacked_span x s) span
      where
        span : (q : FullSubscription) → found s ≡ Some q → (o : Option Span) → Later (full.full_nacked_span x s q o).1
        span q here None = stay
        span q here (Some p) =
            set_matches s q _ here (respanned s q q.offered (full_with_status p.first (Ready true) q.spans)
            (λ n. at.status_same n p.first (Ready true) q.spans) (agree s q here))

    pub nack_opened_matches : (s link number : ℕ) → Later (full.full_nack_opened x s link number).1
    nack_opened_matches s link number = in_flight_matches s link number (full.full_opened_span x s) span
      where
        span : (q : FullSubscription) → found s ≡ Some q → (o : Option Span) → Later (full.full_opened_span x s q o).1
        span q here None = stay
        span q here (Some p) =
            set_matches s q _ here (respanned s q q.offered (full_opened_spans p.first q.spans)
            (λ n. at.opened_same n p.first q.spans) (agree s q here))

    -- all subscriptions change
    mapped : (f : FullSubscription → FullSubscription)
        → ((s : ℕ) (q : FullSubscription) → MatchesAcks Acked s q → MatchesAcks Acked' s (f q))
        → AllMatch Acked' (map f x.subscriptions)
    mapped f each s r there = by (found s) refl
      where
        is : option_map f (found s) ≡ Some r
        is = sym (slice_get-map f x.subscriptions s) ∙ there

        by : (o : Option FullSubscription) → found s ≡ o → MatchesAcks Acked' s r
        by None none = absurd (let no : None ≡ Some r = ap (option_map f) (sym none) ∙ is in cc)
        by (Some q) here =
            let both : Some (f q) ≡ Some r = ap (option_map f) (sym here) ∙ is in
            let same : f q ≡ r = cc in
            subst (λ (y : FullSubscription). MatchesAcks Acked' s y) same (each s q (agree s q here))

    pub expire_matches : (now : ℕ) → Later (full.full_expire x now).1
    expire_matches now =
        mapped (full.full_goes_back x.limits.timeout (max x.clock now)) (λ s q h.
        respanned s q q.offered (full_gone_back x.limits.timeout (max x.clock now) q.spans)
        (λ n. at.back_same n x.limits.timeout (max x.clock now) q.spans) h)

    pub place_matches : Later (full.full_place x)
    place_matches = mapped (full.full_grown_subscription x.limits.batch (suc x.front)) grows
      where
        grows : (s : ℕ) (q : FullSubscription) → MatchesAcks Acked s q
            → MatchesAcks Acked' s (full.full_grown_subscription x.limits.batch (suc x.front) q)
        grows s q h =
            either_case (λ (y : FullSubscription). MatchesAcks Acked' s y) q.closed q _ (λ _. matches_later s q h)
            (λ _. respanned s q q.offered (full_grown_spans x.limits.batch (suc x.front) q.spans)
            (λ n. at.growth_same n x.limits.batch (suc x.front) q.spans) h)

    pub placed_matches : (r : Result ℕ DeskRefusal) → Later (full.full_placed_if x r)
    placed_matches (Ok n) = place_matches
    placed_matches (Err why) = stay

    pub reconnect_matches : (s cursor : ℕ) → Later (full.full_reconnect x s cursor).1
    reconnect_matches s cursor = by (found s) refl
      where
        by : (o : Option FullSubscription) → found s ≡ o → Later (full.full_reconnected_by x s cursor o).1
        by None none = stay
        by (Some q) here =
            unless q.closed _ _ (λ runs.
            unless (nat_lt cursor q.floor || nat_lt q.offered cursor) _ _ (λ fits.
            set_matches s q _ here
            (cut_matches s _ (cut_spans x.limits.batch (suc cursor) x.front) refl refl)))

    pub unsubscribe_matches : (s link : ℕ) → Later (full.full_unsubscribe x s link).1
    unsubscribe_matches s link = by (found s) refl
      where
        by : (o : Option FullSubscription) → found s ≡ o → Later (full.full_unsubscribed_by x s link o).1
        by None none = stay
        by (Some q) here =
            unless (not (link == q.link)) _ _ (λ _.
            unless q.closed _ _ (λ _. set_matches s q _ here (record {
              acked = λ n i. absurd i;
              stays = λ runs. absurd (false≢true (sym runs));
            })))

  -- ---- ack

  module _ (good : IsFullPicture x) (is : IsPicture (unsettled_picture x)) (s link number cursor : ℕ) where
    -- the span in flight as the delivery has the number
    abbrev Covers : ℕ → Type 0
    Covers n = (q : FullSubscription) (span : Span) → found s ≡ Some q → out_as number (unsettled_spans q.spans)
        ≡ Some span
        → (span.first ≤ n) × (n ≤ span.last)

    -- what the `ack` adds to the acknowledgements: after Ok the span's numbers, else nothing
    pub record AckTells (answer : Result ℕ DeskRefusal) : Type 0 where
      pub now : (floor : ℕ) → answer ≡ Ok floor → (q : FullSubscription) (span : Span) → found s ≡ Some q
          → out_as number (unsettled_spans q.spans) ≡ Some span → (n : ℕ) → span.first ≤ n → n ≤ span.last
          → Acked' s link n
      pub was : (t l n : ℕ) → Acked' t l n
          → Acked t l n ⊎ ((t ≡ s) × (l ≡ link) × Covers n × ((floor : ℕ) × (answer ≡ Ok floor)))

    abbrev After : Result ℕ DeskRefusal × FullPicture → Type 0
    After r = AckTells r.0 → AllMatch Acked' r.1.subscriptions

    -- a subscription that gets no new acknowledgement
    other_matches : (answer : Result ℕ DeskRefusal) → AckTells answer → (t : ℕ) (q : FullSubscription)
        → ((t ≡ s → ⊥) ⊎ ((floor : ℕ) → answer ≡ Ok floor → ⊥)) → MatchesAcks Acked t q → MatchesAcks Acked' t q
    other_matches answer tells t q not h = record {
      acked = λ n i. on t q.link n (h.acked n i);
      stays = λ runs n a. h.stays runs n (by n (tells.was t q.link n a) not);
    }
      where
        by : (n : ℕ)
            → Acked t q.link n ⊎ ((t ≡ s) × (q.link ≡ link) × Covers n × ((floor : ℕ) × (answer ≡ Ok floor)))
            → (t ≡ s → ⊥) ⊎ ((floor : ℕ) → answer ≡ Ok floor → ⊥)
            → Acked t q.link n
        by n (inl a) not = a
        by n (inr new) (inl other) = absurd (other new.0)
        by n (inr new) (inr refused) = absurd (refused new.3.0 new.3.1)

    refused_after : (why : DeskRefusal) → After (full.full_refused_call x why)
    refused_after why tells t q here =
        other_matches (Err why) tells t q (inr (λ floor ok. let no : Err why ≡ Ok floor = ok in cc)) (agree t q here)

    unless_after : (b : Bool) (why : DeskRefusal) (call : Result ℕ DeskRefusal × FullPicture)
        → (b ≡ false → After call) → After (cond b (full.full_refused_call x why) call)
    unless_after b why call goes =
        either_case After b (full.full_refused_call x why) call (λ _. refused_after why) goes

    acked_after : (q : FullSubscription) (span : Span) → found s ≡ Some q → q.link ≡ link
        → out_as number (unsettled_spans q.spans) ≡ Some span
        → After (
          Ok (full_raised q.floor (full_settled span.first q.spans)).0,
          full.full_acked_picture x s q span.first (full_raised q.floor (full_settled span.first q.spans)),
        )
    acked_after q span here same out tells t z there = by (cases_eq t s)
      where
        left : ℕ × List FullSpan
        left = full_raised q.floor (full_settled span.first q.spans)

        r : FullSubscription
        r = record q { floor = left.0; spans = left.1 }

        its : IsFullSubscription x.front q
        its = all_get (IsFullSubscription x.front) x.subscriptions s q good here

        there_too : slice_get (unsettled_picture x).subscriptions s ≡ Some (unsettled_subscription q)
        there_too = slice_get-map unsettled_subscription x.subscriptions s ∙ ap (option_map unsettled_subscription) here

        begins : beginning span.first (unsettled_spans q.spans) ≡ Some span
        begins = (found_out (unsettled_picture x) s number (unsettled_subscription q) span is there_too out).found

        runs : q.closed ≡ false
        runs = by q.closed refl
          where
            by : (b : Bool) → q.closed ≡ b → q.closed ≡ false
            by true closed = absurd (
                let none : None ≡ Some span = ap (λ xs. out_as number (unsettled_spans xs))
                (sym (its.has_none closed)) ∙ out in cc)
            by false open_ = open_

        part : IsPartition (suc q.floor) q.spans x.front
        part = its.parts runs

        mine : MatchesAcks Acked' s r
        mine = record {
          acked = λ n i. was_acked n (at.settled_was n span.first (suc q.floor) x.front q.spans span part begins
              (at.raised_was n q.floor (full_settled span.first q.spans) i));
          stays = λ _ n a. at.raised_still n q.floor x.front (full_settled span.first q.spans)
              (settled_part (suc q.floor) x.front span.first q.spans part) (settled n (tells.was s q.link n a));
        }
          where
            was_acked : (n : ℕ) → IsInSettled n q.spans ⊎ ((span.first ≤ n) × (n ≤ span.last)) → Acked' s q.link n
            was_acked n (inl was) = on s q.link n ((agree s q here).acked n was)
            was_acked n (inr covers) =
                subst (λ l. Acked' s l n) (sym same) (tells.now left.0 refl q span here out n covers.0 covers.1)

            before : (n : ℕ) → (n ≤ q.floor) ⊎ IsInSettled n q.spans
                → (n ≤ q.floor) ⊎ IsInSettled n (full_settled span.first q.spans)
            before n (inl below) = inl below
            before n (inr was) = inr (at.settled_still n span.first q.spans was)

            settled : (n : ℕ)
                → Acked s q.link n ⊎ ((s ≡ s) × (q.link ≡ link) × Covers n
                × ((floor : ℕ) × (◌≡◌ {A = Result ℕ DeskRefusal} (Ok left.0) (Ok floor))))
                → (n ≤ q.floor) ⊎ IsInSettled n (full_settled span.first q.spans)
            settled n (inl a) = before n ((agree s q here).stays runs n a)
            settled n (inr new) =
                let covers = new.2 q span here out in
                inr (at.settled_now n span.first q.spans span begins covers.0 covers.1)

        by : (t ≡ s) ⊎ (t ≡ s → ⊥) → MatchesAcks Acked' t z
        by (inl e) =
            let both : Some r ≡ Some z = sym (get_set x.subscriptions s q r here)
            ∙ ap (slice_get (slice_set x.subscriptions s r)) (sym e) ∙ there in
            let is_r : r ≡ z = cc in
            subst (λ m. MatchesAcks Acked' m z) (sym e)
            (subst (λ (y : FullSubscription). MatchesAcks Acked' s y) is_r mine)
        by (inr other) =
            other_matches _ tells t z (inl other) (agree t z (sym (get_set_other x.subscriptions s t r other) ∙ there))

    pub ack_matches : After (full.full_ack x s link number cursor)
    ack_matches = by (found s) refl
      where
        span : (q : FullSubscription) → found s ≡ Some q → q.link ≡ link → (o : Option Span)
            → out_as number (unsettled_spans q.spans) ≡ o → After (full.full_acked_span x s q cursor o)
        span q here same None out = refused_after refusal.NotInFlight
        span q here same (Some p) out =
            unless_after (nat_lt cursor p.last) _ _ (λ _. acked_after q p here same out)

        of : (q : FullSubscription) → found s ≡ Some q → (b : Bool) → (link == q.link) ≡ b
            → After (cond (not b) (full.full_refused_call x refusal.StaleLink)
            (full.full_acked_span x s q cursor (out_as number (unsettled_spans q.spans))))
        of q here true same =
            span q here (sym (eqb-true link q.link same)) (out_as number (unsettled_spans q.spans)) refl
        of q here false other = refused_after refusal.StaleLink

        by : (o : Option FullSubscription) → found s ≡ o
            → After (full.full_on_delivery x link number (λ q. full.full_acked_span x s q cursor) o)
        by None none = refused_after refusal.NoSuch
        by (Some q) here = of q here (link == q.link) refl
