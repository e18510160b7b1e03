-- One span of a queue changes or is removed: what that changes in the queue's spans, and in the orders.
use Rattle.std.proofs.Common.{◌≡◌, ℕ, eq-eqb, Bool, true, false, not, ◌==◌, ◌&&◌, cond, List, [], ◌∷◌, ◌++◌, map}
use Rattle.std.proofs.Common.{Option, Some, None, IfSome, filter, filter_map, append_assoc, refl, sym, ap, ◌∙◌}
use Rattle.std.specs.List.{AllByRecursion, cons_option}
use Rattle.std.proofs.lemmas.List.{map-append}
use Rattle.std.proofs.lemmas.List.Elements.{filter-append, filter_map-append}
use Rattle.rb_deliveries.specs.declared.span.Span.{Span}
use Rattle.rb_deliveries.specs.declared.span.Status.{Status}
use Rattle.rb_deliveries.specs.declared.rank.Rank.{Rank}
use Rattle.rb_deliveries.specs.declared.rank.Held.{Held}
use Rattle.rb_deliveries.specs.Spans.{with_status, without_first}
use Rattle.rb_deliveries.specs.Queues.{spans_of, stated, restated, without_held}
use Rattle.rb_deliveries.proofs.orders.OrderLaws.{At, Tagged, is_at}
use Rattle.rb_deliveries.proofs.spans.JoinLaws.{Other}

-- the span that begins with a number gets a status and a rank: that is the one with this status in the spans
pub spans_restated : (first : ℕ) (status : Status) (rank : Rank) (xs : List Held)
    → spans_of (restated first status rank xs) ≡ with_status first status (spans_of xs)
spans_restated first status rank [] = refl
spans_restated first status rank (h ∷ xs) =
    (λ i. one (h.span.first == first) i ∷ spans_restated first status rank xs i)
  where
    one : (b : Bool) → (cond b (record { span = record h.span { status = status }; rank = rank }) h).span
        ≡ cond b (record h.span { status = status }) h.span
    one true = refl
    one false = refl

-- those that begin with other numbers stay
pub restated_others : (first : ℕ) (status : Status) (rank : Rank) (xs : List Held) → AllByRecursion (Other first) xs
    → restated first status rank xs ≡ xs
restated_others first status rank [] others = refl
restated_others first status rank (h ∷ xs) others =
    (λ i. cond (others.0 i) (record { span = record h.span { status = status }; rank = rank }) h
    ∷ restated_others first status rank xs others.1 i)

-- an entry of a span that begins with another number is another one, and one that begins with this number is this one
own_entry : (s first : ℕ) (o : Option (Rank × (ℕ × ℕ))) (h : Held) → IfSome o (λ e. e.1 ≡ (s, h.span.first))
    → (b : Bool) → (h.span.first == first) ≡ b → IfSome o (λ e. not (is_at s first e.1) ≡ not b)
own_entry s first None h is b same = tt
own_entry s first (Some e) h is b same = ap (λ x. not (is_at s first x)) is
    ∙ ap (λ c. not (c && (h.span.first == first))) (eq-eqb s s refl) ∙ ap not same

-- of an entry that passes, and others, all or the others are left
change_one_left : (test : Rank × (ℕ × ℕ) → Bool) (o : Option (Rank × (ℕ × ℕ))) (es : List (Rank × (ℕ × ℕ)))
    → IfSome o (λ e. test e ≡ true) → filter test (cons_option o es) ≡ cons_option o (filter test es)
change_one_left test None es h = refl
change_one_left test (Some e) es h = ap (λ b. cond b (e ∷ filter test es) (filter test es)) h

one_gone : (test : Rank × (ℕ × ℕ) → Bool) (o : Option (Rank × (ℕ × ℕ))) (es : List (Rank × (ℕ × ℕ)))
    → IfSome o (λ e. test e ≡ false) → filter test (cons_option o es) ≡ filter test es
one_gone test None es h = refl
one_gone test (Some e) es h = ap (λ b. cond b (e ∷ filter test es) (filter test es)) h

-- without the span that begins with a number, those that begin with others are left
others_left : (at : At) (s first : ℕ) (xs : List Held) → Tagged at → AllByRecursion (Other first) xs
    → filter (λ e. not (is_at s first e.1)) (filter_map (at s) xs) ≡ filter_map (at s) xs
others_left at s first [] tagged others = refl
others_left at s first (h ∷ xs) tagged others =
    change_one_left (λ e. not (is_at s first e.1)) (at s h) (filter_map (at s) xs)
    (own_entry s first (at s h) h (tagged s h) false others.0)
    ∙ ap (cons_option (at s h)) (others_left at s first xs tagged others.1)

-- without one span, those ahead of it and behind it are left
left_behind : (at : At) (s first : ℕ) (ahead : List Held) (one : Held) (behind : List Held) → Tagged at
    → one.span.first ≡ first → AllByRecursion (Other first) ahead × AllByRecursion (Other first) behind
    → filter (λ e. not (is_at s first e.1)) (filter_map (at s) ahead
    ++ cons_option (at s one) (filter_map (at s) behind))
    ≡ filter_map (at s) ahead ++ filter_map (at s) behind
left_behind at s first ahead one behind tagged is others =
    let test : Rank × (ℕ × ℕ) → Bool = λ e. not (is_at s first e.1) in
    filter-append test (filter_map (at s) ahead) (cons_option (at s one) (filter_map (at s) behind))
    ∙ (λ i. others_left at s first ahead tagged others.0 i
    ++ one_gone test (at s one) (filter_map (at s) behind)
    (own_entry s first (at s one) one (tagged s one) true (eq-eqb one.span.first first is)) i)
    ∙ ap (λ z. filter_map (at s) ahead ++ z) (others_left at s first behind tagged others.1)

-- a span with another status and rank
abbrev pub become : Span → Status → Rank → Held
become span status rank = record { span = record span { status = status }; rank = rank }

-- one of these is the span, and the others begin with other numbers
pub record HasSpan (span : Span) (xs : List Held) : Type 0 where
  pub ahead : List Held
  pub one : Held
  pub behind : List Held
  pub is : one.span ≡ span
  pub before : xs ≡ ahead ++ one ∷ behind
  pub others : AllByRecursion (Other span.first) ahead × AllByRecursion (Other span.first) behind

-- what stands in an order
stood : {span : Span} {xs : List Held} (place : HasSpan span xs) (at : At) (s : ℕ)
    → filter_map (at s) xs ≡ filter_map (at s) place.ahead
    ++ cons_option (at s place.one) (filter_map (at s) place.behind)
stood place at s =
    ap (filter_map (at s)) place.before ∙ filter_map-append (at s) place.ahead (place.one ∷ place.behind)

-- ys are xs, but that the one span that begins as this one does has another status and rank
pub record Changes (span : Span) (status : Status) (rank : Rank) (xs ys : List Held) : Type 0 where
  pub at : HasSpan span xs
  pub after : ys ≡ at.ahead ++ become span status rank ∷ at.behind

module _ (span : Span) (status : Status) (rank : Rank) where
  -- where the others begin with other numbers, restating changes this one
  pub restated_one : (ahead : List Held) (one : Held) (behind : List Held) → one.span ≡ span
      → AllByRecursion (Other span.first) ahead × AllByRecursion (Other span.first) behind
      → restated span.first status rank (ahead ++ one ∷ behind) ≡ ahead ++ become span status rank ∷ behind
  restated_one ahead one behind is others =
      map-append (stated span.first status rank) ahead (one ∷ behind)
      ∙ (λ i. restated_others span.first status rank ahead others.0 i
      ++ (here i ∷ restated_others span.first status rank behind others.1 i))
    where
      here : stated span.first status rank one ≡ become span status rank
      here = ap (λ b. cond b (become one.span status rank) one)
          (eq-eqb one.span.first span.first (ap (λ p. p.first) is)) ∙ ap (λ p. become p status rank) is

  module _ {xs ys : List Held} (c : Changes span status rank xs ys) where
    -- that is what restating makes of them
    changed_restated : ys ≡ restated span.first status rank xs
    changed_restated = c.after ∙ sym (restated_one c.at.ahead c.at.one c.at.behind c.at.is c.at.others)
        ∙ ap (restated span.first status rank) (sym c.at.before)

    -- the spans are those with this status
    pub changed_spans : spans_of ys ≡ with_status span.first status (spans_of xs)
    changed_spans = ap spans_of changed_restated ∙ spans_restated span.first status rank xs

    -- what stands in an order
    pub stands : (at : At) (s : ℕ) → filter_map (at s) ys ≡ filter_map (at s) c.at.ahead
        ++ cons_option (at s (become span status rank)) (filter_map (at s) c.at.behind)
    stands at s = ap (filter_map (at s)) c.after
        ∙ filter_map-append (at s) c.at.ahead (become span status rank ∷ c.at.behind)

    -- it didn't stand there, and does now
    pub stands_new : (at : At) (s : ℕ) (t : Rank) → ((h : Held) → h.span ≡ span → at s h ≡ None)
        → at s (become span status rank) ≡ Some (t, (s, span.first))
        → (filter_map (at s) xs ≡ filter_map (at s) c.at.ahead ++ filter_map (at s) c.at.behind)
        × (filter_map (at s) ys ≡ filter_map (at s) c.at.ahead ++ map (λ x. (t, x)) ((s, span.first) ∷ [])
        ++ filter_map (at s) c.at.behind)
    stands_new at s t old new = (
      stood c.at at s ∙ ap (λ o. filter_map (at s) c.at.ahead ++ cons_option o (filter_map (at s) c.at.behind))
          (old c.at.one c.at.is),
      stands at s ∙ ap (λ o. filter_map (at s) c.at.ahead ++ cons_option o (filter_map (at s) c.at.behind)) new
          ∙ sym (append_assoc (filter_map (at s) c.at.ahead) ((t, (s, span.first)) ∷ [])
          (filter_map (at s) c.at.behind)),
    )

    -- it doesn't stand there
    pub stands_left : (at : At) (s : ℕ) → Tagged at → at s (become span status rank) ≡ None → filter_map (at s) ys
        ≡ filter (λ e. not (is_at s span.first e.1)) (filter_map (at s) xs)
    stands_left at s tagged new =
        stands at s ∙ ap (λ o. filter_map (at s) c.at.ahead ++ cons_option o (filter_map (at s) c.at.behind)) new
        ∙ sym (ap (filter (λ e. not (is_at s span.first e.1))) (stood c.at at s)
        ∙ left_behind at s span.first c.at.ahead c.at.one c.at.behind tagged (ap (λ p. p.first) c.at.is)
        c.at.others)

-- ---- one span is removed

-- the spans without the one that begins with a number are those of what is left
spans_without : (first : ℕ) (xs : List Held) → spans_of (without_held first xs) ≡ without_first first (spans_of xs)
spans_without first [] = refl
spans_without first (h ∷ xs) = by (not (h.span.first == first)) (spans_without first xs)
  where
    by : (b : Bool) → spans_of (without_held first xs) ≡ without_first first (spans_of xs)
        → spans_of (cond b (h ∷ without_held first xs) (without_held first xs))
        ≡ cond b (h.span ∷ without_first first (spans_of xs)) (without_first first (spans_of xs))
    by true rest = ap (λ spans. h.span ∷ spans) rest
    by false rest = rest

-- those that begin with other numbers stay
pub without_others : (first : ℕ) (xs : List Held) → AllByRecursion (Other first) xs → without_held first xs ≡ xs
without_others first [] others = refl
without_others first (h ∷ xs) others =
    (λ i. cond (not (others.0 i)) (h ∷ without_others first xs others.1 i) (without_held first xs))

-- ys are xs without the one span that begins as this one does
pub record Removes (span : Span) (xs ys : List Held) : Type 0 where
  pub at : HasSpan span xs
  pub after : ys ≡ at.ahead ++ at.behind

module _ (span : Span) where
  -- where the others begin with other numbers, this one is removed
  pub without_one : (ahead : List Held) (one : Held) (behind : List Held) → one.span ≡ span
      → AllByRecursion (Other span.first) ahead × AllByRecursion (Other span.first) behind
      → without_held span.first (ahead ++ one ∷ behind) ≡ ahead ++ behind
  without_one ahead one behind is others =
      filter-append (λ (h : Held). not (h.span.first == span.first)) ahead (one ∷ behind)
      ∙ (λ i. without_others span.first ahead others.0 i ++ here i)
    where
      here : without_held span.first (one ∷ behind) ≡ behind
      here = ap (λ b. cond (not b) (one ∷ without_held span.first behind) (without_held span.first behind))
          (eq-eqb one.span.first span.first (ap (λ p. p.first) is))
          ∙ without_others span.first behind others.1

  module _ {xs ys : List Held} (r : Removes span xs ys) where
    -- the spans are those without it
    pub removed_spans : spans_of ys ≡ without_first span.first (spans_of xs)
    removed_spans =
        ap spans_of (r.after ∙ sym (without_one r.at.ahead r.at.one r.at.behind r.at.is r.at.others)
        ∙ ap (without_held span.first) (sym r.at.before)) ∙ spans_without span.first xs

    -- what stands in an order
    removed_stands : (at : At) (s : ℕ) → filter_map (at s) ys ≡ filter_map (at s) r.at.ahead
        ++ filter_map (at s) r.at.behind
    removed_stands at s = ap (filter_map (at s)) r.after ∙ filter_map-append (at s) r.at.ahead r.at.behind

    -- it didn't stand there
    pub removed_same : (at : At) (s : ℕ) → ((h : Held) → h.span ≡ span → at s h ≡ None)
        → filter_map (at s) ys ≡ filter_map (at s) xs
    removed_same at s old = removed_stands at s
        ∙ ap (λ o. filter_map (at s) r.at.ahead ++ cons_option o (filter_map (at s) r.at.behind))
        (sym (old r.at.one r.at.is))
        ∙ sym (stood r.at at s)

    -- it doesn't stand there any more
    pub removed_left : (at : At) (s : ℕ) → Tagged at → filter_map (at s) ys
        ≡ filter (λ e. not (is_at s span.first e.1)) (filter_map (at s) xs)
    removed_left at s tagged =
        removed_stands at s ∙ sym (ap (filter (λ e. not (is_at s span.first e.1))) (stood r.at at s)
        ∙ left_behind at s span.first r.at.ahead r.at.one r.at.behind tagged (ap (λ p. p.first) r.at.is)
        r.at.others)
