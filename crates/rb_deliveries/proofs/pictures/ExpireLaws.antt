-- The picture after expired spans are returned.
use Rattle.std.proofs.Common.{◌≡◌, ℕ, suc, ◌+◌, ◌-◌, ◌≤◌, ne_eqb, eq-eqb, Bool, true, false, not, cond, List, [], ◌∷◌}
use Rattle.std.proofs.Common.{◌++◌, map, Option, Some, option_map, filter, filter_map, slice_get, nat_le}
use Rattle.std.proofs.Common.{refl, sym, ap, ◌∙◌, arith}
use Rattle.std.specs.Prelude.{⊤}
use Rattle.std.specs.List.{AllByRecursion, cons_option}
use Rattle.std.proofs.lemmas.Option.{slice_get-map}
use Rattle.rb_deliveries.specs.Expiry.{expired_held, expired_sub}
use Rattle.rb_deliveries.specs.declared.rank.Rank.{Rank}
use Rattle.rb_deliveries.specs.declared.rank.Held.{Held}
use Rattle.rb_deliveries.specs.declared.span.Span.{Span}
use Rattle.rb_deliveries.specs.declared.span.Status.{Status}
use Rattle.rb_deliveries.specs.declared.span.Status.TheVariants.{Ready, InFlight}
use Rattle.rb_deliveries.specs.declared.sub.Sub.{Sub}
use Rattle.rb_deliveries.specs.Spans.{cut_spans, beginning, is_due, gone_back}
use Rattle.rb_deliveries.specs.Queues.{Queue, AreRising, HeldRise, floor_before, queue_floor, spans_of}
use Rattle.rb_deliveries.specs.Queues.{queue_held}
use Rattle.rb_deliveries.specs.Orders.{order, ready_at, out_at, out_at_status}
use Rattle.rb_deliveries.specs.Picture.{Subscription}
use Rattle.rb_deliveries.specs.Changes.{all_expired, expires_of, goes_back, is_due_of, span_is_due}
use Rattle.rb_deliveries.specs.Pictured.{pictured, pictured_sub}
use Rattle.rb_deliveries.specs.Subs.{sub_held}
use Rattle.rb_deliveries.proofs.spans.CutLaws.{CutIsFresh, cut_fresh}
use Rattle.rb_deliveries.proofs.spans.QueueLaws.{queue_spans_is, floor_expired}
use Rattle.rb_deliveries.proofs.orders.Line.{all_first, all_then}
use Rattle.rb_deliveries.proofs.orders.OrderLaws.{Leaves, expired_order, queue_out}
use Rattle.rb_deliveries.proofs.orders.ExpireOrder.{ExpireReports}
use Rattle.rb_deliveries.proofs.subs.KnownLaws.{all_get}
use Rattle.rb_deliveries.proofs.pictures.CuttingLaws.{same_picture}
use Rattle.rb_deliveries.proofs.spans.JoinLaws.{joins_queue}

-- a subscription of which the spans that are due went back if it is open, whatever their ranks are
pub record ExpiresNow (timeout clock : ℕ) (old new : Sub) : Type 0 where
  pub start : new.start ≡ old.start
  pub floor : queue_floor new.queue ≡ queue_floor old.queue
  pub offered : new.offered ≡ old.offered
  pub link : new.link ≡ old.link
  pub closed : new.closed ≡ old.closed
  pub next : new.queue.next ≡ old.queue.next
  pub spans : old.closed ≡ false → spans_of new.queue.held ≡ gone_back timeout clock (spans_of old.queue.held)

-- each of the subscriptions
abbrev pub AllExpire : ℕ → ℕ → List Sub → List Sub → Type 0
AllExpire timeout clock [] [] = ⊤
AllExpire timeout clock [] (new ∷ news) = ⊥
AllExpire timeout clock (old ∷ olds) [] = ⊥
AllExpire timeout clock (old ∷ olds) (new ∷ news) = ExpiresNow timeout clock old new × AllExpire timeout clock olds news

-- so its spans went back
held_expire : (timeout clock : ℕ) (rank : Held → Rank) (held : List Held)
    → spans_of (map (expired_held timeout clock rank) held) ≡ gone_back timeout clock (spans_of held)
held_expire timeout clock rank [] = refl
held_expire timeout clock rank (h ∷ held) = λ i. by (is_due timeout clock h.span.status) i
    ∷ held_expire timeout clock rank held i
  where
    by : (t : Bool) → (cond t (record { span = record h.span { status = Ready true }; rank = rank h }) h).span
        ≡ cond t (record h.span { status = Ready true }) h.span
    by true = refl
    by false = refl

pub sub_expires : (timeout clock : ℕ) (rank : Held → Rank) (sub : Sub)
    → ExpiresNow timeout clock sub (expired_sub timeout clock rank sub)
sub_expires timeout clock rank sub =
    record {
      start = refl;
      floor = same_floor sub.closed;
      offered = refl;
      link = refl;
      closed = refl;
      next = refl;
      spans = λ opened. ap (λ c. spans_of (cond c sub.queue.held (map (expired_held timeout clock rank)
          sub.queue.held))) opened ∙ held_expire timeout clock rank sub.queue.held;
    }
  where
    same_floor : (c : Bool)
        → floor_before (cond c sub.queue.held (map (expired_held timeout clock rank) sub.queue.held)) sub.queue.next
        ≡ queue_floor sub.queue
    same_floor true = refl
    same_floor false = floor_expired sub.queue.next timeout clock rank sub.queue.held

pub subs_expire : (timeout clock : ℕ) (rank : Held → Rank) (subs : List Sub)
    → AllExpire timeout clock subs (map (expired_sub timeout clock rank) subs)
subs_expire timeout clock rank [] = tt
subs_expire timeout clock rank (sub ∷ subs) =
    (sub_expires timeout clock rank sub, subs_expire timeout clock rank subs)

-- ---- the subscriptions

gone_append : (timeout clock : ℕ) (xs ys : List Span) → gone_back timeout clock (xs ++ ys) ≡ gone_back timeout clock xs
    ++ gone_back timeout clock ys
gone_append timeout clock [] ys = refl
gone_append timeout clock (x ∷ xs) ys =
    ap (λ (l : List Span). cond (is_due timeout clock x.status) (record x { status = Ready true }) x ∷ l)
    (gone_append timeout clock xs ys)

-- spans that were never taken stay
gone_fresh : (timeout clock : ℕ) (spans : List Span) → AllByRecursion CutIsFresh spans → gone_back timeout clock spans
    ≡ spans
gone_fresh timeout clock [] h = refl
gone_fresh timeout clock (p ∷ rest) h =
    λ i. ap (λ status. cond (is_due timeout clock status) (record p { status = Ready true }) p) h.0 i
    ∷ gone_fresh timeout clock rest h.1 i

-- what a queue shows
queue_expires : (batch front timeout clock : ℕ) (kept kept' : Queue) → kept'.next ≡ kept.next → spans_of kept'.held
    ≡ gone_back timeout clock (spans_of kept.held)
    → spans_of (queue_held batch front kept') ≡ gone_back timeout clock (spans_of (queue_held batch front kept))
queue_expires batch front timeout clock kept kept' next spans =
    queue_spans_is batch front kept' ∙ (λ i. spans i ++ cut_spans batch (next i) front)
    ∙ ap (λ l. gone_back timeout clock (spans_of kept.held) ++ l)
    (sym (gone_fresh timeout clock (cut_spans batch kept.next front) (cut_fresh batch kept.next front)))
    ∙ sym (gone_append timeout clock (spans_of kept.held) (cut_spans batch kept.next front))
    ∙ ap (gone_back timeout clock) (sym (queue_spans_is batch front kept))

-- what a subscription shows
sub_goes_back : (batch front timeout clock : ℕ) (old new : Sub) → ExpiresNow timeout clock old new
    → pictured_sub batch front new ≡ goes_back timeout clock (pictured_sub batch front old)
sub_goes_back batch front timeout clock old new e =
    (λ i. with_parts (e.start i) (e.floor i) (e.offered i) (e.link i) (e.closed i)
    (spans_of (cond (e.closed i) [] (queue_held batch front new.queue))))
    ∙ ap (with_parts old.start (queue_floor old.queue) old.offered old.link old.closed) (by old.closed refl)
  where
    with_parts : ℕ → ℕ → ℕ → ℕ → Bool → List Span → Subscription
    with_parts start floor offered link closed spans =
        record { start = start; floor = floor; offered = offered; link = link; closed = closed; spans = spans }

    by : (t : Bool) → old.closed ≡ t → spans_of (cond t [] (queue_held batch front new.queue))
        ≡ gone_back timeout clock (spans_of (cond t [] (queue_held batch front old.queue)))
    by true is = refl
    by false is = queue_expires batch front timeout clock old.queue new.queue e.next (e.spans is)

-- what all show
pub expired_subscriptions : (batch front timeout clock : ℕ) (subs subs' : List Sub) → AllExpire timeout clock subs subs'
    → map (pictured_sub batch front) subs' ≡ map (goes_back timeout clock) (map (pictured_sub batch front) subs)
expired_subscriptions batch front timeout clock [] [] e = refl
expired_subscriptions batch front timeout clock [] (new ∷ news) e = absurd e
expired_subscriptions batch front timeout clock (old ∷ olds) [] e = absurd e
expired_subscriptions batch front timeout clock (old ∷ olds) (new ∷ news) e =
    λ i. sub_goes_back batch front timeout clock old new e.0 i
    ∷ expired_subscriptions batch front timeout clock olds news e.1 i

-- ---- the in-flight order

-- among spans that rise each is the one that begins where it does
abbrev ExpireFound : ℕ → List Held → Held → Type 0
ExpireFound low all h = (low ≤ h.span.first) × (beginning h.span.first (spans_of all) ≡ Some h.span)

each_begins : (low next : ℕ) (held : List Held) → HeldRise low held next → AllByRecursion (ExpireFound low held) held
each_begins low next [] j = tt
each_begins low next (x ∷ rest) j =
    let at : low ≤ x.span.first = j.0 in
    let up : x.span.first ≤ x.span.last = j.1 in (
      (omega (arith, at), rw (eq-eqb x.span.first x.span.first refl) refl),
      all_then (ExpireFound (suc x.span.last) rest) (ExpireFound low (x ∷ rest)) rest
          (λ h f. (omega (arith, at, up, f.0), rw (ne_eqb x.span.first h.span.first (omega (arith, up, f.0))) f.1))
          (each_begins (suc x.span.last) next rest j.2),
    )

-- spans of which those that are due went back are out as before, without those
spans_leave : (due : ℕ × ℕ → Bool) (timeout clock s : ℕ) (held held' : List Held)
    → AllByRecursion (ExpireReports due timeout clock s) held → spans_of held' ≡ gone_back timeout clock (spans_of held)
    → filter_map (out_at s) held' ≡ filter (λ e. not (due e.1)) (filter_map (out_at s) held)
spans_leave due timeout clock s held held' tells spans = seen held' ∙ ap (filter_map span_out) spans ∙ left held tells
  where
    span_out : Span → Option (Rank × (ℕ × ℕ))
    span_out p = out_at_status s p.first p.status

    seen : (held : List Held) → filter_map (out_at s) held ≡ filter_map span_out (spans_of held)
    seen [] = refl
    seen (h ∷ held) = ap (cons_option (out_at s h)) (seen held)

    one : (p : Span) (status : Status) → due (s, p.first) ≡ is_due timeout clock status
        → (rest left : List (Rank × (ℕ × ℕ))) → rest ≡ filter (λ e. not (due e.1)) left
        → cons_option
        (span_out (cond (is_due timeout clock status) (record p { status = Ready true })
        (record p { status = status }))) rest
        ≡ filter (λ e. not (due e.1)) (cons_option (out_at_status s p.first status) left)
    one p (Ready taken) tell rest left h = h
    one p (InFlight number moment) tell rest left h = by (nat_le timeout (clock - moment)) tell
      where
        by : (t : Bool) → due (s, p.first) ≡ t
            → cons_option
            (span_out (cond t (record p { status = Ready true }) (record p { status = InFlight number moment }))) rest
            ≡ filter (λ e. not (due e.1)) ((record { front = number; turn = 0 }, (s, p.first)) ∷ left)
        by true is = rw is h
        by false is =
            rw is (ap (λ (l : List (Rank × (ℕ × ℕ))). (record { front = number; turn = 0 }, (s, p.first)) ∷ l) h)

    left : (held : List Held) → AllByRecursion (ExpireReports due timeout clock s) held
        → filter_map span_out (gone_back timeout clock (spans_of held))
        ≡ filter (λ e. not (due e.1)) (filter_map (out_at s) held)
    left [] tells = refl
    left (h ∷ held) tells = one h.span h.span.status tells.0 _ _ (left held tells.1)

-- what is out of a subscription, where its open queue's spans are told by their names
sub_leaves : (batch front : ℕ) (due : ℕ × ℕ → Bool) (timeout clock s : ℕ) (old new : Sub) → 1 ≤ batch
    → (old.closed ≡ false → AllByRecursion (ExpireReports due timeout clock s) old.queue.held)
    → ExpiresNow timeout clock old new
    → filter_map (out_at s) (sub_held batch front new)
    ≡ filter (λ e. not (due e.1)) (filter_map (out_at s) (sub_held batch front old))
sub_leaves batch front due timeout clock s old new one tells e =
    ap (λ c. filter_map (out_at s) (cond c [] (queue_held batch front new.queue))) e.closed ∙ by old.closed refl tells
  where
    by : (c : Bool) → old.closed ≡ c → (c ≡ false → AllByRecursion (ExpireReports due timeout clock s) old.queue.held)
        → filter_map (out_at s) (cond c [] (queue_held batch front new.queue))
        ≡ filter (λ e. not (due e.1)) (filter_map (out_at s) (cond c [] (queue_held batch front old.queue)))
    by true is tells = refl
    by false is tells =
        queue_out batch front s new.queue one ∙ spans_leave due timeout clock s old.queue.held new.queue.held (tells refl)
        (e.spans is)
        ∙ ap (filter (λ e. not (due e.1))) (sym (queue_out batch front s old.queue one))

-- and of all from number s on
subs_leave : (batch front : ℕ) (due : ℕ × ℕ → Bool) (timeout clock s : ℕ) (subs subs' : List Sub) → 1 ≤ batch
    → ((k i : ℕ) (sub : Sub) → k ≡ s + i → slice_get subs i ≡ Some sub → sub.closed ≡ false
    → AllByRecursion (ExpireReports due timeout clock k) sub.queue.held)
    → AllExpire timeout clock subs subs'
    → Leaves out_at due s (map (sub_held batch front) subs) (map (sub_held batch front) subs')
subs_leave batch front due timeout clock s [] [] one tell e = tt
subs_leave batch front due timeout clock s [] (new ∷ news) one tell e = e
subs_leave batch front due timeout clock s (old ∷ olds) [] one tell e = e
subs_leave batch front due timeout clock s (old ∷ olds) (new ∷ news) one tell e = (
  sub_leaves batch front due timeout clock s old new one (tell s 0 old (omega arith) refl) e.0,
  subs_leave batch front due timeout clock (suc s) olds news one
      (λ k i sub is found. tell k (suc i) sub (omega (arith, is)) found) e.1,
)

-- the spans that a subscription keeps rise, and the next number is no later than the one behind the front
abbrev pub ExpireFollows : ℕ → Sub → Type 0
ExpireFollows front sub = (sub.queue.next ≤ suc front) × AreRising sub.queue

-- the picture's test on a name tells whether the span is due
abbrev pub due_of : ℕ → ℕ → List Sub → ℕ → ℕ → ℕ × ℕ → Bool
due_of batch front subs timeout now = expires_of (map (pictured_sub batch front) subs) timeout now

pub expire_told : (batch front timeout now : ℕ) (subs : List Sub) (k : ℕ) (sub : Sub) → 1 ≤ batch
    → ExpireFollows front sub → slice_get subs k ≡ Some sub → sub.closed ≡ false
    → AllByRecursion (ExpireReports (due_of batch front subs timeout now) timeout now k)
    (queue_held batch front sub.queue)
expire_told batch front timeout now subs k sub one follows found opened =
    all_then (ExpireFound 1 (queue_held batch front sub.queue))
    (ExpireReports (due_of batch front subs timeout now) timeout now k)
    (queue_held batch front sub.queue) each
    (each_begins 1 (suc front) (queue_held batch front sub.queue)
    (joins_queue batch front sub.queue one follows.0 follows.1))
  where
    seen : slice_get (map (pictured_sub batch front) subs) k ≡ Some (pictured_sub batch front sub)
    seen = slice_get-map (pictured_sub batch front) subs k ∙ ap (option_map (pictured_sub batch front)) found

    each : (h : Held) → ExpireFound 1 (queue_held batch front sub.queue) h
        → is_due_of timeout now h.span.first (slice_get (map (pictured_sub batch front) subs) k)
        ≡ is_due timeout now h.span.status
    each h f =
        ap (is_due_of timeout now h.span.first) seen
        ∙ ap (λ c. span_is_due timeout now
        (beginning h.span.first (spans_of (cond c [] (queue_held batch front sub.queue))))) opened
        ∙ ap (span_is_due timeout now) f.1

-- ---- the call

-- what is out after it is what was, without what expires
expired_in_flight : (batch front timeout now : ℕ) (subs subs' : List Sub) → 1 ≤ batch
    → AllByRecursion (ExpireFollows front) subs → AllExpire timeout now subs subs'
    → order out_at (map (sub_held batch front) subs')
    ≡ filter (λ at. not (due_of batch front subs timeout now at)) (order out_at (map (sub_held batch front) subs))
expired_in_flight batch front timeout now subs subs' one follows e =
    expired_order out_at (due_of batch front subs timeout now)
    (map (sub_held batch front) subs) (map (sub_held batch front) subs')
    (subs_leave batch front (due_of batch front subs timeout now) timeout now 0 subs subs' one tell e)
  where
    tell : (k i : ℕ) (sub : Sub) → k ≡ 0 + i → slice_get subs i ≡ Some sub → sub.closed ≡ false
        → AllByRecursion (ExpireReports (due_of batch front subs timeout now) timeout now k) sub.queue.held
    tell k i sub is found opened =
        let same : k ≡ i = omega (arith, is) in
        all_first (ExpireReports (due_of batch front subs timeout now) timeout now k) sub.queue.held _
        (expire_told batch front timeout now subs k sub one
        (all_get (ExpireFollows front) subs i sub follows found) (ap (slice_get subs) same ∙ found) opened)

-- the picture after it, where the ready order has at its end what expires
pub expired_pictured : (batch window front number timeout now : ℕ) (subs subs' : List Sub) → 1 ≤ batch
    → AllByRecursion (ExpireFollows front) subs → AllExpire timeout now subs subs'
    → order ready_at (map (sub_held batch front) subs')
    ≡ order ready_at (map (sub_held batch front) subs)
    ++ filter (due_of batch front subs timeout now) (order out_at (map (sub_held batch front) subs))
    → pictured batch window front number subs'
    ≡ all_expired (pictured batch window front number subs) timeout now
expired_pictured batch window front number timeout now subs subs' one follows e ready =
    same_picture batch window front number _ _ _ _ _ _
    (expired_subscriptions batch front timeout now subs subs' e) ready
    (expired_in_flight batch front timeout now subs subs' one follows e)
