-- The picture after a number is placed.
use Rattle.std.proofs.Common.{◌≡◌, ℕ, suc, ◌-◌, ◌≤◌, Bool, true, false, ◌==◌, ◌&&◌, ◌||◌, cond, List, [], ◌∷◌, ◌++◌}
use Rattle.std.proofs.Common.{map, Option, Some, None, filter_map, nat_lt, if◌then◌else◌, append_assoc, append-nil}
use Rattle.std.proofs.Common.{refl, sym, ap, ◌∙◌, arith}
use Rattle.std.specs.List.{AllByRecursion, cons_option}
use Rattle.std.proofs.lemmas.Bool.{le-ltb}
use Rattle.std.proofs.lemmas.List.Elements.{filter_map-append}
use Rattle.rb_deliveries.specs.declared.rank.Rank.{Rank}
use Rattle.rb_deliveries.specs.declared.rank.Held.{Held}
use Rattle.rb_deliveries.specs.declared.span.Span.{Span}
use Rattle.rb_deliveries.specs.declared.sub.Sub.{Sub}
use Rattle.rb_deliveries.specs.Spans.{fresh, cut_spans, is_fresh, takes_one_more, last_takes, last_with, grown_spans}
use Rattle.rb_deliveries.specs.Queues.{Queue, queue_floor, ranked, with_birth, birth, spans_of, queue_held}
use Rattle.rb_deliveries.specs.Orders.{in_line, all_at, ready_at, out_at}
use Rattle.rb_deliveries.specs.Picture.{Subscription}
use Rattle.rb_deliveries.specs.Changes.{grown_picture, grown_subscription, begun_spans}
use Rattle.rb_deliveries.specs.Pictured.{pictured, pictured_sub}
use Rattle.rb_deliveries.specs.Subs.{sub_held, IsKnown, Belongs}
use Rattle.rb_deliveries.proofs.spans.CutLaws.{grown_behind, cut_grows}
use Rattle.rb_deliveries.proofs.spans.QueueLaws.{queue_spans_is}
use Rattle.rb_deliveries.proofs.orders.Line.{all_then}
use Rattle.rb_deliveries.proofs.orders.OrderLaws.{OrderGrows, order_grown, cut_out}
use Rattle.rb_deliveries.proofs.pictures.CuttingLaws.{same_picture}
use Rattle.rb_deliveries.proofs.pictures.EarlierLaws.{before_placement, ready_earlier}

-- ---- spans that were taken before

-- one that isn't fresh takes no number more
not_fresh : (batch n : ℕ) (p : Span) → is_fresh p.status ≡ false → takes_one_more batch n p ≡ false
not_fresh batch n p h = ap (λ t. t && ((suc p.last == n) && nat_lt (suc p.last - p.first) batch)) h

-- what is behind spans that were taken before grows
pub grown_held : (batch n : ℕ) (held : List Held) (rest : List Span)
    → AllByRecursion (λ h. is_fresh h.span.status ≡ false) held → grown_spans batch n (spans_of held ++ rest)
    ≡ spans_of held ++ grown_spans batch n rest
grown_held batch n [] rest h = refl
grown_held batch n (x ∷ held) rest h =
    grown_behind batch n x.span (spans_of held ++ rest) (not_fresh batch n x.span h.0)
    ∙ ap (λ (l : List Span). x.span ∷ l) (grown_held batch n held rest h.1)

place_last_behind : (batch n : ℕ) (p : Span) (rest : List Span) → takes_one_more batch n p ≡ false
    → last_takes batch n (p ∷ rest) ≡ last_takes batch n rest
place_last_behind batch n p [] h = h
place_last_behind batch n p (q ∷ rest) h = refl

-- and it decides whether the last span takes a number
pub last_held : (batch n : ℕ) (held : List Held) (rest : List Span)
    → AllByRecursion (λ h. is_fresh h.span.status ≡ false) held → last_takes batch n (spans_of held ++ rest)
    ≡ last_takes batch n rest
last_held batch n [] rest h = refl
last_held batch n (x ∷ held) rest h =
    place_last_behind batch n x.span (spans_of held ++ rest) (not_fresh batch n x.span h.0)
    ∙ last_held batch n held rest h.1

-- ---- a queue

-- a queue's spans, grown, are those of the next front
pub queue_grows : (batch front : ℕ) (kept : Queue) → 1 ≤ batch → kept.next ≤ suc front
    → AllByRecursion (λ h. is_fresh h.span.status ≡ false) kept.held
    → spans_of (queue_held batch (suc front) kept)
    ≡ grown_spans batch (suc front) (spans_of (queue_held batch front kept))
queue_grows batch front kept one le h =
    queue_spans_is batch (suc front) kept
    ∙ ap (λ l. spans_of kept.held ++ l) (sym (cut_grows batch kept.next front one le))
    ∙ sym (grown_held batch (suc front) kept.held (cut_spans batch kept.next front) h)
    ∙ ap (grown_spans batch (suc front)) (sym (queue_spans_is batch front kept))

-- ---- the ready spans of a queue

-- a span that takes one number more stands where it stood
ready_longer : (s n : ℕ) (c : Rank) (spans : List Span) → filter_map (ready_at s) (ranked c (last_with n spans))
    ≡ filter_map (ready_at s) (ranked c spans)
ready_longer s n c [] = refl
ready_longer s n c (p ∷ []) = refl
ready_longer s n c (p ∷ q ∷ rest) = ap (cons_option (ready_at s (with_birth c p))) (ready_longer s n c (q ∷ rest))

-- a span that begins stands behind the others, with the rank of its birth
ready_one_more : (s n : ℕ) (c : Rank) (spans : List Span)
    → filter_map (ready_at s) (ranked c (spans ++ fresh n n ∷ [])) ≡ filter_map (ready_at s) (ranked c spans)
    ++ (birth c n, (s, n)) ∷ []
ready_one_more s n c [] = refl
ready_one_more s n c (p ∷ rest) = by (ready_at s (with_birth c p)) (ready_one_more s n c rest)
  where
    by : (o : Option (Rank × (ℕ × ℕ))) → filter_map (ready_at s) (ranked c (rest ++ fresh n n ∷ []))
        ≡ filter_map (ready_at s) (ranked c rest) ++ (birth c n, (s, n)) ∷ []
        → cons_option o (filter_map (ready_at s) (ranked c (rest ++ fresh n n ∷ [])))
        ≡ cons_option o (filter_map (ready_at s) (ranked c rest)) ++ (birth c n, (s, n)) ∷ []
    by None h = h
    by (Some e) h = ap (λ (l : List (Rank × (ℕ × ℕ))). e ∷ l) h

-- what is ready of spans that grow
ready_grown : (batch s n : ℕ) (c : Rank) (spans : List Span)
    → filter_map (ready_at s) (ranked c (grown_spans batch n spans))
    ≡ filter_map (ready_at s) (ranked c spans)
    ++ map (λ x. (birth c n, x)) (if last_takes batch n spans then [] else (s, n) ∷ [])
ready_grown batch s n c spans = by (last_takes batch n spans)
  where
    by : (t : Bool) → filter_map (ready_at s) (ranked c (cond t (last_with n spans) (spans ++ fresh n n ∷ [])))
        ≡ filter_map (ready_at s) (ranked c spans) ++ map (λ x. (birth c n, x)) (cond t [] ((s, n) ∷ []))
    by true = ready_longer s n c spans ∙ sym (append-nil _)
    by false = ready_one_more s n c spans

-- a placement's rank is that of the span that begins with it
birth_now : (front : ℕ) (c : Rank) → c.front ≤ front → birth c (suc front) ≡ record { front = suc front; turn = 0 }
birth_now front c le = ap (λ (t : Bool). if t then c else record { front = suc front; turn = 0 })
    (le-ltb front c.front le)

-- the number that a subscription has more in the ready order
abbrev pub place_begins : ℕ → ℕ → ℕ → Subscription → List (ℕ × ℕ)
place_begins batch n s q = if q.closed || last_takes batch n q.spans then [] else (s, n) ∷ []

-- what is ready of a queue at the next front
queue_ready : (batch front s : ℕ) (kept : Queue) → 1 ≤ batch → kept.next ≤ suc front → kept.cutting.front ≤ front
    → AllByRecursion (λ h. is_fresh h.span.status ≡ false) kept.held
    → filter_map (ready_at s) (queue_held batch (suc front) kept)
    ≡ filter_map (ready_at s) (queue_held batch front kept)
    ++ map (λ x. (record { front = suc front; turn = 0 }, x))
    (if last_takes batch (suc front) (spans_of (queue_held batch front kept)) then [] else (s, suc front) ∷ [])
queue_ready batch front s kept one le drawn h =
    filter_map-append (ready_at s) kept.held _
    ∙ ap (λ l. filter_map (ready_at s) kept.held ++ filter_map (ready_at s) (ranked kept.cutting l))
    (sym (cut_grows batch kept.next front one le))
    ∙ ap (λ l. filter_map (ready_at s) kept.held ++ l)
    (ready_grown batch s (suc front) kept.cutting (cut_spans batch kept.next front))
    ∙ sym (append_assoc (filter_map (ready_at s) kept.held)
    (filter_map (ready_at s) (ranked kept.cutting (cut_spans batch kept.next front))) _)
    ∙ (λ i. sym (filter_map-append (ready_at s) kept.held (ranked kept.cutting (cut_spans batch kept.next front))) i
    ++ map (λ x. (birth_now front kept.cutting drawn i, x)) (cond (same_last i) [] ((s, suc front) ∷ [])))
  where
    same_last : last_takes batch (suc front) (cut_spans batch kept.next front)
        ≡ last_takes batch (suc front) (spans_of (queue_held batch front kept))
    same_last = sym (ap (last_takes batch (suc front)) (queue_spans_is batch front kept)
        ∙ last_held batch (suc front) kept.held (cut_spans batch kept.next front) h)

-- ---- a subscription

-- what was taken before isn't fresh
known_old : (front turn number : ℕ) (sub : Sub) → Belongs front turn number sub
    → AllByRecursion (λ h. is_fresh h.span.status ≡ false) sub.queue.held
known_old front turn number sub b =
    all_then (IsKnown front turn number) (λ h. is_fresh h.span.status ≡ false) sub.queue.held (λ h known. known.0)
    b.are_known

sub_grows : (batch front turn number : ℕ) (sub : Sub) → 1 ≤ batch → Belongs front turn number sub
    → pictured_sub batch (suc front) sub ≡ grown_subscription batch (suc front) (pictured_sub batch front sub)
sub_grows batch front turn number sub one b =
    by sub.closed (queue_grows batch front sub.queue one b.is_next (known_old front turn number sub b))
  where
    with_spans : Bool → List Span → Subscription
    with_spans t spans = record {
      start = sub.start;
      floor = queue_floor sub.queue;
      offered = sub.offered;
      link = sub.link;
      closed = t;
      spans = spans;
    }

    by : (t : Bool) → spans_of (queue_held batch (suc front) sub.queue)
        ≡ grown_spans batch (suc front) (spans_of (queue_held batch front sub.queue))
        → with_spans t (spans_of (cond t [] (queue_held batch (suc front) sub.queue)))
        ≡ grown_subscription batch (suc front)
        (with_spans t (spans_of (cond t [] (queue_held batch front sub.queue))))
    by true h = refl
    by false h = ap (with_spans false) h

sub_ready : (batch front turn number s : ℕ) (sub : Sub) → 1 ≤ batch → Belongs front turn number sub
    → filter_map (ready_at s) (sub_held batch (suc front) sub)
    ≡ filter_map (ready_at s) (sub_held batch front sub)
    ++ map (λ x. (record { front = suc front; turn = 0 }, x))
    (place_begins batch (suc front) s (pictured_sub batch front sub))
sub_ready batch front turn number s sub one b =
    by sub.closed (queue_ready batch front s sub.queue one b.is_next b.is_drawn.0 (known_old front turn number sub b))
  where
    t : Rank
    t = record { front = suc front; turn = 0 }

    by : (b : Bool) → filter_map (ready_at s) (queue_held batch (suc front) sub.queue)
        ≡ filter_map (ready_at s) (queue_held batch front sub.queue)
        ++ map (λ x. (t, x)) (cond (last_takes batch (suc front) (spans_of (queue_held batch front sub.queue))) []
        ((s, suc front) ∷ []))
        → filter_map (ready_at s) (cond b [] (queue_held batch (suc front) sub.queue))
        ≡ filter_map (ready_at s) (cond b [] (queue_held batch front sub.queue))
        ++ map (λ x. (t, x))
        (cond (b || last_takes batch (suc front) (spans_of (cond b [] (queue_held batch front sub.queue))))
        [] ((s, suc front) ∷ []))
    by true h = refl
    by false h = h

-- no span comes to be out
sub_out : (batch front s : ℕ) (sub : Sub) → 1 ≤ batch → filter_map (out_at s) (sub_held batch (suc front) sub)
    ≡ filter_map (out_at s) (sub_held batch front sub)
sub_out batch front s sub one = by sub.closed
  where
    queue_out : (f : ℕ) → filter_map (out_at s) (queue_held batch f sub.queue) ≡ filter_map (out_at s) sub.queue.held
    queue_out f = filter_map-append (out_at s) sub.queue.held _
        ∙ ap (λ l. filter_map (out_at s) sub.queue.held ++ l) (cut_out batch f sub.queue.next s sub.queue.cutting one)
        ∙ append-nil _

    by : (b : Bool) → filter_map (out_at s) (cond b [] (queue_held batch (suc front) sub.queue))
        ≡ filter_map (out_at s) (cond b [] (queue_held batch front sub.queue))
    by true = refl
    by false = queue_out (suc front) ∙ sym (queue_out front)

-- ---- all subscriptions

all_grow : (batch front turn number : ℕ) (subs : List Sub) → 1 ≤ batch → AllByRecursion (Belongs front turn number) subs
    → map (pictured_sub batch (suc front)) subs
    ≡ map (grown_subscription batch (suc front)) (map (pictured_sub batch front) subs)
all_grow batch front turn number [] one h = refl
all_grow batch front turn number (sub ∷ subs) one h = λ i. sub_grows batch front turn number sub one h.0 i
    ∷ all_grow batch front turn number subs one h.1 i

begun_parts : (batch n s : ℕ) (q : Subscription) (rest : List Subscription) → begun_spans batch n s (q ∷ rest)
    ≡ place_begins batch n s q ++ begun_spans batch n (suc s) rest
begun_parts batch n s q rest = by (q.closed || last_takes batch n q.spans)
  where
    by : (t : Bool) → cond t (begun_spans batch n (suc s) rest) ((s, n) ∷ begun_spans batch n (suc s) rest)
        ≡ cond t [] ((s, n) ∷ []) ++ begun_spans batch n (suc s) rest
    by true = refl
    by false = refl

all_ready : (batch front turn number s : ℕ) (subs : List Sub) → 1 ≤ batch
    → AllByRecursion (Belongs front turn number) subs
    → OrderGrows ready_at (record { front = suc front; turn = 0 }) s (map (sub_held batch front) subs)
    (map (sub_held batch (suc front)) subs) (begun_spans batch (suc front) s (map (pictured_sub batch front) subs))
all_ready batch front turn number s [] one h = refl
all_ready batch front turn number s (sub ∷ subs) one h = (
  place_begins batch (suc front) s (pictured_sub batch front sub),
  begun_spans batch (suc front) (suc s) (map (pictured_sub batch front) subs),
  sub_ready batch front turn number s sub one h.0,
  begun_parts batch (suc front) s (pictured_sub batch front sub) (map (pictured_sub batch front) subs),
  all_ready batch front turn number (suc s) subs one h.1,
)

all_out : (batch front s : ℕ) (subs : List Sub) → 1 ≤ batch → all_at out_at s (map (sub_held batch (suc front)) subs)
    ≡ all_at out_at s (map (sub_held batch front) subs)
all_out batch front s [] one = refl
all_out batch front s (sub ∷ subs) one = λ i. sub_out batch front s sub one i ++ all_out batch front (suc s) subs one i

-- ---- the call

-- the picture at the next front is what the placement gives
pub placed_pictured : (batch window front turn next_delivery : ℕ) (subs : List Sub)
    → 1 ≤ batch → AllByRecursion (Belongs front turn next_delivery) subs
    → pictured batch window (suc front) next_delivery subs
    ≡ grown_picture (pictured batch window front next_delivery subs)
placed_pictured batch window front turn next_delivery subs one h =
    same_picture batch window (suc front) next_delivery _ _ _ _ _ _
    (all_grow batch front turn next_delivery subs one h)
    (order_grown ready_at (record { front = suc front; turn = 0 }) (map (sub_held batch front) subs)
    (map (sub_held batch (suc front)) subs) _ (all_ready batch front turn next_delivery 0 subs one h)
    (ready_earlier batch front turn next_delivery (record { front = suc front; turn = 0 }) subs one
    (before_placement front turn) h))
    (ap (λ z. map (λ e. e.1) (in_line z)) (all_out batch front 0 subs one))

-- what belongs to a front belongs to the next one
pub belongs_placed : (front turn next_delivery : ℕ) (subs : List Sub)
    → AllByRecursion (Belongs front turn next_delivery) subs
    → AllByRecursion (Belongs (suc front) turn next_delivery) subs
belongs_placed front turn next_delivery subs =
    all_then (Belongs front turn next_delivery) (Belongs (suc front) turn next_delivery) subs each
  where
    each : (sub : Sub) → Belongs front turn next_delivery sub → Belongs (suc front) turn next_delivery sub
    each sub b = record {
      is_offered = omega (arith, b.is_offered);
      is_next = omega (arith, b.is_next);
      is_drawn = (omega (arith, b.is_drawn.0), b.is_drawn.1);
      are_known = all_then (IsKnown front turn next_delivery) (IsKnown (suc front) turn next_delivery) sub.queue.held
          (λ h k. (k.0, (omega (arith, k.1.0), k.1.1), k.2)) b.are_known;
    }
