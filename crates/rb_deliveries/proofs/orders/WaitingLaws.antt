-- The first in line among the subscriptions, told from their ranks.
use Rattle.std.proofs.Common.{◌≡◌, ℕ, suc, ◌≤◌, Bool, true, false, not, ◌&&◌, nat_lt, nat_le}
use Rattle.std.proofs.Common.{List, [], ◌∷◌, map, Option, Some, None, option_map, slice_get, refl}
use Rattle.std.proofs.Common.{get_or, sym}
use Rattle.std.proofs.Common.{ap, ◌∙◌, arith, if◌then◌else◌}
use Rattle.std.specs.List.{AllByRecursion}
use Rattle.std.proofs.lemmas.Bool.{le-leb, lt-leb, ltb-true, ltb-false}
use Rattle.rb_deliveries.specs.declared.sub.Sub.{Sub}
use Rattle.rb_deliveries.specs.declared.rank.Held.{Held}
use Rattle.rb_deliveries.specs.declared.rank.Rank.{Rank}
use Rattle.rb_deliveries.specs.declared.tournament.Winner.{Winner}
use Rattle.rb_deliveries.specs.Spans.{cut_spans, how_many_out, is_ready}
use Rattle.rb_deliveries.specs.Queues.{queue_held, birth, with_birth, better, earlier, if_ready, least, spans_of}
use Rattle.rb_deliveries.specs.Subs.{Belongs, IsKnown, goes_first, next_to_deliver, first_to_deliver}
use Rattle.rb_deliveries.specs.Tournament.{winner_of_two, at_place, winner_from}
use Rattle.rb_deliveries.specs.Waiting.{AreWaiting, BelongAll, sooner_rank, queue_rank, sub_rank}
use Rattle.rb_deliveries.proofs.orders.Line.{chosen_seen, read_there}
use Rattle.rb_deliveries.proofs.orders.NodeLaws.{joined_none}
use Rattle.rb_deliveries.proofs.spans.FirstLaws.{first_goes, goes_open}
use Rattle.rb_deliveries.proofs.spans.QueueLaws.{first_in_line_is}
use Rattle.rb_deliveries.proofs.spans.CutLaws.{cut_none, cut_some}

-- ---- spans as winners

-- the span that is delivered first, and a span of subscription s
abbrev pub goer : Option (ℕ × Held) → Option Winner
goer = option_map (λ c. record { place = c.0; rank = c.1.rank })

abbrev spans_goer : ℕ → Option Held → Option Winner
spans_goer s o = goer (option_map (λ h. (s, h)) o)

goer_first : (a b : Option (ℕ × Held)) → goer (goes_first a b) ≡ winner_of_two (goer a) (goer b)
goer_first None b = refl
goer_first (Some a) None = refl
goer_first (Some a) (Some b) = chosen_seen (λ c. record { place = c.0; rank = c.1.rank })
    (earlier b.1.rank a.1.rank) a b

goer_better : (s : ℕ) (a b : Option Held) → spans_goer s (better a b)
    ≡ winner_of_two (spans_goer s a) (spans_goer s b)
goer_better s None b = refl
goer_better s (Some a) None = refl
goer_better s (Some a) (Some b) = ap goer (chosen_seen (λ h. (s, h)) (earlier b.rank a.rank) a b)
    ∙ goer_first (Some (s, a)) (Some (s, b))

-- ---- ranks that were drawn by now

-- A later rank is one of numbers that aren't placed yet: it doesn't win.
abbrev pub drawn_by : ℕ → Option Winner → Option Winner
drawn_by front None = None
drawn_by front (Some w) = if nat_le w.rank.front front then Some w else None

-- where the winner is placed, its subscription's first in line is the span to deliver
pub record ToDeliver (front window batch : ℕ) (subs : List Sub) (w : Winner) : Type 0 where
  pub sub : Sub
  pub held : Held
  pub there : slice_get subs w.place ≡ Some sub
  pub first : first_to_deliver window batch front 0 subs ≡ Some (w.place, held)
  pub in_line : least (queue_held batch front sub.queue) ≡ Some held

module _ (front : ℕ) where
  drawn_two : (a b : Option Winner) → drawn_by front (winner_of_two a b)
      ≡ winner_of_two (drawn_by front a) (drawn_by front b)
  drawn_two None b = refl
  drawn_two (Some a) None = sym (joined_none (drawn_by front (Some a)))
  drawn_two (Some a) (Some b) = grind arith

  module _ (s : ℕ) where
    -- the first in line of known spans was drawn by now
    drawn_least : (turn number : ℕ) (held : List Held) → AllByRecursion (IsKnown front turn number) held
        → drawn_by front (spans_goer s (least held)) ≡ spans_goer s (least held)
    drawn_least turn number [] known = refl
    drawn_least turn number (x ∷ held) known =
        ap (drawn_by front) (goer_better s (if_ready x) (least held))
        ∙ drawn_two (spans_goer s (if_ready x)) (spans_goer s (least held))
        ∙ (λ i. winner_of_two (own (is_ready x.span.status) i) (drawn_least turn number held known.1 i))
        ∙ sym (goer_better s (if_ready x) (least held))
      where
        own : (t : Bool) → drawn_by front (spans_goer s (if t then Some x else None))
            ≡ spans_goer s (if t then Some x else None)
        own true = ap (λ t. if t then spans_goer s (Some x) else None) (le-leb x.rank.front front known.0.1.0)
        own false = refl

    -- the rank of the number after the taken ones was drawn by now, if that is placed
    born : (cutting : Rank) (next : ℕ) → cutting.front ≤ front → nat_le (birth cutting next).front front
        ≡ nat_le next front
    born cutting next c = grind arith

    drawn_fresh : (batch next : ℕ) (cutting : Rank) → 1 ≤ batch → cutting.front ≤ front
        → drawn_by front (at_place s (Some (birth cutting next)))
        ≡ spans_goer s (option_map (with_birth cutting) (slice_get (cut_spans batch next front) 0))
    drawn_fresh batch next cutting one c =
        ap (λ t. if t then at_place s (Some (birth cutting next)) else None) (born cutting next c)
        ∙ by (nat_lt front next) refl
      where
        by : (t : Bool) → nat_lt front next ≡ t
            → (if nat_le next front then at_place s (Some (birth cutting next)) else None)
            ≡ spans_goer s (option_map (with_birth cutting) (slice_get (cut_spans batch next front) 0))
        by true is =
            let less = ltb-true front next is in
            rw (lt-leb next front less, cut_none batch next front less) refl
        by false is =
            let le = ltb-false front next is in
            rw (le-leb next front le, cut_some batch next front one le) refl

    sooner_of : (o : Option Held) (fresh : Rank) → at_place s (Some (sooner_rank o fresh))
        ≡ winner_of_two (spans_goer s o) (at_place s (Some fresh))
    sooner_of None fresh = refl
    sooner_of (Some h) fresh = by (earlier fresh h.rank)
      where
        by : (t : Bool) → at_place s (Some (if t then fresh else h.rank))
            ≡ (if t then at_place s (Some fresh) else spans_goer s (Some h))
        by true = refl
        by false = refl

    drawn_sub : (window batch turn number : ℕ) (sub : Sub) → 1 ≤ batch → Belongs front turn number sub
        → spans_goer s (next_to_deliver window batch front sub) ≡ drawn_by front (at_place s (sub_rank window sub))
    drawn_sub window batch turn number sub one belong =
        by (not sub.closed && nat_lt (how_many_out (spans_of sub.queue.held)) window)
      where
        queue : spans_goer s (least (queue_held batch front sub.queue))
            ≡ drawn_by front (at_place s (Some (queue_rank sub.queue)))
        queue =
            let stored = least sub.queue.held in
            let fresh = birth sub.queue.cutting sub.queue.next in
            ap (spans_goer s) (first_in_line_is batch front sub.queue one) ∙ goer_better s stored _
            ∙ sym (ap (drawn_by front) (sooner_of stored fresh)
            ∙ drawn_two (spans_goer s stored) (at_place s (Some fresh))
            ∙ (λ i. winner_of_two (drawn_least turn number sub.queue.held belong.are_known i)
            (drawn_fresh batch sub.queue.next sub.queue.cutting one belong.is_drawn.0 i)))

        by : (t : Bool) → spans_goer s (if t then least (queue_held batch front sub.queue) else None)
            ≡ drawn_by front (at_place s (if t then Some (queue_rank sub.queue) else None))
        by true = queue
        by false = refl

  -- ---- what the search reads

  module _ (window batch turn number : ℕ) (one : 1 ≤ batch) where
    drawn_wins : (s : ℕ) (subs : List Sub) → AllByRecursion (Belongs front turn number) subs
        → goer (first_to_deliver window batch front s subs)
        ≡ drawn_by front (winner_from s (map (sub_rank window) subs))
    drawn_wins s [] belong = refl
    drawn_wins s (sub ∷ subs) belong =
        goer_first (option_map (λ h. (s, h)) (next_to_deliver window batch front sub))
        (first_to_deliver window batch front (suc s) subs)
        ∙ (λ i. winner_of_two (drawn_sub s window batch turn number sub one belong.0 i)
        (drawn_wins (suc s) subs belong.1 i))
        ∙ sym (drawn_two (at_place s (sub_rank window sub)) (winner_from (suc s) (map (sub_rank window) subs)))

    -- where there is no winner, or one that isn't placed yet, there is nothing to deliver
    pub none_delivers : (subs : List Sub) (o : Option Winner) → AllByRecursion (Belongs front turn number) subs
        → winner_from 0 (map (sub_rank window) subs) ≡ o → drawn_by front o ≡ None
        → first_to_deliver window batch front 0 subs ≡ None
    none_delivers subs o belong is none =
        by (first_to_deliver window batch front 0 subs) (drawn_wins 0 subs belong ∙ ap (drawn_by front) is ∙ none)
      where
        by : (r : Option (ℕ × Held)) → goer r ≡ None → r ≡ None
        by None e = refl
        by (Some c) e = absurd (let f : Some _ ≡ None = e in cc)

    pub winner_delivers : (subs : List Sub) (w : Winner) → AllByRecursion (Belongs front turn number) subs
        → winner_from 0 (map (sub_rank window) subs) ≡ Some w → w.rank.front ≤ front
        → ToDeliver front window batch subs w
    winner_delivers subs w belong is le =
        by (first_to_deliver window batch front 0 subs) refl (drawn_wins 0 subs belong ∙ ap (drawn_by front) is
        ∙ ap (λ t. if t then Some w else None) (le-leb w.rank.front front le))
      where
        by : (r : Option (ℕ × Held)) → first_to_deliver window batch front 0 subs ≡ r → goer r ≡ Some w
            → ToDeliver front window batch subs w
        by None f e = absurd (let n : None ≡ Some w = e in cc)
        by (Some c) f e =
            let place : c.0 ≡ w.place = cc in
            let goes = first_goes window batch front 0 subs c f in
            record {
              sub = goes.1;
              held = c.1;
              there = ap (slice_get subs) (let e : w.place ≡ goes.0 = omega (arith, place, goes.2) in e) ∙ goes.3;
              first = f ∙ ap (λ n. Some (n, c.1)) place;
              in_line = (goes_open window batch front goes.1 c.1 goes.4).1;
            }

-- ---- the same, told by the line that is kept

module _ {window : ℕ} {subs : List Sub} {line moments : List (Option Rank)} (front batch : ℕ)
    (waiting : AreWaiting window subs line moments) (belong : BelongAll front subs) (one : 1 ≤ batch) where
  pub none_in_line : (o : Option Winner) → o ≡ winner_from 0 line → drawn_by front o ≡ None
      → first_to_deliver window batch front 0 subs ≡ None
  none_in_line o wins none =
      none_delivers front window batch belong.0 belong.1 one subs o belong.2
      (sym (wins ∙ ap (winner_from 0) waiting.in_line)) none

  pub line_delivers : (w : Winner) → Some w ≡ winner_from 0 line → w.rank.front ≤ front
      → ToDeliver front window batch subs w
  line_delivers w wins le =
      winner_delivers front window batch belong.0 belong.1 one subs w belong.2
      (sym (wins ∙ ap (winner_from 0) waiting.in_line)) le

-- the subscription that is read there has that span first in line
pub first_there : {front window batch : ℕ} {subs : List Sub} {w : Winner} (goes : ToDeliver front window batch subs w)
    (read : Sub) (o : Option Held) → read ≡ get_or subs w.place read → o ≡ least (queue_held batch front read.queue)
    → o ≡ Some goes.held
first_there {front} {window} {batch} {subs} {w} goes read o is first =
    first
    ∙ ap (λ (sub : Sub). least (queue_held batch front sub.queue)) (read_there subs w.place read goes.sub is goes.there)
    ∙ goes.in_line
