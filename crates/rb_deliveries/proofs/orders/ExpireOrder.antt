-- The ready order after expired spans are returned. Each has a rank by its delivery's number, so they are at its end,
-- in the in-flight order.
use Rattle.std.proofs.Common.{◌≡◌, ℕ, suc, ◌+◌, ◌-◌, ◌≤◌, Bool, true, false, cond, List, [], ◌∷◌, ◌++◌, length, map}
use Rattle.std.proofs.Common.{Some, filter, filter_map, slice_get, nat_le, length-append, refl, sym, ap, ◌∙◌}
use Rattle.std.proofs.Common.{subst, arith}
use Rattle.std.specs.List.{AllByRecursion, cons_option}
use Rattle.std.proofs.lemmas.List.{map-append}
use Rattle.std.proofs.lemmas.List.Elements.{filter-append}
use Rattle.rb_deliveries.specs.Expiry.{by_number, expired_held, expired_sub, due_in, all_due}
use Rattle.rb_deliveries.specs.declared.rank.Rank.{Rank}
use Rattle.rb_deliveries.specs.declared.rank.Held.{Held}
use Rattle.rb_deliveries.specs.declared.span.Status.{Status}
use Rattle.rb_deliveries.specs.declared.span.Status.TheVariants.{Ready, InFlight}
use Rattle.rb_deliveries.specs.declared.sub.Sub.{Sub}
use Rattle.rb_deliveries.specs.Spans.{fresh, cut_spans, is_due}
use Rattle.rb_deliveries.specs.Queues.{ranked, with_birth, queue_held, earlier}
use Rattle.rb_deliveries.specs.Orders.{all_at, ready_at, out_at, out_at_status}
use Rattle.rb_deliveries.specs.Subs.{sub_held, IsDrawn, IsKnown, Belongs}
use Rattle.rb_deliveries.proofs.spans.CutLaws.{cut_ends, cut_induction}
use Rattle.rb_deliveries.proofs.spans.QueueLaws.{cutting_all}
use Rattle.rb_deliveries.proofs.orders.Line.{all_first, all_both, all_then}
use Rattle.rb_deliveries.proofs.orders.OrderLaws.{OrderEntries, queue_out}
use Rattle.rb_deliveries.proofs.orders.ExpireLines.{Rising, ExpireOrderParts}
use Rattle.rb_deliveries.proofs.orders.ExpireLines.{parts_both}
use Rattle.rb_deliveries.proofs.subs.KnownLaws.{drawn_before, known_birth_drawn}
use Rattle.rb_deliveries.proofs.subs.ExpiredLaws.{Numbered, AllNumbered}

-- ---- a queue

-- whether a span is due is told by its name
abbrev pub ExpireReports : (ℕ × ℕ → Bool) → ℕ → ℕ → ℕ → Held → Type 0
ExpireReports due timeout clock s h = due (s, h.span.first) ≡ is_due timeout clock h.span.status

-- a span's rank was drawn, its name tells whether it is due, and D holds of its number if it is
abbrev Timed : ℕ → ℕ → (ℕ → Type 0) → (ℕ × ℕ → Bool) → ℕ → ℕ → ℕ → Held → Type 0
Timed front turn D due timeout clock s h = IsDrawn front turn h.rank × ExpireReports due timeout clock s h
    × Numbered D timeout clock h.span.status

-- the next turn's rank parts them
pub next_turn : ℕ → ℕ → Rank
next_turn front turn = record { front = front; turn = suc turn }

late_by : (front turn : ℕ) (a : Rank) → earlier (record { front = front; turn = turn }) a ≡ true
    → earlier a (next_turn front turn) ≡ false
unfolding next_turn
late_by front turn a h = grind arith

early_by : (front turn : ℕ) (k : Rank) → IsDrawn front turn k → earlier k (next_turn front turn) ≡ true
unfolding next_turn
early_by front turn k h = drawn_before front turn k h

queue_parts : (front turn : ℕ) (D : ℕ → Type 0) (due : ℕ × ℕ → Bool) (timeout clock s : ℕ) (tk : ℕ → Rank)
    → Rising front turn D tk → (queue : List Held) → AllByRecursion (Timed front turn D due timeout clock s) queue
    → ExpireOrderParts D due (next_turn front turn) tk
    (filter_map (ready_at s) (map (expired_held timeout clock (by_number tk)) queue)) (filter_map (ready_at s) queue)
    (filter_map (out_at s) queue)
queue_parts front turn D due timeout clock s tk r [] h = record { early = refl; late = refl; plain = tt }
queue_parts front turn D due timeout clock s tk r (x ∷ queue) h =
    one x.span.status h.0.1 h.0.2 (queue_parts front turn D due timeout clock s tk r queue h.1)
  where
    t : Rank
    t = next_turn front turn

    news : OrderEntries
    news = filter_map (ready_at s) (map (expired_held timeout clock (by_number tk)) queue)

    -- the span, in this state
    in_state : Status → Held
    in_state status = record { span = record x.span { status = status }; rank = x.rank }

    name : ℕ × ℕ
    name = (s, x.span.first)

    old_one : ExpireOrderParts D due t tk news (filter_map (ready_at s) queue) (filter_map (out_at s) queue)
        → ExpireOrderParts D due t tk ((x.rank, name) ∷ news) ((x.rank, name) ∷ filter_map (ready_at s) queue)
        (filter_map (out_at s) queue)
    old_one rest =
        let first : earlier x.rank t ≡ true = early_by front turn x.rank h.0.0 in
        record {
          early = rw first (ap (λ (l : OrderEntries). (x.rank, name) ∷ l) rest.early);
          late = rw first rest.late;
          plain = rest.plain;
        }

    by : (number : ℕ) (b : Bool) → due name ≡ b → (b ≡ true → D number)
        → ExpireOrderParts D due t tk news (filter_map (ready_at s) queue) (filter_map (out_at s) queue)
        → ExpireOrderParts D due t tk (cond b ((tk number, name) ∷ news) news) (filter_map (ready_at s) queue)
        ((record { front = number; turn = 0 }, name) ∷ filter_map (out_at s) queue)
    by number true is num rest =
        let last : earlier (tk number) t ≡ false = late_by front turn (tk number) (r.is_later number (num refl)) in
        record {
          early = rw last rest.early;
          late = rw (last, is) (ap (λ (l : OrderEntries). (tk number, name) ∷ l) rest.late);
          plain =
              (λ _. (refl, num refl), rest.plain);
        }
    by number false is num rest =
        record {
          early = rest.early;
          late = rw is rest.late;
          plain = (λ is_true. (refl, num (sym is ∙ is_true)), rest.plain);
        }

    turned : (number moment : ℕ) (b : Bool)
        → cons_option
        (ready_at s (cond b (record { span = record x.span { status = Ready true }; rank = tk number })
        (in_state (InFlight number moment)))) news ≡ cond b ((tk number, name) ∷ news) news
    turned number moment true = refl
    turned number moment false = refl

    one : (status : Status) → due name ≡ is_due timeout clock status → Numbered D timeout clock status
        → ExpireOrderParts D due t tk news (filter_map (ready_at s) queue) (filter_map (out_at s) queue)
        → ExpireOrderParts D due t tk
        (cons_option (ready_at s (expired_held timeout clock (by_number tk) (in_state status))) news)
        (cons_option (ready_at s (in_state status)) (filter_map (ready_at s) queue))
        (cons_option (out_at_status s x.span.first status) (filter_map (out_at s) queue))
    one (Ready taken) tell num rest = old_one rest
    one (InFlight number moment) tell num rest =
        rw (turned number moment (nat_le timeout (clock - moment)))
        (by number (nat_le timeout (clock - moment)) tell num rest)

-- ---- a subscription

all_zip : {A : Type 0} (P Q : A → Type 0) (xs : List A) → AllByRecursion P xs → AllByRecursion Q xs
    → AllByRecursion (λ x. P x × Q x) xs
all_zip P Q [] h k = tt
all_zip P Q (x ∷ xs) h k = ((h.0, k.0), all_zip P Q xs h.1 k.1)

-- each span of a queue has a rank that was drawn, and what is due has such a number
abbrev Drawn : ℕ → ℕ → (ℕ → Type 0) → ℕ → ℕ → Held → Type 0
Drawn front turn D timeout clock h = IsDrawn front turn h.rank × Numbered D timeout clock h.span.status

queue_drawn : (batch front turn number : ℕ) (D : ℕ → Type 0) (timeout clock : ℕ) (sub : Sub) → 1 ≤ batch
    → Belongs front turn number sub → AllNumbered D timeout clock sub
    → AllByRecursion (Drawn front turn D timeout clock) (queue_held batch front sub.queue)
queue_drawn batch front turn number D timeout clock sub one b num =
    all_both (Drawn front turn D timeout clock) sub.queue.held _
    (all_zip (λ h. IsDrawn front turn h.rank) (λ h. Numbered D timeout clock h.span.status) sub.queue.held
    (all_then (IsKnown front turn number) (λ h. IsDrawn front turn h.rank) sub.queue.held (λ h known. known.1)
    b.are_known) num)
    (cutting_all batch front sub.queue.cutting (Drawn front turn D timeout clock) one sub.queue.next
    (λ x end l m n. (known_birth_drawn front turn x sub.queue.cutting b.is_drawn (omega arith), tt)))

-- the spans that were never taken stay
cut_stays : (batch front timeout clock : ℕ) (rank : Held → Rank) (c : Rank) (a : ℕ) → 1 ≤ batch
    → map (expired_held timeout clock rank) (ranked c (cut_spans batch a front))
    ≡ ranked c (cut_spans batch a front)
cut_stays batch front timeout clock rank c a one =
    cut_induction batch front (λ a spans. map (expired_held timeout clock rank) (ranked c spans) ≡ ranked c spans)
    one (λ a h. refl)
    (λ a h rest. ap (λ (l : List Held). with_birth c (fresh a (cut_ends batch a front)) ∷ l) rest) (suc front - a) a
    (omega arith)

-- so all spans of a queue become what those that were taken before do
queue_turns : (batch front timeout clock : ℕ) (rank : Held → Rank) (sub : Sub) → 1 ≤ batch
    → queue_held batch front (record sub.queue { held = map (expired_held timeout clock rank) sub.queue.held })
    ≡ map (expired_held timeout clock rank) (queue_held batch front sub.queue)
queue_turns batch front timeout clock rank sub one =
    sym (map-append (expired_held timeout clock rank) sub.queue.held
    (ranked sub.queue.cutting (cut_spans batch sub.queue.next front))
    ∙ ap (λ l. map (expired_held timeout clock rank) sub.queue.held ++ l)
    (cut_stays batch front timeout clock rank sub.queue.cutting sub.queue.next one))

sub_parts : (batch front turn number : ℕ) (D : ℕ → Type 0) (due : ℕ × ℕ → Bool) (timeout clock s : ℕ) (tk : ℕ → Rank)
    (sub : Sub) → 1 ≤ batch → Rising front turn D tk → Belongs front turn number sub
    → AllNumbered D timeout clock sub
    → (sub.closed ≡ false → AllByRecursion (ExpireReports due timeout clock s) (queue_held batch front sub.queue))
    → ExpireOrderParts D due (next_turn front turn) tk
    (filter_map (ready_at s) (sub_held batch front (expired_sub timeout clock (by_number tk) sub)))
    (filter_map (ready_at s) (sub_held batch front sub)) (filter_map (out_at s) (sub_held batch front sub))
sub_parts batch front turn number D due timeout clock s tk sub one r b num tells = by sub.closed tells
  where
    by : (c : Bool) → (c ≡ false → AllByRecursion (ExpireReports due timeout clock s) (queue_held batch front sub.queue))
        → ExpireOrderParts D due (next_turn front turn) tk
        (filter_map (ready_at s)
        (cond c [] (queue_held batch front (record sub.queue {
          held = cond c sub.queue.held (map (expired_held timeout clock (by_number tk)) sub.queue.held);
        }))))
        (filter_map (ready_at s) (cond c [] (queue_held batch front sub.queue)))
        (filter_map (out_at s) (cond c [] (queue_held batch front sub.queue)))
    by true tells = record { early = refl; late = refl; plain = tt }
    by false tells =
        subst (λ (l : List Held). ExpireOrderParts D due (next_turn front turn) tk (filter_map (ready_at s) l)
        (filter_map (ready_at s) (queue_held batch front sub.queue))
        (filter_map (out_at s) (queue_held batch front sub.queue)))
        (sym (queue_turns batch front timeout clock (by_number tk) sub one))
        (queue_parts front turn D due timeout clock s tk r (queue_held batch front sub.queue)
        (all_then (λ h. Drawn front turn D timeout clock h × ExpireReports due timeout clock s h)
        (Timed front turn D due timeout clock s) (queue_held batch front sub.queue) (λ h k. (k.0.0, k.1, k.0.1))
        (all_zip (Drawn front turn D timeout clock) (ExpireReports due timeout clock s) (queue_held batch front sub.queue)
        (queue_drawn batch front turn number D timeout clock sub one b num) (tells refl))))

-- ---- all subscriptions

pub subs_parts : (batch front turn number : ℕ) (D : ℕ → Type 0) (due : ℕ × ℕ → Bool) (timeout clock s : ℕ)
    (tk : ℕ → Rank) (subs : List Sub) → 1 ≤ batch → Rising front turn D tk
    → AllByRecursion (Belongs front turn number) subs → AllByRecursion (AllNumbered D timeout clock) subs
    → ((k i : ℕ) (sub : Sub) → k ≡ s + i → slice_get subs i ≡ Some sub → sub.closed ≡ false
    → AllByRecursion (ExpireReports due timeout clock k) (queue_held batch front sub.queue))
    → ExpireOrderParts D due (next_turn front turn) tk
    (all_at ready_at s (map (sub_held batch front) (map (expired_sub timeout clock (by_number tk)) subs)))
    (all_at ready_at s (map (sub_held batch front) subs)) (all_at out_at s (map (sub_held batch front) subs))
subs_parts batch front turn number D due timeout clock s tk [] one r b num tell =
    record { early = refl; late = refl; plain = tt }
subs_parts batch front turn number D due timeout clock s tk (sub ∷ subs) one r b num tell =
    parts_both D due (next_turn front turn) tk _ _ _ _ _ _
    (sub_parts batch front turn number D due timeout clock s tk sub one r b.0 num.0
    (tell s 0 sub (omega arith) refl))
    (subs_parts batch front turn number D due timeout clock (suc s) tk subs one r b.1 num.1
    (λ k i other is found. tell k (suc i) other (omega (arith, is)) found))

-- ---- how many are due

-- as many entries of a queue are due as spans
queue_due : (due : ℕ × ℕ → Bool) (timeout clock s : ℕ) (queue : List Held)
    → AllByRecursion (ExpireReports due timeout clock s) queue
    → length (filter (λ e. due e.1) (filter_map (out_at s) queue))
    ≡ length (filter (λ h. is_due timeout clock h.span.status) queue)
queue_due due timeout clock s [] tells = refl
queue_due due timeout clock s (h ∷ queue) tells = one h.span.status tells.0 (queue_due due timeout clock s queue tells.1)
  where
    one : (status : Status) → due (s, h.span.first) ≡ is_due timeout clock status
        → length (filter (λ e. due e.1) (filter_map (out_at s) queue))
        ≡ length (filter (λ h. is_due timeout clock h.span.status) queue)
        → length (filter (λ e. due e.1)
        (cons_option (out_at_status s h.span.first status) (filter_map (out_at s) queue)))
        ≡ length (cond (is_due timeout clock status) (h ∷ filter (λ h. is_due timeout clock h.span.status) queue)
        (filter (λ h. is_due timeout clock h.span.status) queue))
    one (Ready taken) tell rest = rest
    one (InFlight number moment) tell rest = by (nat_le timeout (clock - moment)) tell
      where
        by : (t : Bool) → due (s, h.span.first) ≡ t
            → length (filter (λ e. due e.1)
            ((record { front = number; turn = 0 }, (s, h.span.first)) ∷ filter_map (out_at s) queue))
            ≡ length (cond t (h ∷ filter (λ h. is_due timeout clock h.span.status) queue)
            (filter (λ h. is_due timeout clock h.span.status) queue))
        by true is = rw is (ap suc rest)
        by false is = rw is rest

sub_due : (batch front : ℕ) (due : ℕ × ℕ → Bool) (timeout clock s : ℕ) (sub : Sub) → 1 ≤ batch
    → (sub.closed ≡ false → AllByRecursion (ExpireReports due timeout clock s) (queue_held batch front sub.queue))
    → length (filter (λ e. due e.1) (filter_map (out_at s) (sub_held batch front sub))) ≡ due_in timeout clock sub
sub_due batch front due timeout clock s sub one tells = by sub.closed tells
  where
    by : (c : Bool) → (c ≡ false → AllByRecursion (ExpireReports due timeout clock s) (queue_held batch front sub.queue))
        → length (filter (λ e. due e.1) (filter_map (out_at s) (cond c [] (queue_held batch front sub.queue))))
        ≡ cond c 0 (length (filter (λ h. is_due timeout clock h.span.status) sub.queue.held))
    by true tells = refl
    by false tells =
        ap (λ l. length (filter (λ e. due e.1) l)) (queue_out batch front s sub.queue one)
        ∙ queue_due due timeout clock s sub.queue.held
        (all_first (ExpireReports due timeout clock s) sub.queue.held _ (tells refl))

pub subs_due : (batch front : ℕ) (due : ℕ × ℕ → Bool) (timeout clock s : ℕ) (subs : List Sub) → 1 ≤ batch
    → ((k i : ℕ) (sub : Sub) → k ≡ s + i → slice_get subs i ≡ Some sub → sub.closed ≡ false
    → AllByRecursion (ExpireReports due timeout clock k) (queue_held batch front sub.queue))
    → length (filter (λ e. due e.1) (all_at out_at s (map (sub_held batch front) subs))) ≡ all_due timeout clock subs
subs_due batch front due timeout clock s [] one tell = refl
subs_due batch front due timeout clock s (sub ∷ subs) one tell =
    ap length (filter-append (λ e. due e.1) (filter_map (out_at s) (sub_held batch front sub))
    (all_at out_at (suc s) (map (sub_held batch front) subs)))
    ∙ length-append (filter (λ e. due e.1) (filter_map (out_at s) (sub_held batch front sub)))
    (filter (λ e. due e.1) (all_at out_at (suc s) (map (sub_held batch front) subs)))
    ∙ (λ i. sub_due batch front due timeout clock s sub one (tell s 0 sub (omega arith) refl) i
    + subs_due batch front due timeout clock (suc s) subs one
    (λ k j other is found. tell k (suc j) other (omega (arith, is)) found) i)
