-- The order of the spans of all subscriptions: how a change to one queue, or to each, changes it.
use Rattle.std.proofs.Common.{◌≡◌, ℕ, zero, suc, ◌+◌, ◌-◌, ◌≤◌, ne_eqb, eq-eqb, Bool, true, false, not, ◌==◌, ◌&&◌}
use Rattle.std.proofs.Common.{cond, List, [], ◌∷◌, ◌++◌, length, map, Option, Some, None, IfSome, filter, filter_map}
use Rattle.std.proofs.Common.{slice_get, slice_set, append_assoc, append-nil, refl, sym, ap, ◌∙◌, subst, arith}
use Rattle.std.specs.Prelude.{⊤}
use Rattle.std.specs.List.{AllByRecursion, cons_option}
use Rattle.std.proofs.lemmas.List.Elements.{filter-append, filter_map-append}
use Rattle.std.proofs.lemmas.Option.{slice_get_within}
use Rattle.rb_deliveries.specs.declared.rank.Rank.{Rank}
use Rattle.rb_deliveries.specs.declared.rank.Held.{Held}
use Rattle.rb_deliveries.specs.declared.span.Status.{Status}
use Rattle.rb_deliveries.specs.declared.span.Status.TheVariants.{Ready, InFlight}
use Rattle.rb_deliveries.specs.Spans.{cut_spans, is_ready}
use Rattle.rb_deliveries.specs.Queues.{Queue, ranked, queue_held, earlier}
use Rattle.rb_deliveries.specs.Orders.{in_line, ready_at, out_at, out_at_status, all_at, order}
use Rattle.rb_deliveries.proofs.spans.CutLaws.{cut_induction}
use Rattle.rb_deliveries.proofs.orders.Line.{all_both, all_first, all_second, all_then, filter_all, filter_none, Before}
use Rattle.rb_deliveries.proofs.orders.Line.{line_filter, line_more, line_appends}

-- what stands in an order, by a function that says where a span of a subscription stands
abbrev pub At : Type 0
At = ℕ → Held → Option (Rank × (ℕ × ℕ))

-- entries of an order, with their ranks
abbrev pub OrderEntries : Type 0
OrderEntries = List (Rank × (ℕ × ℕ))

-- each span stands there under its subscription and its first number
abbrev pub Tagged : At → Type 0
Tagged at = (s : ℕ) (h : Held) → IfSome (at s h) (λ e. e.1 ≡ (s, h.span.first))

-- whether an entry is that of a subscription's span
abbrev pub is_at : ℕ → ℕ → ℕ × ℕ → Bool
is_at s first x = (x.0 == s) && (x.1 == first)

-- those of the ready order do
pub tagged_ready : Tagged ready_at
tagged_ready s h = by (is_ready h.span.status)
  where
    by : (b : Bool) → IfSome {T = Rank × (ℕ × ℕ)} (cond b (Some (h.rank, (s, h.span.first))) None)
        (λ e. e.1 ≡ (s, h.span.first))
    by true = refl
    by false = tt

-- and those of the in-flight order
pub tagged_out : Tagged out_at
tagged_out s h = by h.span.status
  where
    by : (status : Status) → IfSome (out_at_status s h.span.first status) (λ e. e.1 ≡ (s, h.span.first))
    by (Ready taken) = tt
    by (InFlight number moment) = refl

-- ---- lists

-- the second parts of what is left
pub seen_filter : (q : ℕ × ℕ → Bool) (es : OrderEntries) → map (λ e. e.1) (filter (λ e. q e.1) es)
    ≡ filter q (map (λ e. e.1) es)
seen_filter q [] = refl
seen_filter q (e ∷ es) = by (q e.1) (seen_filter q es)
  where
    by : (b : Bool) → map (λ e. e.1) (filter (λ e. q e.1) es) ≡ filter q (map (λ e. e.1) es)
        → map (λ e. e.1) (cond b (e ∷ filter (λ e. q e.1) es) (filter (λ e. q e.1) es))
        ≡ cond b (e.1 ∷ filter q (map (λ e. e.1) es)) (filter q (map (λ e. e.1) es))
    by true rest = ap (λ (l : List (ℕ × ℕ)). e.1 ∷ l) rest
    by false rest = rest

-- the second parts of what was added
seen_more : (t : Rank) (es : OrderEntries) (new : List (ℕ × ℕ)) → map (λ e. e.1) (es ++ map (λ x. (t, x)) new)
    ≡ map (λ e. e.1) es ++ new
seen_more t [] [] = refl
seen_more t [] (x ∷ new) = ap (λ (l : List (ℕ × ℕ)). x ∷ l) (seen_more t [] new)
seen_more t (e ∷ es) new = ap (λ (l : List (ℕ × ℕ)). e.1 ∷ l) (seen_more t es new)

-- what is left of what stands in line
order_filter : (q : ℕ × ℕ → Bool) (es : OrderEntries) → map (λ e. e.1) (in_line (filter (λ e. q e.1) es))
    ≡ filter q (map (λ e. e.1) (in_line es))
order_filter q es = ap (map (λ e. e.1)) (sym (line_filter (λ e. q e.1) es)) ∙ seen_filter q (in_line es)

-- ---- one queue among the others

-- the entries of a queue are under its number
queue_own : (at : At) (s : ℕ) → Tagged at → (queue : List Held) → AllByRecursion (λ e. e.1.0 ≡ s) (filter_map (at s) queue)
queue_own at s tagged [] = tt
queue_own at s tagged (h ∷ queue) = by (at s h) (tagged s h) (queue_own at s tagged queue)
  where
    by : (o : Option (Rank × (ℕ × ℕ))) → IfSome o (λ e. e.1 ≡ (s, h.span.first))
        → AllByRecursion (λ e. e.1.0 ≡ s) (filter_map (at s) queue)
        → AllByRecursion (λ e. e.1.0 ≡ s) (cons_option o (filter_map (at s) queue))
    by None is rest = rest
    by (Some e) is rest = (ap (λ x. x.0) is, rest)

-- what stands ahead of a queue's entries and behind them, whatever the queue is; under other numbers than the queue's
pub record Around (at : At) (n k : ℕ) (queues : List (List Held)) (s : ℕ) (queue : List Held) : Type 0 where
  pub ahead : OrderEntries
  pub behind : OrderEntries
  pub whole : all_at at n queues ≡ ahead ++ (filter_map (at k) queue ++ behind)
  pub changed : (new : List Held) → all_at at n (slice_set queues s new) ≡ ahead ++ (filter_map (at k) new ++ behind)
  pub others : Tagged at → AllByRecursion (λ e. (e.1.0 == k) ≡ false) ahead
      × AllByRecursion (λ e. (e.1.0 == k) ≡ false) behind

-- the entries of all subscriptions from a number on are under such numbers
all_from : (at : At) (n : ℕ) (queues : List (List Held)) → Tagged at
    → AllByRecursion (λ e. n ≤ e.1.0) (all_at at n queues)
all_from at n [] tagged = tt
all_from at n (queue ∷ queues) tagged =
    all_both (λ e. n ≤ e.1.0) (filter_map (at n) queue) (all_at at (suc n) queues)
    (all_then (λ e. e.1.0 ≡ n) (λ e. n ≤ e.1.0) (filter_map (at n) queue) (λ e is. omega (arith, is))
    (queue_own at n tagged queue))
    (all_then (λ e. suc n ≤ e.1.0) (λ e. n ≤ e.1.0) (all_at at (suc n) queues) (λ e low. omega (arith, low))
    (all_from at (suc n) queues tagged))

-- each queue that there is has the others around it, where the first queue's number is n
around_from : (at : At) (n k : ℕ) (queues : List (List Held)) (s : ℕ) (queue : List Held) → k ≡ n + s → slice_get queues s
    ≡ Some queue → Around at n k queues s queue
around_from at n k [] s queue is found = absurd (omega (arith, slice_get_within [] s queue found))
around_from at n k (l ∷ queues) zero queue is found =
    let here : n ≡ k = omega (arith, is) in
    let same : l ≡ queue = cc in
    record {
      ahead = [];
      behind = all_at at (suc n) queues;
      whole = λ i. filter_map (at (here i)) (same i) ++ all_at at (suc n) queues;
      changed = λ new i. filter_map (at (here i)) new ++ all_at at (suc n) queues;
      others = λ tagged. (
        tt,
        all_then (λ e. suc n ≤ e.1.0) (λ e. (e.1.0 == k) ≡ false) (all_at at (suc n) queues)
            (λ e low. ne_eqb e.1.0 k (omega (arith, low, here))) (all_from at (suc n) queues tagged),
      );
    }
around_from at n k (l ∷ queues) (suc s) queue is found =
    let a = around_from at (suc n) k queues s queue (omega (arith, is)) found in
    let own : List (Rank × (ℕ × ℕ)) = filter_map (at n) l in
    record {
      ahead = own ++ a.ahead;
      behind = a.behind;
      whole = ap (λ z. own ++ z) a.whole ∙ sym (append_assoc own a.ahead (filter_map (at k) queue ++ a.behind));
      changed = λ new. ap (λ z. own ++ z) (a.changed new)
          ∙ sym (append_assoc own a.ahead (filter_map (at k) new ++ a.behind));
      others = λ tagged. (
        all_both (λ e. (e.1.0 == k) ≡ false) own a.ahead
            (all_then (λ e. e.1.0 ≡ n) (λ e. (e.1.0 == k) ≡ false) own
            (λ e here. ne_eqb e.1.0 k (omega (arith, here, is))) (queue_own at n tagged l)) (a.others tagged).0,
        (a.others tagged).1,
      );
    }

-- and where it is 0
pub around : (at : At) (queues : List (List Held)) (s : ℕ) (queue : List Held) → slice_get queues s ≡ Some queue
    → Around at 0 s queues s queue
around at queues s queue found = around_from at 0 s queues s queue (omega arith) found

-- ---- a change of one queue

-- a queue that has the same entries
pub order_same : (at : At) (queues : List (List Held)) (s : ℕ) (queue queue' : List Held) → slice_get queues s ≡ Some queue
    → filter_map (at s) queue' ≡ filter_map (at s) queue
    → order at (slice_set queues s queue') ≡ order at queues
order_same at queues s queue queue' found same =
    let a = around at queues s queue found in
    ap (λ z. map (λ e. e.1) (in_line z)) (a.changed queue' ∙ ap (λ z. a.ahead ++ (z ++ a.behind)) same ∙ sym a.whole)

-- a queue that has those of its entries that pass a test, where those of all other queues do
pub order_left : (at : At) (q : ℕ × ℕ → Bool) (queues : List (List Held)) (s : ℕ) (queue queue' : List Held) → Tagged at
    → slice_get queues s ≡ Some queue → ((x : ℕ × ℕ) → (x.0 == s) ≡ false → q x ≡ true)
    → filter_map (at s) queue' ≡ filter (λ e. q e.1) (filter_map (at s) queue) → order at (slice_set queues s queue')
    ≡ filter q (order at queues)
order_left at q queues s queue queue' tagged found other left =
    let a = around at queues s queue found in
    let own : OrderEntries = filter_map (at s) queue in
    let keep : OrderEntries → OrderEntries = filter (λ e. q e.1) in
    let all_kept : (es : OrderEntries) → AllByRecursion (λ e. (e.1.0 == s) ≡ false) es → keep es ≡ es =
    λ es h. filter_all (λ e. q e.1) es
    (all_then (λ e. (e.1.0 == s) ≡ false) (λ e. q e.1 ≡ true) es (λ e. other e.1) h) in
    let parts : keep (a.ahead ++ (own ++ a.behind)) ≡ a.ahead ++ (keep own ++ a.behind) =
    filter-append (λ e. q e.1) a.ahead (own ++ a.behind)
    ∙ (λ i. all_kept a.ahead (a.others tagged).0 i ++ filter-append (λ e. q e.1) own a.behind i)
    ∙ ap (λ z. a.ahead ++ (keep own ++ z)) (all_kept a.behind (a.others tagged).1) in
    ap (λ z. map (λ e. e.1) (in_line z))
    (a.changed queue' ∙ ap (λ z. a.ahead ++ (z ++ a.behind)) left ∙ sym parts ∙ ap keep (sym a.whole))
    ∙ order_filter q (all_at at 0 queues)

-- a queue without one span
pub order_without : (at : At) (queues : List (List Held)) (s first : ℕ) (queue queue' : List Held) → Tagged at
    → slice_get queues s ≡ Some queue
    → filter_map (at s) queue' ≡ filter (λ e. not (is_at s first e.1)) (filter_map (at s) queue)
    → order at (slice_set queues s queue') ≡ filter (λ x. not (is_at s first x)) (order at queues)
order_without at queues s first queue queue' tagged found left =
    order_left at (λ x. not (is_at s first x)) queues s queue queue' tagged found (λ x other. rw other refl) left

-- an empty queue
pub order_cleared : (at : At) (queues : List (List Held)) (s : ℕ) (queue : List Held) → Tagged at → slice_get queues s
    ≡ Some queue → order at (slice_set queues s []) ≡ filter (λ x. not (x.0 == s)) (order at queues)
order_cleared at queues s queue tagged found =
    order_left at (λ x. not (x.0 == s)) queues s queue [] tagged found (λ x other. rw other refl)
    (sym (filter_none (λ e. not (e.1.0 == s)) (filter_map (at s) queue)
    (all_then (λ e. e.1.0 ≡ s) (λ e. not (e.1.0 == s) ≡ false) (filter_map (at s) queue)
    (λ e own. ap not (eq-eqb e.1.0 s own)) (queue_own at s tagged queue))))

-- a queue with more entries of one later rank
pub order_with : (at : At) (t : Rank) (queues : List (List Held)) (s : ℕ) (queue queue' : List Held)
    (a b : List (Rank × (ℕ × ℕ))) (new : List (ℕ × ℕ)) → slice_get queues s ≡ Some queue → filter_map (at s) queue ≡ a
    ++ b
    → filter_map (at s) queue' ≡ a ++ map (λ x. (t, x)) new ++ b
    → AllByRecursion (λ e. earlier e.0 t ≡ true) (all_at at 0 queues) → order at (slice_set queues s queue')
    ≡ order at queues ++ new
order_with at t queues s queue queue' a b new found own more before =
    let r = around at queues s queue found in
    let added : OrderEntries = map (λ x. (t, x)) new in
    let old : all_at at 0 queues ≡ (r.ahead ++ a) ++ (b ++ r.behind) = r.whole ∙ ap (λ z. r.ahead ++ (z ++ r.behind)) own
    ∙ simp append_assoc refl in
    let now : all_at at 0 (slice_set queues s queue') ≡ (r.ahead ++ a) ++ added ++ (b ++ r.behind) =
    r.changed queue' ∙ ap (λ z. r.ahead ++ (z ++ r.behind)) more ∙ simp append_assoc refl in
    ap (λ z. map (λ e. e.1) (in_line z)) now
    ∙ ap (map (λ e. e.1)) (line_appends t (r.ahead ++ a) (b ++ r.behind) new (subst (Before t) old before))
    ∙ seen_more t (in_line ((r.ahead ++ a) ++ (b ++ r.behind))) new
    ∙ ap (λ z. map (λ e. e.1) (in_line z) ++ new) (sym old)

-- a queue that has entries of one later rank in the place of all it had
pub order_replaced : (at : At) (t : Rank) (queues : List (List Held)) (s : ℕ) (queue queue' : List Held)
    (new : List (ℕ × ℕ)) → slice_get queues s ≡ Some queue → Tagged at → filter_map (at s) queue' ≡ map (λ x. (t, x)) new
    → AllByRecursion (λ e. earlier e.0 t ≡ true) (all_at at 0 queues) → order at (slice_set queues s queue')
    ≡ filter (λ x. not (x.0 == s)) (order at queues) ++ new
order_replaced at t queues s queue queue' new found tagged more before =
    let r = around at queues s queue found in
    let own : OrderEntries = filter_map (at s) queue in
    let parts : Before t (r.ahead ++ (own ++ r.behind)) = subst (Before t) r.whole before in
    let first : Before t r.ahead = all_first (λ e. earlier e.0 t ≡ true) r.ahead (own ++ r.behind) parts in
    let last : Before t r.behind =
    all_second (λ e. earlier e.0 t ≡ true) own r.behind
    (all_second (λ e. earlier e.0 t ≡ true) r.ahead (own ++ r.behind) parts) in
    ap (λ z. map (λ e. e.1) (in_line z))
    (r.changed queue' ∙ ap (λ z. r.ahead ++ (z ++ r.behind)) more
    ∙ sym (append_assoc r.ahead (map (λ x. (t, x)) new) r.behind))
    ∙ ap (map (λ e. e.1)) (line_appends t r.ahead r.behind new
    (all_both (λ e. earlier e.0 t ≡ true) r.ahead r.behind first last))
    ∙ seen_more t (in_line (r.ahead ++ r.behind)) new
    ∙ ap (λ z. z ++ new) (ap (λ z. map (λ e. e.1) (in_line z)) (sym (r.changed []))
    ∙ order_cleared at queues s queue tagged found)

-- ---- one queue more

-- the entries of a queue behind all stand behind all
all_pushed : (at : At) (n k : ℕ) (queues : List (List Held)) (queue : List Held) → k ≡ n + length queues
    → all_at at n (queues ++ queue ∷ []) ≡ all_at at n queues ++ filter_map (at k) queue
all_pushed at n k [] queue is = let here : n ≡ k = omega (arith, is) in append-nil (filter_map (at n) queue)
    ∙ ap (λ m. filter_map (at m) queue) here
all_pushed at n k (l ∷ queues) queue is =
    ap (λ z. filter_map (at n) l ++ z) (all_pushed at (suc n) k queues queue (omega (arith, is)))
    ∙ sym (append_assoc (filter_map (at n) l) (all_at at (suc n) queues) (filter_map (at k) queue))

-- a queue behind all, with entries of one later rank
pub order_pushed : (at : At) (t : Rank) (queues : List (List Held)) (queue : List Held) (new : List (ℕ × ℕ))
    → filter_map (at (length queues)) queue ≡ map (λ x. (t, x)) new
    → AllByRecursion (λ e. earlier e.0 t ≡ true) (all_at at 0 queues) → order at (queues ++ queue ∷ []) ≡ order at queues
    ++ new
order_pushed at t queues queue new more before =
    let all : OrderEntries = all_at at 0 queues in
    let added : OrderEntries = map (λ x. (t, x)) new in
    ap (λ z. map (λ e. e.1) (in_line z))
    (all_pushed at 0 (length queues) queues queue (omega arith) ∙ ap (λ z. all ++ z) more
    ∙ sym (append-nil (all ++ added)))
    ∙ ap (map (λ e. e.1)) (line_appends t all [] new (subst (Before t) (sym (append-nil all)) before)
    ∙ ap (λ z. in_line z ++ added) (append-nil all)) ∙ seen_more t (in_line all) new

-- ---- a change of each queue

-- each queue has more entries of the rank t, at its end; new are those of all queues in a row
abbrev pub OrderGrows : At → Rank → ℕ → List (List Held) → List (List Held) → List (ℕ × ℕ) → Type 0
OrderGrows at t s [] [] new = new ≡ []
OrderGrows at t s [] (queue' ∷ queues') new = ⊥
OrderGrows at t s (queue ∷ queues) [] new = ⊥
OrderGrows at t s (queue ∷ queues) (queue' ∷ queues') new =
    (now : List (ℕ × ℕ)) × (later : List (ℕ × ℕ))
    × (filter_map (at s) queue' ≡ filter_map (at s) queue ++ map (λ x. (t, x)) now) × (new ≡ now ++ later)
    × OrderGrows at t (suc s) queues queues' later

-- so the line has them at its end, with their ranks
grown_line : (at : At) (t : Rank) (s : ℕ) (queues queues' : List (List Held)) (new : List (ℕ × ℕ))
    → OrderGrows at t s queues queues' new → Before t (all_at at s queues)
    → in_line (all_at at s queues') ≡ in_line (all_at at s queues) ++ map (λ x. (t, x)) new
grown_line at t s [] [] new grows before = sym (ap (map (λ x. (t, x))) grows)
grown_line at t s [] (queue' ∷ queues') new grows before = absurd grows
grown_line at t s (queue ∷ queues) [] new grows before = absurd grows
grown_line at t s (queue ∷ queues) (queue' ∷ queues') new grows before =
    let own : OrderEntries = filter_map (at s) queue in
    let rest : OrderEntries = all_at at (suc s) queues in
    let first : Before t own = all_first (λ e. earlier e.0 t ≡ true) own rest before in
    let last : Before t rest = all_second (λ e. earlier e.0 t ≡ true) own rest before in
    ap in_line (ap (λ z. z ++ all_at at (suc s) queues') grows.2
    ∙ append_assoc own (map (λ x. (t, x)) grows.0) (all_at at (suc s) queues'))
    ∙ line_more t own rest (all_at at (suc s) queues') grows.0 grows.1 first last
    (grown_line at t (suc s) queues queues' grows.1 grows.4 last)
    ∙ ap (λ z. in_line (own ++ rest) ++ map (λ x. (t, x)) z) (sym grows.3)

-- the entries of one later rank that queues have more stand at the end of the order, those of the first queue first
pub order_grown : (at : At) (t : Rank) (queues queues' : List (List Held)) (new : List (ℕ × ℕ))
    → OrderGrows at t 0 queues queues' new → AllByRecursion (λ e. earlier e.0 t ≡ true) (all_at at 0 queues)
    → order at queues' ≡ order at queues ++ new
order_grown at t queues queues' new grows before = ap (map (λ e. e.1)) (grown_line at t 0 queues queues' new grows before)
    ∙ seen_more t (in_line (all_at at 0 queues)) new

-- each queue has those of its entries that aren't due
abbrev pub Leaves : At → (ℕ × ℕ → Bool) → ℕ → List (List Held) → List (List Held) → Type 0
Leaves at due s [] [] = ⊤
Leaves at due s [] (queue' ∷ queues') = ⊥
Leaves at due s (queue ∷ queues) [] = ⊥
Leaves at due s (queue ∷ queues) (queue' ∷ queues') =
    (filter_map (at s) queue' ≡ filter (λ e. not (due e.1)) (filter_map (at s) queue))
    × Leaves at due (suc s) queues queues'

-- so of all entries those are left
left_all : (at : At) (due : ℕ × ℕ → Bool) (s : ℕ) (queues queues' : List (List Held)) → Leaves at due s queues queues'
    → all_at at s queues' ≡ filter (λ e. not (due e.1)) (all_at at s queues)
left_all at due s [] [] leaves = refl
left_all at due s [] (queue' ∷ queues') leaves = absurd leaves
left_all at due s (queue ∷ queues) [] leaves = absurd leaves
left_all at due s (queue ∷ queues) (queue' ∷ queues') leaves =
    (λ i. leaves.0 i ++ left_all at due (suc s) queues queues' leaves.1 i)
    ∙ sym (filter-append (λ e. not (due e.1)) (filter_map (at s) queue) (all_at at (suc s) queues))

-- what is left of all queues stands in the order that it stood in
pub expired_order : (at : At) (due : ℕ × ℕ → Bool) (queues queues' : List (List Held)) → Leaves at due 0 queues queues'
    → order at queues' ≡ filter (λ x. not (due x)) (order at queues)
expired_order at due queues queues' leaves = ap (λ z. map (λ e. e.1) (in_line z)) (left_all at due 0 queues queues' leaves)
    ∙ order_filter (λ x. not (due x)) (all_at at 0 queues)

-- ---- what holds of all entries

-- the entries of one queue are earlier than the rank t, where each span's are
queue_earlier : (at : At) (t : Rank) (s : ℕ) (queue : List Held)
    → AllByRecursion (λ h. (s : ℕ) → IfSome (at s h) (λ e. earlier e.0 t ≡ true)) queue
    → Before t (filter_map (at s) queue)
queue_earlier at t s [] h = tt
queue_earlier at t s (x ∷ queue) h = by (at s x) (h.0 s) (queue_earlier at t s queue h.1)
  where
    by : (o : Option (Rank × (ℕ × ℕ))) → IfSome o (λ e. earlier e.0 t ≡ true) → Before t (filter_map (at s) queue)
        → Before t (cons_option o (filter_map (at s) queue))
    by None is rest = rest
    by (Some e) is rest = (is, rest)

-- and those of all queues from number n on
pub earlier_from : (at : At) (t : Rank) (n : ℕ) (queues : List (List Held))
    → AllByRecursion (λ queue. AllByRecursion (λ h. (s : ℕ) → IfSome (at s h) (λ e. earlier e.0 t ≡ true)) queue) queues
    → AllByRecursion (λ e. earlier e.0 t ≡ true) (all_at at n queues)
earlier_from at t n [] h = tt
earlier_from at t n (queue ∷ queues) h =
    all_both (λ e. earlier e.0 t ≡ true) (filter_map (at n) queue) (all_at at (suc n) queues)
    (queue_earlier at t n queue h.0) (earlier_from at t (suc n) queues h.1)

-- and those of all queues
pub all_earlier : (at : At) (t : Rank) (queues : List (List Held))
    → AllByRecursion (λ queue. AllByRecursion (λ h. (s : ℕ) → IfSome (at s h) (λ e. earlier e.0 t ≡ true)) queue) queues
    → AllByRecursion (λ e. earlier e.0 t ≡ true) (all_at at 0 queues)
all_earlier at t queues h = earlier_from at t 0 queues h

-- ---- what is out of a queue

-- no span of a cutting is out
pub cut_out : (batch front a s : ℕ) (t : Rank) → 1 ≤ batch
    → filter_map (out_at s) (ranked t (cut_spans batch a front)) ≡ []
cut_out batch front a s t one = cut_induction batch front (λ a spans. filter_map (out_at s) (ranked t spans) ≡ []) one
    (λ a h. refl) (λ a h rest. rest) (suc front - a) a (omega arith)

-- a queue has only spans out that were taken before
pub queue_out : (batch front s : ℕ) (kept : Queue) → 1 ≤ batch → filter_map (out_at s) (queue_held batch front kept)
    ≡ filter_map (out_at s) kept.held
queue_out batch front s kept one =
    filter_map-append (out_at s) kept.held _
    ∙ ap (λ l. filter_map (out_at s) kept.held ++ l) (cut_out batch front kept.next s kept.cutting one)
    ∙ append-nil _
