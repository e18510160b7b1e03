-- The ready order after a span is opened: its numbers are at the end, by rising number, since their ranks come after
-- all others.
use Rattle.std.proofs.Common.{◌≡◌, ℕ, zero, suc, ◌+◌, ◌≤◌, true, false, List, [], ◌∷◌, ◌++◌, map, Some, filter_map}
use Rattle.std.proofs.Common.{slice_get, slice_set, append_assoc, append-nil, refl, sym, ap, ◌∙◌, subst, arith}
use Rattle.std.specs.List.{AllByRecursion}
use Rattle.std.proofs.lemmas.List.{map-append}
use Rattle.rb_deliveries.specs.declared.rank.Rank.{Rank}
use Rattle.rb_deliveries.specs.declared.rank.Held.{Held}
use Rattle.rb_deliveries.specs.Spans.{singles}
use Rattle.rb_deliveries.specs.Queues.{earlier}
use Rattle.rb_deliveries.specs.Opening.{singles_held, rank_after}
use Rattle.rb_deliveries.specs.Orders.{placed_in, in_line, ready_at, all_at, order}
use Rattle.rb_deliveries.proofs.orders.Line.{Before, LineBehind, Rises, all_first, all_line, all_second, all_then}
use Rattle.rb_deliveries.proofs.orders.Line.{earlier_asymmetric, placed_behind, placed_first}
use Rattle.rb_deliveries.proofs.orders.OrderLaws.{At, OrderEntries, around}
use Rattle.rb_deliveries.proofs.orders.ExpireLines.{parted}

-- ---- lines

-- things whose ranks rise, none of them earlier than t, stand behind the line of others that are earlier
line_gains : (t : Rank) (xs es ys : OrderEntries) → Before t xs → Before t ys → LineBehind t es → Rises es
    → in_line (xs ++ (es ++ ys)) ≡ in_line (xs ++ ys) ++ es
line_gains t [] [] ys early last late rises = sym (append-nil (in_line ys))
line_gains t [] (e ∷ es) ys early last late rises =
    ap (placed_in e) (line_gains t [] es ys tt last late.1 rises.1)
    ∙ placed_behind e (in_line ys) es
    (all_line (λ f. earlier f.0 e.0 ≡ true) ys
    (all_then (λ f. earlier f.0 t ≡ true) (λ f. earlier f.0 e.0 ≡ true) ys
    (λ f before. parted f.0 e.0 t before late.0) last))
    ∙ ap (λ (l : OrderEntries). in_line ys ++ l) (placed_first e [] es rises.0)
line_gains t (f ∷ xs) es ys early last late rises =
    ap (placed_in f) (line_gains t xs es ys early.1 last late rises)
    ∙ placed_first f (in_line (xs ++ ys)) es
    (all_then (λ e. earlier e.0 t ≡ false) (λ e. earlier e.0 f.0 ≡ false) es
    (λ e behind. earlier_asymmetric f.0 e.0 (parted f.0 e.0 t early.0 behind)) late)

-- a queue with more entries, whose ranks rise after those of all others
pub order_gains : (at : At) (t : Rank) (queues : List (List Held)) (s : ℕ) (queue queue' : List Held)
    (a es b : OrderEntries) → slice_get queues s ≡ Some queue → filter_map (at s) queue ≡ a ++ b
    → filter_map (at s) queue' ≡ a ++ (es ++ b) → LineBehind t es → Rises es
    → AllByRecursion (λ e. earlier e.0 t ≡ true) (all_at at 0 queues) → order at (slice_set queues s queue')
    ≡ order at queues ++ map (λ e. e.1) es
order_gains at t queues s queue queue' a es b found own more late rises before =
    let r = around at queues s queue found in
    let old : all_at at 0 queues ≡ (r.ahead ++ a) ++ (b ++ r.behind) = r.whole ∙ ap (λ z. r.ahead ++ (z ++ r.behind)) own
    ∙ simp append_assoc refl in
    let now : all_at at 0 (slice_set queues s queue') ≡ (r.ahead ++ a) ++ (es ++ (b ++ r.behind)) =
    r.changed queue' ∙ ap (λ z. r.ahead ++ (z ++ r.behind)) more ∙ simp append_assoc refl in
    let parts : Before t ((r.ahead ++ a) ++ (b ++ r.behind)) = subst (Before t) old before in
    ap (λ z. map (λ e. e.1) (in_line z)) now
    ∙ ap (map (λ e. e.1)) (line_gains t (r.ahead ++ a) es (b ++ r.behind)
    (all_first (λ e. earlier e.0 t ≡ true) (r.ahead ++ a) (b ++ r.behind) parts)
    (all_second (λ e. earlier e.0 t ≡ true) (r.ahead ++ a) (b ++ r.behind) parts) late rises)
    ∙ map-append (λ e. e.1) (in_line ((r.ahead ++ a) ++ (b ++ r.behind))) es
    ∙ ap (λ z. map (λ e. e.1) (in_line z) ++ map (λ e. e.1) es) (sym old)

-- ---- the entries of opened numbers

abbrev pub opened_entries : ℕ → Rank → ℕ → ℕ → OrderEntries
opened_entries s latest n count = filter_map (ready_at s) (singles_held latest n count)

-- a greater number's rank is not earlier
greater_later : (latest : Rank) (n k : ℕ) → n ≤ k → earlier (rank_after latest k) (rank_after latest n) ≡ false
greater_later latest n k le = grind arith

-- they are not earlier than a rank that those of the numbers from n on are not earlier than
entries_behind : (s : ℕ) (latest t : Rank) (n count : ℕ)
    → ((k : ℕ) → n ≤ k → earlier (rank_after latest k) t ≡ false) → LineBehind t (opened_entries s latest n count)
entries_behind s latest t n zero later = tt
entries_behind s latest t n (suc count) later =
    (later n (omega arith), entries_behind s latest t (suc n) count (λ k le. later k (omega (arith, le))))

-- each comes after the one before it
pub entries_rise : (s : ℕ) (latest : Rank) (n count : ℕ) → Rises (opened_entries s latest n count)
entries_rise s latest n zero = tt
entries_rise s latest n (suc count) = (
  entries_behind s latest (rank_after latest n) (suc n) count (λ k le. greater_later latest n k (omega (arith, le))),
  entries_rise s latest (suc n) count,
)

-- all come after those that were drawn
turn_later : (front turn k : ℕ) → 1 ≤ k
    → earlier (record { front = front; turn = turn + k }) (record { front = front; turn = suc turn }) ≡ false
turn_later front turn k some = grind arith

pub entries_late : (s front turn n count : ℕ) → 1 ≤ n
    → LineBehind (record { front = front; turn = suc turn })
    (opened_entries s (record { front = front; turn = turn }) n count)
entries_late s front turn n count some =
    entries_behind s (record { front = front; turn = turn }) (record { front = front; turn = suc turn }) n count
    (λ k le. turn_later front turn k (omega (arith, le, some)))

-- they are under the numbers
pub entries_named : (s : ℕ) (latest : Rank) (n count : ℕ)
    → map (λ e. e.1) (opened_entries s latest n count) ≡ map (λ p. (s, p.first)) (singles n count)
entries_named s latest n zero = refl
entries_named s latest n (suc count) = ap (λ (l : List (ℕ × ℕ)). (s, n) ∷ l) (entries_named s latest (suc n) count)
