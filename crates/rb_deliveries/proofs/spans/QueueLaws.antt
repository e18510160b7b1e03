-- The spans of a queue: those that were taken before, then the cutting.
use Rattle.std.proofs.Common.{◌≡◌, ℕ, suc, ◌+◌, ◌-◌, ◌<◌, ◌≤◌, Bool, true, false, not, cond, List, [], ◌∷◌, ◌++◌}
use Rattle.std.proofs.Common.{◌⊎◌, inl, inr, Option, Some, None, length, option_map, map, slice_get, ◌==◌}
use Rattle.std.proofs.Common.{if◌then◌else◌, eqb-true, refl, sym, ap, ◌∙◌, arith}
use Rattle.std.specs.List.{AllByRecursion}
use Rattle.std.specs.Option.{option_or}
use Rattle.std.proofs.lemmas.Bool.{cases_lt}
use Rattle.std.proofs.lemmas.List.{map-append}
use Rattle.std.proofs.lemmas.List.Folds.{find-append}
use Rattle.rb_deliveries.specs.declared.span.Span.{Span}
use Rattle.rb_deliveries.specs.declared.span.Status.{Status}
use Rattle.rb_deliveries.specs.declared.span.Status.TheVariants.{Ready}
use Rattle.rb_deliveries.specs.declared.rank.Rank.{Rank}
use Rattle.rb_deliveries.specs.declared.rank.Held.{Held}
use Rattle.rb_deliveries.specs.Spans.{fresh, cut_spans, first_ready, floor_of, is_ready, is_due}
use Rattle.rb_deliveries.specs.Queues.{Queue, HeldRise, restated, without_held, ranked, spans_of, queue_held, queue_spans}
use Rattle.rb_deliveries.specs.Queues.{queue_floor, floor_before, delivered_queue, pushed_queue, restated_queue}
use Rattle.rb_deliveries.specs.Queues.{earlier, birth, with_birth, better, if_ready, least}
use Rattle.rb_deliveries.specs.Expiry.{expired_held}
use Rattle.rb_deliveries.proofs.spans.CutLaws.{CutIsFresh, cut_fresh, cut_ends, cut_induction, cut_none, cut_some}

spans_of_ranked : (cutting : Rank) (spans : List Span) → spans_of (ranked cutting spans) ≡ spans
spans_of_ranked cutting [] = refl
spans_of_ranked cutting (p ∷ rest) = ap (λ rest. p ∷ rest) (spans_of_ranked cutting rest)

-- a queue's spans are those that were taken before and the cutting
pub queue_spans_is : (batch front : ℕ) (kept : Queue) → queue_spans batch front kept ≡ spans_of kept.held
    ++ cut_spans batch kept.next front
queue_spans_is batch front kept =
    map-append (λ h. h.span) kept.held (ranked kept.cutting (cut_spans batch kept.next front))
    ∙ ap (λ rest. spans_of kept.held ++ rest) (spans_of_ranked kept.cutting (cut_spans batch kept.next front))

fresh_first : (spans : List Span) → AllByRecursion CutIsFresh spans → first_ready spans ≡ slice_get spans 0
fresh_first [] h = refl
fresh_first (p ∷ rest) h = ap (λ status. cond (is_ready status) (Some p) (first_ready rest)) h.0

-- the first ready span of a queue is the first that was taken before, else the first of the cutting
pub first_ready_is : (batch front : ℕ) (kept : Queue) → first_ready (queue_spans batch front kept)
    ≡ option_or (first_ready (spans_of kept.held)) (slice_get (cut_spans batch kept.next front) 0)
first_ready_is batch front kept =
    ap first_ready (queue_spans_is batch front kept) ∙ find-append (λ (p : Span). is_ready p.status) (spans_of kept.held)
    (cut_spans batch kept.next front)
    ∙ ap (λ o. option_or (first_ready (spans_of kept.held)) o) (fresh_first _ (cut_fresh batch kept.next front))

-- ---- ranks

-- a span that begins later has no earlier rank
pub birth_rises : (cutting : Rank) (a b : ℕ) → a ≤ b → earlier (birth cutting b) (birth cutting a) ≡ false
birth_rises cutting a b h = grind arith

-- the first in line of a cutting is its first span, which begins where the cutting does
abbrev pub LeadsFrom : Rank → ℕ → List Span → Type 0
LeadsFrom cutting a spans = (least (ranked cutting spans) ≡ option_map (with_birth cutting) (slice_get spans 0))
    × ((p : Span) → slice_get spans 0 ≡ Some p → p.first ≡ a)

leads_behind : (cutting : Rank) (a end : ℕ) (o : Option Span) → a ≤ end
    → ((p : Span) → o ≡ Some p → p.first ≡ suc end)
    → better (Some (with_birth cutting (fresh a end))) (option_map (with_birth cutting) o)
    ≡ Some (with_birth cutting (fresh a end))
leads_behind cutting a end None le h = refl
leads_behind cutting a end (Some p) le h =
    ap (λ t. cond t (Some (with_birth cutting p)) (Some (with_birth cutting (fresh a end))))
    (birth_rises cutting a p.first (omega (arith, h p refl)))

pub cut_leads : (batch front a : ℕ) (cutting : Rank) → 1 ≤ batch → LeadsFrom cutting a (cut_spans batch a front)
cut_leads batch front a cutting one =
    cut_induction batch front (LeadsFrom cutting) one (λ a less. (refl, λ p e. cc)) some (suc front - a) a (omega arith)
  where
    some : (a : ℕ) → a ≤ front
        → LeadsFrom cutting (suc (cut_ends batch a front)) (cut_spans batch (suc (cut_ends batch a front)) front)
        → LeadsFrom cutting a (fresh a (cut_ends batch a front) ∷ cut_spans batch (suc (cut_ends batch a front)) front)
    some a le h = (
      ap (better (Some (with_birth cutting (fresh a (cut_ends batch a front))))) h.0
          ∙ leads_behind cutting a (cut_ends batch a front) _ (omega arith) h.1,
      λ p e. cc,
    )

better_of : (a b c : Held) → better (better (Some a) (Some b)) (Some c) ≡ better (Some a) (better (Some b) (Some c))
better_of a b c = grind arith

-- the first of three is told from either side
pub better_assoc : (a b c : Option Held) → better (better a b) c ≡ better a (better b c)
better_assoc None b c = refl
better_assoc (Some a) None c = refl
better_assoc (Some a) (Some b) None = grind arith
better_assoc (Some a) (Some b) (Some c) = better_of a b c

pub least_append : (xs ys : List Held) → least (xs ++ ys) ≡ better (least xs) (least ys)
least_append [] ys = refl
least_append (x ∷ xs) ys = ap (better (if_ready x)) (least_append xs ys)
    ∙ sym (better_assoc (if_ready x) (least xs) (least ys))

-- the first in line of a queue is the first of what was taken before, or the cutting's first span
pub first_in_line_is : (batch front : ℕ) (kept : Queue) → 1 ≤ batch → least (queue_held batch front kept)
    ≡ better (least kept.held) (option_map (with_birth kept.cutting) (slice_get (cut_spans batch kept.next front) 0))
first_in_line_is batch front kept one = least_append kept.held _
    ∙ ap (better (least kept.held)) (cut_leads batch front kept.next kept.cutting one).0

-- the floor of a queue is the number before its first span, or the front
pub queue_floor_is : (batch front : ℕ) (kept : Queue) → 1 ≤ batch → kept.next ≤ suc front
    → floor_of (queue_spans batch front kept) front ≡ queue_floor kept
queue_floor_is batch front kept one le = ap (λ spans. floor_of spans front) (queue_spans_is batch front kept)
    ∙ by kept.held (cases_lt front kept.next)
  where
    by : (held : List Held) → (front < kept.next) ⊎ (kept.next ≤ front)
        → floor_of (spans_of held ++ cut_spans batch kept.next front) front ≡ floor_before held kept.next
    by [] (inl less) = ap (λ spans. floor_of spans front) (cut_none batch kept.next front less) ∙ omega arith
    by [] (inr more) = ap (λ spans. floor_of spans front) (cut_some batch kept.next front one more)
    by (h ∷ rest) order = refl

-- it stays where a span changes and where one is handed over
same_begin : (t : Bool) (h : Held) (status : Status) (rank : Rank)
    → (if t then record { span = record h.span { status = status }; rank = rank } else h).span.first - 1
    ≡ h.span.first - 1
same_begin true h status rank = refl
same_begin false h status rank = refl

pub floor_restated : (first next : ℕ) (status : Status) (rank : Rank) (held : List Held)
    → floor_before (restated first status rank held) next ≡ floor_before held next
floor_restated first next status rank [] = refl
floor_restated first next status rank (h ∷ rest) = same_begin (h.span.first == first) h status rank

pub floor_delivered : (kept : Queue) (span : Span) (status : Status)
    → queue_floor (delivered_queue kept span status) ≡ queue_floor kept
floor_delivered kept span status = by (span.first == kept.next) refl
  where
    pushed : (held : List Held) → span.first ≡ kept.next
        → floor_before (held ++ record { span = record span { status = status }; rank = kept.cutting } ∷ [])
        (suc span.last) ≡ floor_before held kept.next
    pushed [] same = ap (λ n. n - 1) same
    pushed (h ∷ rest) same = refl

    by : (t : Bool) → (span.first == kept.next) ≡ t
        → queue_floor (cond t (pushed_queue kept span status) (restated_queue kept span.first status kept.cutting))
        ≡ queue_floor kept
    by true is = pushed kept.held (eqb-true span.first kept.next is)
    by false is = floor_restated span.first kept.next status kept.cutting kept.held

-- and where spans expire
pub floor_expired : (next timeout clock : ℕ) (rank : Held → Rank) (held : List Held)
    → floor_before (map (expired_held timeout clock rank) held) next ≡ floor_before held next
floor_expired next timeout clock rank [] = refl
floor_expired next timeout clock rank (h ∷ rest) =
    same_begin (is_due timeout clock h.span.status) h (Ready true) (rank h)

-- ---- spans that rise

pub joins_reach : (low next : ℕ) (held : List Held) → HeldRise low held next → low ≤ next
joins_reach low next [] j = j
joins_reach low next (p ∷ rest) j = omega (arith, j.0, j.1, joins_reach (suc p.span.last) next rest j.2)

-- the first one begins no earlier
pub first_held_begins : (low next : ℕ) (held : List Held) (span : Span) → HeldRise low held next
    → option_map (λ (h : Held). h.span) (slice_get held 0) ≡ Some span → low ≤ span.first
first_held_begins low next [] span j is = absurd (let e : None ≡ Some span = is in cc)
first_held_begins low next (h ∷ rest) span j is = let same : h.span ≡ span = cc in
    omega (arith, j.0, ap (λ (p : Span). p.first) same)

-- the floor is below the next number
pub floor_below : (next : ℕ) (held : List Held) → HeldRise 1 held next → floor_before held next < next
floor_below next [] j = omega (arith, j)
floor_below next (h ∷ rest) j = omega (arith, j.0, j.1, joins_reach (suc h.span.last) next rest j.2)

-- they are no more than their numbers
pub count_rising : (low next : ℕ) (held : List Held) → HeldRise low held next → length held + low ≤ next
count_rising low next [] j = omega (arith, j)
count_rising low next (h ∷ rest) j = omega (arith, j.0, j.1, count_rising (suc h.span.last) next rest j.2)

-- they rise from an earlier number on, too
pub rises_earlier : (low low' next : ℕ) (held : List Held) → low' ≤ low → HeldRise low held next
    → HeldRise low' held next
rises_earlier low low' next [] le j = omega (arith, le, j)
rises_earlier low low' next (h ∷ rest) le j = (omega (arith, le, j.0), j.1, j.2)

pub first_ready_some : (batch front : ℕ) (kept : Queue) (span : Span) → first_ready (spans_of kept.held) ≡ Some span
    → Some span ≡ first_ready (queue_spans batch front kept)
first_ready_some batch front kept span h =
    sym (first_ready_is batch front kept ∙ ap (λ o. option_or o (slice_get (cut_spans batch kept.next front) 0)) h)

pub first_ready_none : (batch front : ℕ) (kept : Queue) → first_ready (spans_of kept.held) ≡ None
    → slice_get (cut_spans batch kept.next front) 0 ≡ first_ready (queue_spans batch front kept)
first_ready_none batch front kept h =
    sym (first_ready_is batch front kept ∙ ap (λ o. option_or o (slice_get (cut_spans batch kept.next front) 0)) h)

-- ---- spans that rise, after a change

same_ends : (t : Bool) (h : Held) (status : Status) (rank : Rank) (low next : ℕ) (rest : List Held)
    → low ≤ h.span.first → h.span.first ≤ h.span.last → HeldRise (suc h.span.last) rest next
    → HeldRise low ((if t then record { span = record h.span { status = status }; rank = rank } else h) ∷ rest) next
same_ends true h status rank low next rest a b c = (a, b, c)
same_ends false h status rank low next rest a b c = (a, b, c)

pub joins_restated : (low next first : ℕ) (status : Status) (rank : Rank) (held : List Held)
    → HeldRise low held next → HeldRise low (restated first status rank held) next
joins_restated low next first status rank [] j = j
joins_restated low next first status rank (h ∷ rest) j =
    same_ends (h.span.first == first) h status rank low next (restated first status rank rest) j.0 j.1
    (joins_restated (suc h.span.last) next first status rank rest j.2)

-- one span more, where they end
pub joins_pushed : (low next end : ℕ) (held : List Held) (more : Held) → HeldRise low held next → more.span.first ≡ next
    → more.span.first ≤ more.span.last → end ≡ suc more.span.last → HeldRise low (held ++ more ∷ []) end
joins_pushed low next end [] more j first last e = (omega (arith, first, j), last, omega (arith, e))
joins_pushed low next end (h ∷ rest) more j first last e =
    (j.0, j.1, joins_pushed (suc h.span.last) next end rest more j.2 first last e)

-- one span less
pub joins_without : (low next first : ℕ) (held : List Held) → HeldRise low held next
    → HeldRise low (without_held first held) next
joins_without low next first [] j = j
joins_without low next first (h ∷ rest) j =
    by (not (h.span.first == first)) (joins_without (suc h.span.last) next first rest j.2)
  where
    by : (t : Bool) → HeldRise (suc h.span.last) (without_held first rest) next
        → HeldRise low (cond t (h ∷ without_held first rest) (without_held first rest)) next
    by true more = (j.0, j.1, more)
    by false more = rises_earlier (suc h.span.last) low next (without_held first rest) (omega (arith, j.0, j.1)) more

-- the same spans with other states
pub joins_expired : (low next timeout clock : ℕ) (rank : Held → Rank) (held : List Held) → HeldRise low held next
    → HeldRise low (map (expired_held timeout clock rank) held) next
joins_expired low next timeout clock rank [] j = j
joins_expired low next timeout clock rank (h ∷ rest) j =
    same_ends (is_due timeout clock h.span.status) h (Ready true) (rank h) low next
    (map (expired_held timeout clock rank) rest) j.0 j.1
    (joins_expired (suc h.span.last) next timeout clock rank rest j.2)

-- what holds of each span that begins and ends between two numbers holds of a cutting
pub cutting_all : (batch b : ℕ) (cutting : Rank) (P : Held → Type 0) → 1 ≤ batch → (low : ℕ)
    → ((x end : ℕ) → low ≤ x → x ≤ end → end ≤ b → P (with_birth cutting (fresh x end)))
    → AllByRecursion P (ranked cutting (cut_spans batch low b))
cutting_all batch b cutting P one low =
    cut_induction batch b
    (λ low spans. ((x end : ℕ) → low ≤ x → x ≤ end → end ≤ b → P (with_birth cutting (fresh x end)))
    → AllByRecursion P (ranked cutting spans)) one
    (λ a h each. tt)
    (λ a h rest each. (
      each a (cut_ends batch a b) (omega arith) (omega arith) (omega arith),
      rest (λ x end l m n. each x end (omega arith) m n),
    )) (suc b - low) low (omega arith)
