-- What a call changes in the spans of a queue: one is delivered, returned, settled.
use Rattle.std.proofs.Common.{◌≡◌, ℕ, suc, ◌<◌, ◌≤◌, eq-eqb, ne_eqb, true, false, ◌==◌, cond, List, [], ◌∷◌, ◌++◌}
use Rattle.std.proofs.Common.{Some, None, ◌⊎◌, inl, inr, slice_get, append_assoc, refl, sym, ap, ◌∙◌, subst}
use Rattle.std.proofs.Common.{arith}
use Rattle.std.specs.List.{AllByRecursion}
use Rattle.std.proofs.lemmas.Bool.{cases_lt}
use Rattle.rb_deliveries.specs.declared.span.Span.{Span}
use Rattle.rb_deliveries.specs.declared.span.Status.{Status}
use Rattle.rb_deliveries.specs.declared.rank.Rank.{Rank}
use Rattle.rb_deliveries.specs.declared.rank.Held.{Held}
use Rattle.rb_deliveries.specs.Spans.{fresh, cut_spans, is_ready}
use Rattle.rb_deliveries.specs.Queues.{AreRising, Queue, HeldRise, ranked, with_birth, queue_held, restated}
use Rattle.rb_deliveries.specs.Queues.{without_held, restated_queue, pushed_queue, delivered_queue, settled_queue}
use Rattle.rb_deliveries.specs.Subs.{IsHeld, IsDeliverable}
use Rattle.rb_deliveries.proofs.spans.CutLaws.{cut_none, cut_some, cut_ends}
use Rattle.rb_deliveries.proofs.orders.Line.{all_first, all_second}
use Rattle.rb_deliveries.proofs.spans.JoinLaws.{Other, joins_queue, joins_end, joins_others}
use Rattle.rb_deliveries.proofs.spans.ChangeLaws.{Changes, HasSpan, Removes, become, restated_one, without_one}

-- ---- which span it is

-- a span that is held has a number and ends ahead of the next one
pub held_span : (low : ℕ) (kept : Queue) (span : Span) → HeldRise low kept.held kept.next → IsHeld kept span
    → (span.first ≤ span.last) × (span.last < kept.next)
held_span low kept span j held =
    let all = subst (AllByRecursion (λ h. (h.span.first ≤ h.span.last) × (h.span.last < kept.next))) held.3
    (joins_end low kept.next kept.held j) in
    subst (λ (p : Span). (p.first ≤ p.last) × (p.last < kept.next)) held.4
    (all_second (λ h. (h.span.first ≤ h.span.last) × (h.span.last < kept.next)) held.0 (held.1 ∷ held.2) all).0

-- the first span of a cutting begins where the cutting does, and the others are cut behind it
pub record QueueChangesLeads (batch front next : ℕ) (span : Span) : Type 0 where
  pub is_placed : next ≤ front
  pub is : fresh next (cut_ends batch next front) ≡ span
  pub rest : cut_spans batch next front ≡ span ∷ cut_spans batch (suc span.last) front

pub leads_queue_changes : (batch front next : ℕ) (span : Span) → 1 ≤ batch → slice_get (cut_spans batch next front) 0
    ≡ Some span → QueueChangesLeads batch front next span
leads_queue_changes batch front next span one found = by (cases_lt front next)
  where
    by : (front < next) ⊎ (next ≤ front) → QueueChangesLeads batch front next span
    by (inl less) =
        absurd (let none : None ≡ Some span = ap (λ spans. slice_get spans 0) (sym (cut_none batch next front less))
        ∙ found in cc)
    by (inr more) =
        let some : Some (fresh next (cut_ends batch next front)) ≡ Some span =
        ap (λ spans. slice_get spans 0) (sym (cut_some batch next front one more)) ∙ found in
        let same : fresh next (cut_ends batch next front) ≡ span = cc in
        record {
          is_placed = more;
          is = same;
          rest = cut_some batch next front one more ∙ ap (λ (p : Span). p ∷ cut_spans batch (suc p.last) front) same;
        }

-- a span that may go has a number, and its numbers are placed
pub may_go_span : (batch front low : ℕ) (kept : Queue) (span : Span) → 1 ≤ batch → kept.next ≤ suc front
    → HeldRise low kept.held kept.next → IsDeliverable batch front kept span → (span.first ≤ span.last)
    × (span.last ≤ front)
may_go_span batch front low kept span one le j (inl held) = let at = held_span low kept span j held.0 in
    omega (arith, at, le)
may_go_span batch front low kept span one le j (inr found) =
    let l = leads_queue_changes batch front kept.next span one found in
    subst (λ (p : Span). (p.first ≤ p.last) × (p.last ≤ front)) l.is
    (omega (arith, l.is_placed), omega (arith, l.is_placed))

-- and is ready
pub may_go_ready : (batch front : ℕ) (kept : Queue) (span : Span) → 1 ≤ batch → IsDeliverable batch front kept span
    → is_ready span.status ≡ true
may_go_ready batch front kept span one (inl held) = held.1
may_go_ready batch front kept span one (inr found) =
    ap (λ (p : Span). is_ready p.status) (sym (leads_queue_changes batch front kept.next span one found).is)

-- ---- what becomes of the spans

module _ (batch front : ℕ) (kept : Queue) (span : Span) (one : 1 ≤ batch) (le : kept.next ≤ suc front)
    (j : AreRising kept) where
  -- the spans of the cutting
  abbrev rest_of : List Held
  rest_of = ranked kept.cutting (cut_spans batch kept.next front)

  -- where a span stands among all spans of a queue, the others begin with other numbers
  others_of : (ahead : List Held) (h : Held) (behind : List Held) → h.span ≡ span → queue_held batch front kept ≡ ahead
      ++ h ∷ behind → AllByRecursion (Other span.first) ahead × AllByRecursion (Other span.first) behind
  others_of ahead h behind is whole =
      subst (λ n. AllByRecursion (Other n) ahead × AllByRecursion (Other n) behind) (ap (λ p. p.first) is)
      (joins_others 1 (suc front) ahead h behind
      (subst (λ xs. HeldRise 1 xs (suc front)) whole (joins_queue batch front kept one le j)))

  -- where a span that is held stands
  abbrev held_place : IsHeld kept span → HasSpan span (queue_held batch front kept)
  held_place held =
      let whole : queue_held batch front kept ≡ held.0 ++ held.1 ∷ (held.2 ++ rest_of) = ap (λ xs. xs ++ rest_of) held.3
      ∙ append_assoc held.0 (held.1 ∷ held.2) rest_of in
      record {
        ahead = held.0;
        one = held.1;
        behind = held.2 ++ rest_of;
        is = held.4;
        before = whole;
        others = others_of held.0 held.1 (held.2 ++ rest_of) held.4 whole;
      }

  -- a span that is held becomes so
  pub restated_changes : (status : Status) (rank : Rank) → IsHeld kept span
      → Changes span status rank (queue_held batch front kept)
      (queue_held batch front (restated_queue kept span.first status rank))
  restated_changes status rank held =
      let others = (held_place held).others in
      record {
        at = held_place held;
        after = ap (λ xs. restated span.first status rank xs ++ rest_of) held.3
            ∙ ap (λ xs. xs ++ rest_of)
            (restated_one span status rank held.0 held.1 held.2 held.4
            (others.0, all_first (Other span.first) held.2 rest_of others.1))
            ∙ append_assoc held.0 (become span status rank ∷ held.2) rest_of;
      }

  -- the first one of the cutting becomes so, and is held
  pushed_changes : (status : Status) → QueueChangesLeads batch front kept.next span
      → Changes span status kept.cutting (queue_held batch front kept)
      (queue_held batch front (pushed_queue kept span status))
  pushed_changes status l =
      let later : List Held = ranked kept.cutting (cut_spans batch (suc span.last) front) in
      let whole : queue_held batch front kept ≡ kept.held ++ with_birth kept.cutting span ∷ later =
      ap (λ spans. kept.held ++ ranked kept.cutting spans) l.rest in
      record {
        at = record {
          ahead = kept.held;
          one = with_birth kept.cutting span;
          behind = later;
          is = refl;
          before = whole;
          others = others_of kept.held (with_birth kept.cutting span) later refl whole;
        };
        after = append_assoc kept.held (become span status kept.cutting ∷ []) later;
      }

  -- one that may go is handed over
  pub handed_changes : (status : Status) → IsDeliverable batch front kept span
      → Changes span status kept.cutting (queue_held batch front kept)
      (queue_held batch front (delivered_queue kept span status))
  handed_changes status (inl held) =
      let at = held_span 1 kept span j held.0 in
      let other : (span.first == kept.next) ≡ false = ne_eqb span.first kept.next (omega (arith, at)) in
      subst (λ t. Changes span status kept.cutting (queue_held batch front kept)
      (queue_held batch front (cond t (pushed_queue kept span status)
      (restated_queue kept span.first status kept.cutting)))) (sym other)
      (restated_changes status kept.cutting held.0)
  handed_changes status (inr found) =
      let l = leads_queue_changes batch front kept.next span one found in
      let same : (span.first == kept.next) ≡ true = eq-eqb span.first kept.next (ap (λ p. p.first) (sym l.is)) in
      subst (λ t. Changes span status kept.cutting (queue_held batch front kept)
      (queue_held batch front (cond t (pushed_queue kept span status)
      (restated_queue kept span.first status kept.cutting)))) (sym same) (pushed_changes status l)

  -- one that is settled is removed
  pub settled_changes : IsHeld kept span
      → Removes span (queue_held batch front kept) (queue_held batch front (settled_queue kept span.first))
  settled_changes held =
      let others = (held_place held).others in
      record {
        at = held_place held;
        after = ap (λ xs. without_held span.first xs ++ rest_of) held.3
            ∙ ap (λ xs. xs ++ rest_of)
            (without_one span held.0 held.1 held.2 held.4
            (others.0, all_first (Other span.first) held.2 rest_of others.1))
            ∙ append_assoc held.0 held.2 rest_of;
      }
