-- What is found in a queue: a span in flight was taken before, and a ready one can be delivered.
use Rattle.std.proofs.Common.{◌≡◌, ℕ, ◌≤◌, Bool, true, false, cond, List, [], ◌∷◌, ◌++◌, length, Option, Some}
use Rattle.std.proofs.Common.{None, option_map, ◌⊎◌, inl, inr, filter, find, slice_get, append-nil, refl, sym, ap, ◌∙◌}
use Rattle.std.specs.Option.{option_or}
use Rattle.std.proofs.lemmas.List.Elements.{filter-append}
use Rattle.rb_deliveries.specs.declared.span.Span.{Span}
use Rattle.rb_deliveries.specs.declared.span.Status.{Status}
use Rattle.rb_deliveries.specs.declared.span.Status.TheVariants.{Ready, InFlight}
use Rattle.rb_deliveries.specs.declared.rank.Rank.{Rank}
use Rattle.rb_deliveries.specs.declared.rank.Held.{Held}
use Rattle.rb_deliveries.specs.Spans.{cut_spans, first_ready, out_as, how_many_out, is_ready, is_out, is_out_as}
use Rattle.rb_deliveries.specs.Queues.{Queue, earlier, with_birth, spans_of, queue_held, queue_spans, least}
use Rattle.rb_deliveries.specs.Queues.{better, if_ready}
use Rattle.rb_deliveries.specs.Subs.{IsHeld, IsDeliverable}
use Rattle.rb_deliveries.proofs.spans.CutLaws.{CutIsFresh, cut_fresh}
use Rattle.rb_deliveries.proofs.spans.QueueLaws.{queue_spans_is, first_ready_is, first_in_line_is}
use Rattle.rb_deliveries.proofs.orders.Line.{all_then, chosen_one, filter_none}

-- a span is among these
abbrev pub IsAmong : List Held → Span → Type 0
IsAmong xs span = (ahead : List Held) × (h : Held) × (behind : List Held) × (xs ≡ ahead ++ h ∷ behind) × (h.span ≡ span)

among_behind : (x : Held) (xs : List Held) (span : Span) → IsAmong xs span → IsAmong (x ∷ xs) span
among_behind x xs span is = (x ∷ is.0, is.1, is.2, ap (λ l. x ∷ l) is.3, is.4)

-- what is found among the spans by its status is one of them, and has such a status
found_among : (test : Status → Bool) (xs : List Held) (span : Span) → find (λ p. test p.status) (spans_of xs)
    ≡ Some span → IsAmong xs span × (test span.status ≡ true)
found_among test [] span found = absurd (let none : None ≡ Some span = found in cc)
found_among test (x ∷ xs) span found = by (test x.span.status) refl found (found_among test xs span)
  where
    by : (b : Bool) → test x.span.status ≡ b → cond b (Some x.span) (find (λ p. test p.status) (spans_of xs))
        ≡ Some span → (find (λ p. test p.status) (spans_of xs) ≡ Some span → IsAmong xs span
        × (test span.status ≡ true))
        → IsAmong (x ∷ xs) span × (test span.status ≡ true)
    by true is here rest = let same : x.span ≡ span =
        cc in (([], x, xs, refl, same), ap (λ p. test p.status) (sym same) ∙ is)
    by false is here rest = let r = rest here in (among_behind x xs span r.0, r.1)

-- ---- what is out

pub out_is_out : (number : ℕ) (status : Status) → is_out_as number status ≡ true → is_out status ≡ true
out_is_out number (Ready taken) is = is
out_is_out number (InFlight n moment) is = refl

-- the span that is out as a delivery was taken before, and is out
pub out_as_held : (number : ℕ) (kept : Queue) (span : Span) → out_as number (spans_of kept.held) ≡ Some span
    → IsHeld kept span × (is_out span.status ≡ true)
out_as_held number kept span found = let r = found_among (is_out_as number) kept.held span found in
    (r.0, out_is_out number span.status r.1)

module _ (batch front : ℕ) where
  -- how many are out is told by those that were taken before
  pub queue_how_many_out : (kept : Queue) → how_many_out (queue_spans batch front kept) ≡ how_many_out (spans_of kept.held)
  queue_how_many_out kept =
      ap how_many_out (queue_spans_is batch front kept)
      ∙ ap length (filter-append (λ (p : Span). is_out p.status) (spans_of kept.held) (cut_spans batch kept.next front)
      ∙ ap (λ z. filter (λ (p : Span). is_out p.status) (spans_of kept.held) ++ z)
      (filter_none (λ (p : Span). is_out p.status) (cut_spans batch kept.next front)
      (all_then CutIsFresh (λ p. is_out p.status ≡ false) (cut_spans batch kept.next front) (λ p is. ap is_out is)
      (cut_fresh batch kept.next front)))
      ∙ append-nil (filter (λ (p : Span). is_out p.status) (spans_of kept.held)))

-- ---- what may go

-- the first ready span of a queue may go
pub may_go_first : (batch front : ℕ) (kept : Queue) (span : Span) → first_ready (queue_spans batch front kept) ≡ Some span
    → IsDeliverable batch front kept span
may_go_first batch front kept span found =
    by (first_ready (spans_of kept.held)) refl (sym (first_ready_is batch front kept) ∙ found)
  where
    by : (o : Option Span) → first_ready (spans_of kept.held) ≡ o
        → option_or o (slice_get (cut_spans batch kept.next front) 0) ≡ Some span → IsDeliverable batch front kept span
    by None is given = inr given
    by (Some p) is given = inl (found_among is_ready kept.held span (is ∙ given))

-- the first of two in line is one of them
pub better_one : (a b : Option Held) (h : Held) → better a b ≡ Some h → (a ≡ Some h) ⊎ (b ≡ Some h)
better_one None b h is = inr is
better_one (Some a) None h is = inl is
better_one (Some a) (Some b) h is = chosen_one (earlier b.rank a.rank) a b h is

-- the first in line of these is one of them, and ready
least_among : (xs : List Held) (h : Held) → least xs ≡ Some h → IsAmong xs h.span × (is_ready h.span.status ≡ true)
least_among [] h is = absurd (let none : None ≡ Some h = is in cc)
least_among (x ∷ xs) h is = by (better_one (if_ready x) (least xs) h is) (least_among xs h)
  where
    ready : (b : Bool) → is_ready x.span.status ≡ b → cond b (Some x) None ≡ Some h → IsAmong (x ∷ xs) h.span
        × (is_ready h.span.status ≡ true)
    ready true is here = let same : x ≡ h =
        cc in (
          ([], x, xs, refl, ap (λ (k : Held). k.span) same),
          ap (λ (k : Held). is_ready k.span.status) (sym same)
              ∙ is,
        )
    ready false is here = absurd (let none : None ≡ Some h = here in cc)

    by : (if_ready x ≡ Some h) ⊎ (least xs ≡ Some h)
        → (least xs ≡ Some h → IsAmong xs h.span × (is_ready h.span.status ≡ true)) → IsAmong (x ∷ xs) h.span
        × (is_ready h.span.status ≡ true)
    by (inl here) rest = ready (is_ready x.span.status) refl here
    by (inr later) rest = let r = rest later in (among_behind x xs h.span r.0, r.1)

-- the span of a thing in line
birth_of : (cutting : Rank) (o : Option Span) (h : Held) → option_map (with_birth cutting) o ≡ Some h → o
    ≡ Some h.span
birth_of cutting None h is = absurd (let none : None ≡ Some h = is in cc)
birth_of cutting (Some p) h is = let same : with_birth cutting p ≡ h = cc in ap (λ (k : Held). Some k.span) same

-- the first in line of a queue may go
pub may_go_least : (batch front : ℕ) (kept : Queue) (h : Held) → 1 ≤ batch → least (queue_held batch front kept) ≡ Some h
    → IsDeliverable batch front kept h.span
may_go_least batch front kept h one is =
    by (better_one (least kept.held)
    (option_map (with_birth kept.cutting) (slice_get (cut_spans batch kept.next front) 0)) h
    (sym (first_in_line_is batch front kept one) ∙ is))
  where
    by : (least kept.held ≡ Some h)
        ⊎ (option_map (with_birth kept.cutting) (slice_get (cut_spans batch kept.next front) 0) ≡ Some h)
        → IsDeliverable batch front kept h.span
    by (inl held) = inl (least_among kept.held h held)
    by (inr fresh) = inr (birth_of kept.cutting (slice_get (cut_spans batch kept.next front) 0) h fresh)
