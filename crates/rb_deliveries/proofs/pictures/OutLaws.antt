-- What a subscription's spans say of what is in flight to it, of what is ready, and whether there are any.
use Rattle.std.proofs.Common.{◌≡◌, ℕ, ◌≤◌, Bool, true, false, ◌||◌, cond, List, [], ◌∷◌, ◌++◌}
use Rattle.std.proofs.Common.{Option, Some, None, nat_lt, if◌then◌else◌, slice_get, refl, sym, ap, ◌∙◌}
use Rattle.std.specs.Option.{option_or}
use Rattle.std.specs.List.{AllByRecursion}
use Rattle.std.proofs.lemmas.List.Folds.{find-append}
use Rattle.std.proofs.lemmas.Bool.{ltb-true, ltb-false}
use Rattle.rb_deliveries.specs.declared.span.Span.{Span}
use Rattle.rb_deliveries.specs.declared.sub.Sub.{Sub}
use Rattle.rb_deliveries.specs.declared.rank.Held.{Held}
use Rattle.rb_deliveries.specs.Spans.{cut_spans, first_ready, how_many_out, is_out_as, out_as}
use Rattle.rb_deliveries.specs.Subs.{sub_out_as}
use Rattle.rb_deliveries.specs.Changes.{has_no_spans}
use Rattle.rb_deliveries.specs.Pictured.{pictured_sub}
use Rattle.rb_deliveries.specs.Queues.{Queue, spans_of, queue_held, queue_spans, is_none_left}
use Rattle.rb_deliveries.proofs.spans.CutLaws.{CutIsFresh, cut_fresh, cut_none, cut_some}
use Rattle.rb_deliveries.proofs.spans.QueueLaws.{queue_spans_is}
use Rattle.rb_deliveries.proofs.spans.FirstLaws.{none_some}
use Rattle.rb_deliveries.proofs.spans.FoundLaws.{queue_how_many_out}

fresh_none_out : (d : ℕ) (spans : List Span) → AllByRecursion CutIsFresh spans → out_as d spans ≡ None
fresh_none_out d [] h = refl
fresh_none_out d (p ∷ rest) h = ap (λ status. cond (is_out_as d status) (Some p) (out_as d rest)) h.0
    ∙ fresh_none_out d rest h.1

call_or_none : {X : Type 0} (o : Option X) → option_or o None ≡ o
call_or_none None = refl
call_or_none (Some x) = refl

out_as_by : (batch front d : ℕ) (sub : Sub) (t : Bool)
    → out_as d (spans_of (cond t [] (queue_held batch front sub.queue))) ≡ cond t None (out_as d (spans_of sub.queue.held))
out_as_by batch front d sub true = refl
out_as_by batch front d sub false =
    ap (out_as d) (queue_spans_is batch front sub.queue)
    ∙ find-append (λ (p : Span). is_out_as d p.status) (spans_of sub.queue.held)
    (cut_spans batch sub.queue.next front)
    ∙ ap (option_or (out_as d (spans_of sub.queue.held)))
    (fresh_none_out d (cut_spans batch sub.queue.next front) (cut_fresh batch sub.queue.next front)) ∙ call_or_none _

-- the span that is out as a delivery is the one that is kept
pub out_as_is : (batch front d : ℕ) (sub : Sub) → out_as d (pictured_sub batch front sub).spans ≡ sub_out_as d sub
out_as_is batch front d sub = out_as_by batch front d sub sub.closed

out_running_by : (t : Bool) (o : Option Span) (span : Span) → (if t then None else o) ≡ Some span → (t ≡ false)
    × (o ≡ Some span)
out_running_by true o span h = absurd (none_some h)
out_running_by false o span h = (refl, h)

-- what is out is out of a subscription that isn't closed
pub out_running : (d : ℕ) (sub : Sub) (span : Span) → sub_out_as d sub ≡ Some span → (sub.closed ≡ false)
    × (out_as d (spans_of sub.queue.held) ≡ Some span)
out_running d sub span h = out_running_by sub.closed (out_as d (spans_of sub.queue.held)) span h

-- what is ready is ready in a subscription that isn't closed
pub ready_running : (batch front : ℕ) (sub : Sub) (span : Span)
    → first_ready (pictured_sub batch front sub).spans ≡ Some span
    → (sub.closed ≡ false) × (first_ready (queue_spans batch front sub.queue) ≡ Some span)
ready_running batch front sub span = by sub.closed
  where
    by : (t : Bool) → first_ready (spans_of (cond t [] (queue_held batch front sub.queue))) ≡ Some span
        → (t ≡ false) × (first_ready (queue_spans batch front sub.queue) ≡ Some span)
    by true h = absurd (none_some h)
    by false h = (refl, h)

-- how many are out of an open subscription
pub how_many_open : (batch front : ℕ) (sub : Sub) → sub.closed ≡ false
    → how_many_out (pictured_sub batch front sub).spans ≡ how_many_out (spans_of sub.queue.held)
how_many_open batch front sub is =
    ap (λ t. how_many_out (spans_of (cond t [] (queue_held batch front sub.queue)))) is
    ∙ queue_how_many_out batch front sub.queue

-- ---- whether there are none

none_cut : (t : Bool) (spans : List Span) → (t ≡ true → spans ≡ []) → (t ≡ false → slice_get spans 0 ≡ None → ⊥)
    → has_no_spans spans ≡ t
none_cut true spans none some = ap has_no_spans (none refl)
none_cut false [] none some = absurd (some refl refl)
none_cut false (p ∷ rest) none some = refl

none_held : (batch front : ℕ) (held : List Held) (kept : Queue) → kept.held ≡ held → 1 ≤ batch
    → has_no_spans (spans_of held ++ cut_spans batch kept.next front) ≡ is_none_left kept front
none_held batch front [] kept e one =
    none_cut (nat_lt front kept.next) (cut_spans batch kept.next front)
    (λ less. cut_none batch kept.next front (ltb-true _ _ less))
    (λ more none. some_first (cut_some batch kept.next front one (ltb-false _ _ more)) none)
    ∙ ap (λ xs. is_none_left (record kept { held = xs }) front) (sym e)
  where
    some_first : {p : Span} {rest : List Span} → cut_spans batch kept.next front ≡ p ∷ rest
        → slice_get (cut_spans batch kept.next front) 0 ≡ None → ⊥
    some_first {p} {rest} e none = none_some (sym none ∙ ap (λ xs. slice_get xs 0) e)
none_held batch front (h ∷ rest) kept e one = ap (λ xs. is_none_left (record kept { held = xs }) front) (sym e)

no_spans_by : (batch front : ℕ) (queue : Queue) (t : Bool) → 1 ≤ batch
    → has_no_spans (spans_of (cond t [] (queue_held batch front queue))) ≡ (t || is_none_left queue front)
no_spans_by batch front queue true one = refl
no_spans_by batch front queue false one = ap has_no_spans (queue_spans_is batch front queue)
    ∙ none_held batch front queue.held queue refl one

-- a subscription has no spans if it is closed or none is left
pub no_spans_is : (batch front : ℕ) (sub : Sub) → 1 ≤ batch
    → has_no_spans (pictured_sub batch front sub).spans ≡ (sub.closed || is_none_left sub.queue front)
no_spans_is batch front sub one = no_spans_by batch front sub.queue sub.closed one
