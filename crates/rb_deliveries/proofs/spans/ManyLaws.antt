-- How many spans a cutting has, and how many of a queue's spans are ready.
use Rattle.std.proofs.Common.{◌≡◌, ℕ, suc, ◌+◌, ◌-◌, ◌*◌, ◌<◌, ◌≤◌, inl, inr, List, [], ◌∷◌, ◌++◌, length, filter}
use Rattle.std.proofs.Common.{true, not, refl, sym, ap, ◌∙◌, arith, length-append}
use Rattle.std.specs.Int.{div_ceil}
use Rattle.std.proofs.Math.Nat.{mul-le-mul_right}
use Rattle.std.proofs.lemmas.Bool.{cases_lt}
use Rattle.std.proofs.lemmas.Grind.{div_ceil_times}
use Rattle.std.proofs.lemmas.List.{length-map}
use Rattle.std.proofs.lemmas.List.Elements.{filter-append}
use Rattle.std.proofs.lemmas.List.Filters.{length-filter_both}
use Rattle.rb_deliveries.specs.declared.span.Span.{Span}
use Rattle.rb_deliveries.specs.declared.span.Status.{Status}
use Rattle.rb_deliveries.specs.declared.span.Status.TheVariants.{Ready, InFlight}
use Rattle.rb_deliveries.specs.declared.rank.Held.{Held}
use Rattle.rb_deliveries.specs.Queues.{HeldRise, Queue, queue_spans, spans_of}
use Rattle.rb_deliveries.specs.Spans.{cut_spans, how_many_out, how_many_ready, is_out, is_ready}
use Rattle.rb_deliveries.proofs.spans.CutLaws.{CutIsFresh, cut_ends, cut_fresh, cut_induction}
use Rattle.rb_deliveries.proofs.spans.QueueLaws.{queue_spans_is}
use Rattle.rb_deliveries.proofs.orders.Line.{all_then, filter_all}

-- ---- a cutting

-- so many spans of up to `batch` numbers have these numbers, and one fewer would not do
record HasMany (batch b a many : ℕ) : Type 0 where
  none : b < a → many ≡ 0
  few : many ≤ suc b - a
  enough : suc b - a ≤ many * batch
  least : many * batch < suc b - a + batch

one_more : (batch b a many : ℕ) → 1 ≤ batch → a ≤ b → HasMany batch b (suc (cut_ends batch a b)) many →
    HasMany batch b a (suc many)
one_more batch b a many one le rest =
    elim (cases_lt b (a + batch)) [
      | inl less ↦
          let nothing : many * batch ≡ 0 * batch = ap (λ n. n * batch) (rest.none (omega arith)) in
          record {
            none = λ h. absurd (omega (arith, h, le));
            few = omega (arith, rest.none (omega arith), le);
            enough = omega (arith, nothing, less);
            least = omega (arith, nothing, le);
          }
      | inr more ↦
          record {
            none = λ h. absurd (omega (arith, h, le));
            few = omega (arith, rest.few, more, one);
            enough = omega (arith, rest.enough, more);
            least = omega (arith, rest.least, more, one);
          }
    ]

cut_many : (batch a b : ℕ) → 1 ≤ batch → HasMany batch b a (length (cut_spans batch a b))
cut_many batch a b one =
    cut_induction batch b (λ a spans. HasMany batch b a (length spans)) one
    (λ a less. record {
      none = λ h. refl;
      few = omega arith;
      enough = omega (arith, less);
      least = omega (arith, less, one);
    })
    (λ a le rest. one_more batch b a (length (cut_spans batch (suc (cut_ends batch a b)) b)) one le rest)
    (suc b - a) a (omega arith)

not_less : (batch n q r : ℕ) → n ≤ q * batch → r * batch < n + batch → r ≤ q
not_less batch n q r enough least = elim (cases_lt q r) [
  | inl less ↦ let more = mul-le-mul_right batch less in absurd (omega (arith, more, enough, least))
  | inr more ↦ more
]

-- a cutting has as many spans as whole deliveries, and one for what is left
pub cut_length : (batch a b : ℕ) → 1 ≤ batch → length (cut_spans batch a b) ≡ div_ceil (suc b - a) batch
cut_length batch a b one =
    let n = suc b - a in
    let many = cut_many batch a b one in
    let times = div_ceil_times n batch one in
    let fits = not_less batch n (length (cut_spans batch a b)) (div_ceil n batch) many.enough times.1 in
    let needed = not_less batch n (div_ceil n batch) (length (cut_spans batch a b)) times.0 many.least in
    omega (arith, fits, needed)

-- ---- a queue

-- a span is ready or in flight
pub ready_or_out : (spans : List Held) → how_many_ready (spans_of spans) + how_many_out (spans_of spans) ≡ length spans
ready_or_out spans =
    length-filter_both (λ (p : Span). is_ready p.status) (λ (p : Span). is_out p.status) (λ p. other p.status)
    (spans_of spans)
    ∙ length-map spans (λ h. h.span)
  where
    other : (status : Status) → is_out status ≡ not (is_ready status)
    other (Ready taken) = refl
    other (InFlight number moment) = refl

held_few : (low next : ℕ) (held : List Held) → HeldRise low held next → length held + low ≤ next
held_few low next [] rise = omega (arith, rise)
held_few low next (h ∷ rest) rise =
    let later = held_few (suc h.span.last) next rest rise.2 in omega (arith, later, rise.0, rise.1)

module _ (batch front : ℕ) (kept : Queue) where
  -- those ready were taken before, or are spans of the cutting
  pub queue_how_many_ready : how_many_ready (queue_spans batch front kept)
      ≡ how_many_ready (spans_of kept.held) + length (cut_spans batch kept.next front)
  queue_how_many_ready =
      ap how_many_ready (queue_spans_is batch front kept)
      ∙ ap length (filter-append (λ (p : Span). is_ready p.status) (spans_of kept.held)
      (cut_spans batch kept.next front)
      ∙ ap (λ z. filter (λ (p : Span). is_ready p.status) (spans_of kept.held) ++ z)
      (filter_all (λ (p : Span). is_ready p.status) (cut_spans batch kept.next front)
      (all_then CutIsFresh (λ p. is_ready p.status ≡ true) (cut_spans batch kept.next front) (λ p is. ap is_ready is)
      (cut_fresh batch kept.next front))))
      ∙ length-append (filter (λ (p : Span). is_ready p.status) (spans_of kept.held)) (cut_spans batch kept.next front)

  -- how many those are, as they are counted
  module _ (held fresh cut : ℕ) (one : 1 ≤ batch) (before : held ≡ how_many_ready (spans_of kept.held))
      (numbers : fresh ≡ front + 1 - kept.next) (cuts : cut ≡ div_ceil fresh batch) where
    cut_is : cut ≡ length (cut_spans batch kept.next front)
    cut_is =
        let same : fresh ≡ suc front - kept.next = omega (arith, numbers) in
        cuts ∙ ap (λ n. div_ceil n batch) same ∙ sym (cut_length batch kept.next front one)

    pub ready_is : held + cut ≡ how_many_ready (queue_spans batch front kept)
    ready_is = omega (arith, before, cut_is, queue_how_many_ready)

    pub ready_fits : (most : ℕ) → HeldRise 1 kept.held kept.next → front < most → held < most → held + cut < most
    ready_fits most rise placed fits =
        let stored = held_few 1 kept.next kept.held rise in
        let parts = ready_or_out kept.held in
        let few = (cut_many batch kept.next front one).few in
        omega (arith, before, cut_is, stored, parts, few, placed, fits)
