-- The stored spans after one of them is opened.
use Rattle.std.proofs.Common.{◌≡◌, ℕ, zero, suc, ◌+◌, ◌-◌, ◌≤◌, Bool, true, false, cond, List, [], ◌∷◌, ◌++◌}
use Rattle.std.proofs.Common.{◌<◌, eqb, eq-eqb, Ok, Err, OnOk, OnErr, Result, refl, sym, ap, subst, ◌∙◌, arith}
use Rattle.std.specs.List.{AllByRecursion}
use Rattle.rb_deliveries.specs.declared.rank.Rank.{Rank}
use Rattle.rb_deliveries.specs.declared.rank.Held.{Held}
use Rattle.rb_deliveries.specs.Queues.{HeldRise}
use Rattle.rb_deliveries.specs.Opening.{opened_held, single_held, singles_held}
use Rattle.rb_deliveries.specs.Spans.{span_length}
use Rattle.rb_deliveries.specs.Taken.{NoSpanBegins}
use Rattle.rb_deliveries.proofs.spans.QueueLaws.{joins_reach, rises_earlier}

-- one number more
pub singles_more : (latest : Rank) (n count : ℕ) → singles_held latest n (suc count)
    ≡ singles_held latest n count ++ single_held latest (n + count) ∷ []
singles_more latest n zero = ap (λ m. single_held latest m ∷ []) (omega arith)
singles_more latest n (suc count) =
    ap (λ hs. single_held latest n ∷ hs) (singles_more latest (suc n) count
    ∙ ap (λ m. singles_held latest (suc n) count ++ single_held latest m ∷ []) (omega arith))

module _ (first : ℕ) (latest : Rank) where
  -- what becomes of one span
  abbrev opened : Bool → Held → List Held
  opened b h = cond b (singles_held latest h.span.first (span_length h.span)) (h ∷ [])

  -- where none begins so, all stays
  pub opened_absent : (held : List Held) → NoSpanBegins first held → opened_held first latest held ≡ held
  opened_absent [] none = refl
  opened_absent (h ∷ rest) none =
      ap (λ b. opened b h ++ opened_held first latest rest) none.0
      ∙ ap (λ hs. h ∷ hs) (opened_absent rest none.1)

  -- where one begins so, it alone is opened
  pub opened_between : (front : List Held) (h : Held) (back : List Held) → NoSpanBegins first front →
      NoSpanBegins first back → h.span.first ≡ first →
      opened_held first latest (front ++ h ∷ back)
      ≡ front ++ (singles_held latest first (suc h.span.last - first) ++ back)
  opened_between [] h back none later begins =
      ap (λ b. opened b h ++ opened_held first latest back) (eq-eqb h.span.first first begins)
      ∙ (λ i. singles_held latest (begins i) (suc h.span.last - begins i) ++ opened_absent back later i)
  opened_between (x ∷ front) h back none later begins =
      ap (λ b. opened b x ++ opened_held first latest (front ++ h ∷ back)) none.0
      ∙ ap (λ hs. x ∷ hs) (opened_between front h back none.1 later begins)

  -- ---- spans that rise

  singles_rise : (low n count end next : ℕ) (rest : List Held) → low ≤ n → n + count ≡ end → HeldRise end rest next →
      HeldRise low (singles_held latest n count ++ rest) next
  singles_rise low n zero end next rest le ends rise = rises_earlier end low next rest (omega (arith, le, ends)) rise
  singles_rise low n (suc count) end next rest le ends rise = (
    le,
    omega arith,
    singles_rise (suc n) (suc n) count end next rest (omega arith) (omega (arith, ends)) rise,
  )

  pub joins_opened : (low next : ℕ) (held : List Held) → HeldRise low held next →
      HeldRise low (opened_held first latest held) next
  joins_opened low next [] rise = rise
  joins_opened low next (h ∷ rest) rise =
      by_test (eqb h.span.first first) (joins_opened (suc h.span.last) next rest rise.2)
    where
      by_test : (b : Bool) → HeldRise (suc h.span.last) (opened_held first latest rest) next →
          HeldRise low (opened b h ++ opened_held first latest rest) next
      by_test true later =
          singles_rise low h.span.first (span_length h.span) (suc h.span.last) next (opened_held first latest rest)
          rise.0 (omega (arith, rise.1)) later
      by_test false later = (rise.0, rise.1, later)

  -- they rise whether memory ran out or not
  pub joins_tried : {A E : Type 0} (r : Result A E) (low next : ℕ) (old new : List Held) →
      OnOk r (new ≡ opened_held first latest old) → OnErr r (new ≡ old) → HeldRise low old next → HeldRise low new next
  joins_tried (Ok x) low next old new ok err rise =
      subst (λ held. HeldRise low held next) (sym ok) (joins_opened low next old rise)
  joins_tried (Err e) low next old new ok err rise = subst (λ held. HeldRise low held next) (sym err) rise

-- a turn is left for each of their numbers
pub opened_turns_left : (turn most low next : ℕ) (held : List Held) → HeldRise low held next → turn + next ≤ most →
    AllByRecursion (λ h. turn + h.span.last < most) held
opened_turns_left turn most low next [] rise few = tt
opened_turns_left turn most low next (h ∷ rest) rise few = (
  omega (arith, joins_reach (suc h.span.last) next rest rise.2, few),
  opened_turns_left turn most (suc h.span.last) next rest rise.2 few,
)
