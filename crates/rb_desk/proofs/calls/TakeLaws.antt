-- A delivery that is taken has the number and the link that were asked for; `Drained` comes only where the cursor is the
-- closing number.
use Rattle.std.proofs.Common.{◌≡◌, ◌==◌, ℕ, Bool, true, false, not, cond, Option, Some, None, Result, Ok, Err, refl, sym, ap, ◌∙◌}
use Rattle.std.proofs.Common.{inl, inr, List, [], ◌∷◌}
use Rattle.std.specs.Prelude.{slice_get}
use Rattle.std.proofs.lemmas.Bool.{false≢true}
use Rattle.std.proofs.lemmas.Bool.Decides.{eqb_tells}
use Rattle.rb_desk.specs.Calls.{take, delivered_from, delivered_span, delivery_from, is_drained, none_ready}
use Rattle.rb_deliveries.specs.Changes.{has_room}
use Rattle.rb_desk.specs.Calls.{refused_call}
use Rattle.rb_desk.proofs.calls.CallCases.{either_way}
use Rattle.rb_deliveries.specs.Spans.{first_ready}
use Rattle.rb_deliveries.specs.declared.span.Span.{Span}
use Rattle.rb_desk.specs.Picture.{Picture}
use Rattle.rb_deliveries.specs.Picture.{Subscription}
use Rattle.rb_desk.specs.declared.delivery.Delivery.{Delivery}
use Rattle.rb_desk.specs.declared.refusal.DeskRefusal.{DeskRefusal}
use Rattle.rb_desk.specs.declared.refusal.DeskRefusal.TheVariants as refusal

abbrev TakeResult : Type 0
TakeResult = Result Delivery DeskRefusal × Picture

link_asked : (a b : ℕ) → not (a == b) ≡ false → a ≡ b
link_asked a b e = elim (eqb_tells a b) as (λ w. a ≡ b) [
  | inl same ↦ same.1
  | inr other ↦ absurd (false≢true (sym e ∙ ap not other.0))
]

not_refused_first : (old : Picture) (b : Bool) (why : DeskRefusal) (rest : TakeResult) (d : Delivery) (new : Picture)
    → cond b (refused_call old why) rest ≡ (Ok d, new) → (b ≡ false) × (rest ≡ (Ok d, new))
not_refused_first old true why rest d new e = absurd (let same : Err why ≡ Ok d = ap (λ (p : TakeResult). p.0) e in cc)
not_refused_first old false why rest d new e = (refl, e)

span_as_asked : (old : Picture) (s : ℕ) (q : Subscription) (cursor now : ℕ) (o : Option Span) (d : Delivery)
    (new : Picture) → delivered_span old s q cursor now o ≡ (Ok d, new) → (d.sub ≡ s) × (d.link ≡ q.link)
span_as_asked old s q cursor now None d new e = absurd (
    let same : Err (none_ready old q cursor old.closing) ≡ Ok d = ap (λ (p : TakeResult). p.0) e in cc)
span_as_asked old s q cursor now (Some span) d new e =
    let ok : Ok (delivery_from old s q span) ≡ Ok d = ap (λ (p : TakeResult). p.0) e in
    let same : delivery_from old s q span ≡ d = cc in
    (sym (ap (λ (x : Delivery). x.sub) same), sym (ap (λ (x : Delivery). x.link) same))

found_as_asked : (old : Picture) (s link cursor now : ℕ) (o : Option Subscription) (d : Delivery) (new : Picture)
    → delivered_from old s link cursor now o ≡ (Ok d, new) → (d.sub ≡ s) × (d.link ≡ link)
found_as_asked old s link cursor now None d new e = absurd (
    let same : Err refusal.NoSuch ≡ Ok d = ap (λ (p : TakeResult). p.0) e in cc)
found_as_asked old s link cursor now (Some q) d new e =
    let linked = not_refused_first old (not (link == q.link)) refusal.StaleLink _ d new e in
    let open_ = not_refused_first old q.closed refusal.Closed _ d new linked.1 in
    let room = not_refused_first old (not (has_room old.limits.window q)) refusal.WindowFull
    (delivered_span old s q cursor now (first_ready q.spans)) d new open_.1 in
    let names = span_as_asked old s q cursor now (first_ready q.spans) d new room.1 in
    (names.0, names.1 ∙ sym (link_asked link q.link linked.0))

pub take_as_asked : (old : Picture) (s link cursor now : ℕ) (d : Delivery) (new : Picture)
    → take old s link cursor now ≡ (Ok d, new) → (d.sub ≡ s) × (d.link ≡ link)
unfolding take
take_as_asked old s link cursor now d new e = found_as_asked old s link cursor now (slice_get old.subscriptions s) d new e

-- ---- drained

drained_at : (m n : ℕ) → refusal.Drained m ≡ refusal.Drained n → m ≡ n
drained_at m n e = cc

empty_is_not_drained : (front last : ℕ) → refusal.Empty front ≡ refusal.Drained last → ⊥
empty_is_not_drained front last e = cc

tells_drained : (spans : List Span) (cursor at last front : ℕ)
    → cond (is_drained spans cursor at) (refusal.Drained at) (refusal.Empty front) ≡ refusal.Drained last
    → (cursor ≡ at) × (at ≡ last)
tells_drained [] cursor at last front e = elim (eqb_tells cursor at) as (λ w. (cursor ≡ at) × (at ≡ last)) [
  | inl same ↦ (same.1, drained_at at last (ap (λ b. cond b (refusal.Drained at) (refusal.Empty front)) (sym same.0) ∙ e))
  | inr other ↦ absurd (empty_is_not_drained front last
      (ap (λ b. cond b (refusal.Drained at) (refusal.Empty front)) (sym other.0) ∙ e))
]
tells_drained (p ∷ rest) cursor at last front e = absurd (empty_is_not_drained front last e)

at_the_end : (old : Picture) (q : Subscription) (cursor last : ℕ) (o : Option ℕ)
    → none_ready old q cursor o ≡ refusal.Drained last → (cursor ≡ last) × (o ≡ Some last)
at_the_end old q cursor last None e = absurd (empty_is_not_drained old.front last e)
at_the_end old q cursor last (Some at) e =
    let both = tells_drained q.spans cursor at last old.front e in (both.0 ∙ both.1, ap (λ n. Some n) both.1)

abbrev the_error : DeskRefusal → Result Delivery DeskRefusal
the_error why = Err why

not_ready : (old : Picture) (s : ℕ) (q : Subscription) (cursor now last : ℕ) (o : Option Span)
    → (delivered_span old s q cursor now o).0 ≡ Err (refusal.Drained last) → (cursor ≡ last) × (old.closing ≡ Some last)
not_ready old s q cursor now last None e =
    let same : the_error (none_ready old q cursor old.closing) ≡ the_error (refusal.Drained last) = e in
    let why : none_ready old q cursor old.closing ≡ refusal.Drained last = cc in
    at_the_end old q cursor last old.closing why
not_ready old s q cursor now last (Some span) e = absurd (let no : Ok (delivery_from old s q span) ≡ Err (refusal.Drained last) = e in cc)

abbrev DrainsAtEnd : Picture → ℕ → ℕ → TakeResult → Type 0
DrainsAtEnd old cursor last x = x.0 ≡ Err (refusal.Drained last) → (cursor ≡ last) × (old.closing ≡ Some last)

pub drained_at_the_end : (old : Picture) (s link cursor now last : ℕ) → DrainsAtEnd old cursor last (take old s link cursor now)
unfolding take
drained_at_the_end old s link cursor now last = by (slice_get old.subscriptions s)
  where
    by : (o : Option Subscription) → DrainsAtEnd old cursor last (delivered_from old s link cursor now o)
    by None = λ e. absurd (let no : Err refusal.NoSuch ≡ Err (refusal.Drained last) = e in cc)
    by (Some q) =
        either_way (DrainsAtEnd old cursor last) (not (link == q.link)) _ _
        (λ e. absurd (let no : Err refusal.StaleLink ≡ Err (refusal.Drained last) = e in cc))
        (either_way (DrainsAtEnd old cursor last) q.closed _ _
        (λ e. absurd (let no : Err refusal.Closed ≡ Err (refusal.Drained last) = e in cc))
        (either_way (DrainsAtEnd old cursor last) (not (has_room old.limits.window q)) _ _
        (λ e. absurd (let no : Err refusal.WindowFull ≡ Err (refusal.Drained last) = e in cc))
        (not_ready old s q cursor now last (first_ready q.spans))))
