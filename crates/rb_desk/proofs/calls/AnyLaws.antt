-- `take_any` delivers the first span of all, or refuses `Empty` where there is none.
use Rattle.std.proofs.Common.{◌≡◌, ℕ, true, Option, Some, None, refl, sym, ap, ◌∙◌}
use Rattle.std.proofs.Common.{inr, max, Ok, slice_get}
use Rattle.std.specs.List.{find}
use Rattle.rb_deliveries.specs.declared.span.Span.{Span}
use Rattle.rb_deliveries.specs.Changes.{first_of_all, has_room_at, has_room_of, MayDeliver, span_at, span_of}
use Rattle.rb_deliveries.specs.Changes.{span_numbered}
use Rattle.rb_deliveries.specs.Picture.{DeliveryPicture, Subscription}
use Rattle.rb_deliveries.specs.Spans.{beginning}
use Rattle.rb_desk.proofs.pictures.RiseLaws.{found_passes}
use Rattle.rb_desk.specs.Answers.{call_refusal}
use Rattle.rb_desk.specs.Calls.{delivered_any_from, delivered_any_of, delivered_any_span, delivered_picture}
use Rattle.rb_desk.specs.Calls.{delivery_from, has_window_room, refused_call, take_any}
use Rattle.rb_desk.specs.declared.refusal.DeskRefusal.TheVariants as refusal
use Rattle.rb_desk.specs.Picture.{deliveries_of, Picture}

none_is_not_some : {X : Type 0} {x : X} → None ≡ Some x → ⊥
none_is_not_some {X} {x} h = cc

-- the parts of a span with its number
same_pair : (s t : ℕ) (p q : Span) → ◌≡◌ {A = Option (ℕ × Span)} (Some (s, p)) (Some (t, q)) → (s ≡ t) × (p ≡ q)
same_pair s t p q e = (
  ap (λ (o : Option (ℕ × Span)). (option_or_pair o).0) e,
  ap (λ (o : Option (ℕ × Span)). (option_or_pair o).1) e,
)
  where
    option_or_pair : Option (ℕ × Span) → ℕ × Span
    option_or_pair None = (s, p)
    option_or_pair (Some x) = x

-- a subscription that has the first span of all
pub record HoldsFirst (d : DeliveryPicture) (s : ℕ) (span : Span) : Type 0 where
  pub at : ℕ × ℕ
  pub sub : Subscription
  pub first : find (has_room_of d.subscriptions d.window) d.ready ≡ Some at
  pub found : slice_get d.subscriptions at.0 ≡ Some sub
  pub begins : beginning at.1 sub.spans ≡ Some span
  pub is : at.0 ≡ s

pub holds_first : (d : DeliveryPicture) (s : ℕ) (span : Span) → first_of_all d ≡ Some (s, span) → HoldsFirst d s span
holds_first d s span e = by_at (find (has_room_of d.subscriptions d.window) d.ready) refl e
  where
    by_span : (at : ℕ × ℕ) (q : Subscription) (o : Option Span)
        → find (has_room_of d.subscriptions d.window) d.ready ≡ Some at
        → slice_get d.subscriptions at.0 ≡ Some q → beginning at.1 q.spans ≡ o
        → span_numbered at.0 o ≡ Some (s, span) → HoldsFirst d s span
    by_span at q None first found begins e = absurd (none_is_not_some e)
    by_span at q (Some p) first found begins e =
        let same = same_pair at.0 s p span e in
        record { at = at; sub = q; first = first; found = found; begins = begins ∙ ap Some same.1; is = same.0 }

    by_sub : (at : ℕ × ℕ) (o : Option Subscription)
        → find (has_room_of d.subscriptions d.window) d.ready ≡ Some at
        → slice_get d.subscriptions at.0 ≡ o → span_of at.0 at.1 o ≡ Some (s, span) → HoldsFirst d s span
    by_sub at None first found e = absurd (none_is_not_some e)
    by_sub at (Some q) first found e = by_span at q (beginning at.1 q.spans) first found refl e

    by_at : (o : Option (ℕ × ℕ)) → find (has_room_of d.subscriptions d.window) d.ready ≡ o
        → span_at d.subscriptions o ≡ Some (s, span) → HoldsFirst d s span
    by_at None first e = absurd (none_is_not_some e)
    by_at (Some at) first e = by_sub at (slice_get d.subscriptions at.0) first refl e

-- the first span of all may be delivered
pub first_may : (d : DeliveryPicture) (s : ℕ) (span : Span) → first_of_all d ≡ Some (s, span) → MayDeliver d s span
first_may d s span e =
    let h = holds_first d s span e in
    let found : slice_get d.subscriptions s ≡ Some h.sub = ap (slice_get d.subscriptions) (sym h.is) ∙ h.found in
    let passes : has_room_of d.subscriptions d.window h.at ≡ true = found_passes _ d.ready h.at h.first in
    record {
      sub = h.sub;
      found = found;
      room = ap (has_room_at d.window) (sym h.found) ∙ passes;
      first = inr e;
    }

pub take_any_is : (p : Picture) (now s : ℕ) (span : Span) (q : Subscription)
    → first_of_all (deliveries_of p) ≡ Some (s, span) → slice_get p.subscriptions s ≡ Some q
    → take_any p now ≡ (Ok (delivery_from p s q span), delivered_picture p s q span (max p.clock now))
unfolding take_any
take_any_is p now s span q e here =
    let h = holds_first (deliveries_of p) s span e in
    let here' : slice_get p.subscriptions h.at.0 ≡ Some q = ap (slice_get p.subscriptions) h.is ∙ here in
    let mine : Some h.sub ≡ Some q = sym h.found ∙ here' in
    let same : h.sub ≡ q = cc in
    ap (delivered_any_from p now) h.first
    ∙ ap (delivered_any_of p h.at.0 h.at.1 now) here'
    ∙ ap (delivered_any_span p h.at.0 q now) (ap (λ (x : Subscription). beginning h.at.1 x.spans) (sym same) ∙ h.begins)
    ∙ ap (λ n. (Ok (delivery_from p n q span), delivered_picture p n q span (max p.clock now))) h.is

none_is_refused : (p : Picture) (now : ℕ) → first_of_all (deliveries_of p) ≡ None
    → take_any p now ≡ refused_call p (refusal.Empty p.front)
unfolding take_any
none_is_refused p now e = by_at (find (has_window_room p) p.ready) e
  where
    by_span : (s : ℕ) (q : Subscription) (o : Option Span) → span_numbered s o ≡ None
        → delivered_any_span p s q now o ≡ refused_call p (refusal.Empty p.front)
    by_span s q None e = refl
    by_span s q (Some span) e = absurd (none_is_not_some (sym e))

    by_sub : (s first : ℕ) (o : Option Subscription) → span_of s first o ≡ None
        → delivered_any_of p s first now o ≡ refused_call p (refusal.Empty p.front)
    by_sub s first None e = refl
    by_sub s first (Some q) e = by_span s q (beginning first q.spans) e

    by_at : (o : Option (ℕ × ℕ)) → span_at p.subscriptions o ≡ None
        → delivered_any_from p now o ≡ refused_call p (refusal.Empty p.front)
    by_at None e = refl
    by_at (Some at) e = by_sub at.0 at.1 (slice_get p.subscriptions at.0) e

pub take_any_goes : (p : Picture) (now : ℕ) (found : ℕ × Span) → first_of_all (deliveries_of p) ≡ Some found
    → None ≡ call_refusal (take_any p now).0
take_any_goes p now found e =
    let h = holds_first (deliveries_of p) found.0 found.1 e in
    let here : slice_get p.subscriptions found.0 ≡ Some h.sub = ap (slice_get p.subscriptions) (sym h.is) ∙ h.found in
    ap (λ c. call_refusal c.0) (sym (take_any_is p now found.0 found.1 h.sub e here))

pub take_any_is_refused : (p : Picture) (now : ℕ) → first_of_all (deliveries_of p) ≡ None
    → Some (refusal.Empty p.front) ≡ call_refusal (take_any p now).0
take_any_is_refused p now e = ap (λ c. call_refusal c.0) (sym (none_is_refused p now e))
