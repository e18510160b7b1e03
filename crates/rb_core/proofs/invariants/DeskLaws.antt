-- The desk's laws in the form that the lemmas here use: what a call preserves, and what it changes in the outline.
use Rattle.std.proofs.Common.{◌≡◌, ℕ, Ok, refl, subst}
use Rattle.rb_desk.specs.declared.delivery.Delivery.{Delivery}
use Rattle.rb_desk.specs.declared.step.Step.{Step}
use Rattle.rb_desk.specs.declared.step.Step.TheVariants as step
use Rattle.rb_desk.specs.Calls.{subscribe, take, take_any, ack, nack, expire, reconnect, unsubscribe, prepare, place}
use Rattle.rb_desk.specs.Calls.{close, nack_opened}
use Rattle.rb_desk.specs.IsPicture.{IsPicture}
use Rattle.rb_desk.specs.Outline.{outline_of}
use Rattle.rb_desk.specs.Outline as outline
use Rattle.rb_desk.specs.Picture.{Picture}
use Rattle.rb_desk.specs.Steps.{after_step}

-- a picture with the limits of an older one
abbrev pub KeepsLimits : Picture → Picture → Type 0
KeepsLimits old new = IsPicture new × (new.limits ≡ old.limits)

-- every call keeps what a picture keeps, and its limits
abbrev pub KeepsPictures : Type 0
KeepsPictures = (old : Picture) (step : Step) → IsPicture old → KeepsLimits old (after_step old step)

-- what each call changes in the outline
pub record DeskShows : Type 0 where
  pub subscribes : (old : Picture) (start s link : ℕ) (new : Picture) → subscribe old start ≡ (Ok (s, link), new)
      → outline.Subscribes (outline_of old) (outline_of new) start s link
  pub takes : (old : Picture) (s link cursor now : ℕ) (delivery : Delivery) (new : Picture) → IsPicture old
      → take old s link cursor now ≡ (Ok delivery, new) → (delivery.sub ≡ s)
      × outline.Delivers (outline_of old) (outline_of new) delivery
  pub takes_any : (old : Picture) (now : ℕ) (delivery : Delivery) (new : Picture) → IsPicture old → take_any old now
      ≡ (Ok delivery, new) → outline.Delivers (outline_of old) (outline_of new) delivery
  pub acks : (old : Picture) (s link number cursor floor : ℕ) (new : Picture) → ack old s link number cursor
      ≡ (Ok floor, new) → outline_of new ≡ outline_of old
  pub nacks : (old : Picture) (s link number : ℕ) (new : Picture) → nack old s link number ≡ (Ok tt, new)
      → outline_of new ≡ outline_of old
  pub opens : (old : Picture) (s link number count : ℕ) (new : Picture) → nack_opened old s link number
      ≡ (Ok count, new) → outline_of new ≡ outline_of old
  pub expires : (old : Picture) (now many : ℕ) (new : Picture) → expire old now ≡ (many, new) → outline_of new
      ≡ outline_of old
  pub reconnects : (old : Picture) (s cursor link : ℕ) (new : Picture) → reconnect old s cursor ≡ (Ok link, new)
      → outline.Reconnects (outline_of old) (outline_of new) s link
  pub unsubscribes : (old : Picture) (s link : ℕ) (new : Picture) → unsubscribe old s link ≡ (Ok tt, new)
      → outline.Unsubscribes (outline_of old) (outline_of new) s
  pub places : (old : Picture) (number : ℕ) → prepare old ≡ Ok number
      → outline.Places (outline_of old) (outline_of (place old)) number
  pub closes : (old : Picture) (last : ℕ) (new : Picture) → IsPicture old → close old ≡ (last, new)
      → outline.Closes (outline_of old) (outline_of new) last

-- a placement, where the desk has a number for it
placed_step : (old : Picture) (number : ℕ) → prepare old ≡ Ok number → after_step old step.Place ≡ place old
unfolding after_step
placed_step old number ready = rw ready refl

pub place_keeps : KeepsPictures → (old : Picture) (number : ℕ) → prepare old ≡ Ok number → IsPicture old
    → KeepsLimits old (place old)
place_keeps keeps old number ready good =
    subst (KeepsLimits old) (placed_step old number ready) (keeps old step.Place good)
