-- What the reply to an accepted delivery says: the delivery's last number, which is the endpoint's new cursor.
use Rattle.std.proofs.Common.{◌≡◌, ℕ, Option, Some, None, Result, Ok, Err, slice_get, refl, sym, ap, ◌∙◌}
use Rattle.rb_desk.proofs.pictures.PictureLaws.{get_set}
use Rattle.rb_desk.specs.declared.delivery.Delivery.{Delivery}
use Rattle.rb_subscriber.specs.Accept.{accept}
use Rattle.rb_subscriber.specs.declared.refusal.AcceptRefusal.{AcceptRefusal}
use Rattle.rb_subscriber.specs.Endpoint.{Endpoint}
use Rattle.rb_core.specs.declared.event.Event.TheVariants as event
use Rattle.rb_core.specs.declared.reply.Reply.{Reply}
use Rattle.rb_core.specs.declared.reply.Reply.TheVariants as reply
use Rattle.rb_core.specs.declared.reply.BrokerRefusal.TheVariants as refusal
use Rattle.rb_core.specs.Outcome.{outcome, delivery_of, accepted_by, accepted_at, accepted_as, with_endpoint}
use Rattle.rb_core.specs.State.{State}
use Rattle.rb_core.proofs.invariants.WorldDeliveries.{AcceptsBySteps}

-- the world before and after, the number of the delivery, and what the reply says
module _ (steps : AcceptsBySteps) (old : State) (d s cursor : ℕ) (new : State) where
  -- the subscription is the delivery's, and the cursor its last number and that of the new endpoint
  abbrev SaysCursor : Type 0
  SaysCursor = (delivery : Delivery) × (end : Endpoint) × (delivery_of old d ≡ Some delivery) × (delivery.sub ≡ s)
      × (delivery.last ≡ cursor) × (slice_get new.endpoints s ≡ Some end) × (end.cursor ≡ cursor)

  by_answer : (delivery : Delivery) (end : Endpoint) (r : Result Endpoint AcceptRefusal)
      → delivery_of old d ≡ Some delivery → slice_get old.endpoints delivery.sub ≡ Some end
      → accept end old.sequence delivery ≡ r → accepted_by old delivery.sub r ≡ (reply.Accepted s cursor, new)
      → SaysCursor
  by_answer delivery end (Err why) known here is says =
      absurd (let other : reply.Refused (refusal.Accept why) ≡ reply.Accepted s cursor =
      ap (λ (x : Reply × State). x.0) says in cc)
  by_answer delivery end (Ok after) known here is says =
      let given : reply.Accepted delivery.sub after.cursor ≡ reply.Accepted s cursor =
      ap (λ (x : Reply × State). x.0) says in
      let left : with_endpoint old delivery.sub after ≡ new = ap (λ (x : Reply × State). x.1) says in
      let sub : delivery.sub ≡ s = cc in
      let told : after.cursor ≡ cursor = cc in
      let step = (steps end old.sequence delivery after).0 is in
      let last : after.cursor ≡ delivery.last = ap (λ (e : Endpoint). e.cursor) step.kept in
      let there : slice_get new.endpoints delivery.sub ≡ Some after =
      ap (λ (w : State). slice_get w.endpoints delivery.sub) (sym left)
      ∙ get_set old.endpoints delivery.sub end after here in
      (delivery, after, known, sub, sym last ∙ told, ap (slice_get new.endpoints) (sym sub) ∙ there, told)

  by_end : (delivery : Delivery) (found : Option Endpoint) → delivery_of old d ≡ Some delivery
      → slice_get old.endpoints delivery.sub ≡ found
      → accepted_at old delivery found ≡ (reply.Accepted s cursor, new) → SaysCursor
  by_end delivery None known here says =
      absurd (let other : reply.Refused refusal.NoDelivery ≡ reply.Accepted s cursor =
      ap (λ (x : Reply × State). x.0) says in cc)
  by_end delivery (Some end) known here says =
      by_answer delivery end (accept end old.sequence delivery) known here refl says

  by_delivery : (found : Option Delivery) → delivery_of old d ≡ found
      → accepted_as old found ≡ (reply.Accepted s cursor, new) → SaysCursor
  by_delivery None known says =
      absurd (let other : reply.Refused refusal.NoDelivery ≡ reply.Accepted s cursor =
      ap (λ (x : Reply × State). x.0) says in cc)
  by_delivery (Some delivery) known says =
      by_end delivery (slice_get old.endpoints delivery.sub) known refl says

  pub accepted_says_cursor : outcome old (event.Accept d) ≡ (reply.Accepted s cursor, new) → SaysCursor
  unfolding outcome
  accepted_says_cursor says = by_delivery (delivery_of old d) refl says
