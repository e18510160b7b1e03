-- Where a run's `Accept` is refused for a conflict, what the delivery would bring conflicts singly.
use Rattle.std.proofs.Common.{◌≡◌, ℕ, suc, ◌-◌, List, Option, Some, None, Result, Ok, Err, slice_get, refl, sym, ap, subst, ◌∙◌}
use Rattle.std.specs.Prelude.{◌-◌}
use Rattle.cs_model.specs.declared.shape.Shape.{Shape}
use Rattle.cs_apply.specs.Columns.{HaveColumns}
use Rattle.cs_apply.specs.declared.conflict.Conflict.{Conflict}
use Rattle.rb_desk.specs.declared.delivery.Delivery.{Delivery}
use Rattle.rb_sequence.specs.Entry.{Entry}
use Rattle.rb_subscriber.specs.Accept.{accept, brought, AreChangesets, ConflictsSingly}
use Rattle.rb_subscriber.specs.declared.refusal.AcceptRefusal.{AcceptRefusal}
use Rattle.rb_subscriber.specs.declared.refusal.AcceptRefusal.TheVariants as why
use Rattle.rb_subscriber.specs.Endpoint.{Endpoint}
use Rattle.rb_core.specs.declared.event.Event.TheVariants as event
use Rattle.rb_core.specs.declared.reply.Reply.{Reply}
use Rattle.rb_core.specs.declared.reply.Reply.TheVariants as reply
use Rattle.rb_core.specs.declared.reply.BrokerRefusal.{BrokerRefusal}
use Rattle.rb_core.specs.declared.reply.BrokerRefusal.TheVariants as refusal
use Rattle.rb_core.specs.Outcome.{outcome, delivery_of, accepted_by, accepted_at, accepted_as}
use Rattle.rb_core.specs.State.{State}
use Rattle.rb_core.specs.World.{Subscriber, World, world_begun, endpoint_of}
use Rattle.rb_core.proofs.headline.Moving.{all_get}
use Rattle.rb_core.proofs.headline.Singly.{SinglyLaws, columns_stay, part_of_changesets}
use Rattle.rb_core.proofs.reports.Telling.{BeginsWithoutRows, IsTold, subscriber_of_end}
use Rattle.rb_core.proofs.whole_runs.ToldLaws.{begun_have_columns}

-- ---- the event

-- the endpoint of the delivery with this number refuses it for a conflict
abbrev pub RefusesConflict : State → ℕ → Conflict → Type 0
RefusesConflict old d conflict = (delivery : Delivery) × (end : Endpoint) × (delivery_of old d ≡ Some delivery)
    × (slice_get old.endpoints delivery.sub ≡ Some end)
    × (accept end old.sequence delivery ≡ Err (why.Conflict conflict))

module _ (old : State) (d : ℕ) (conflict : Conflict) (new : State) where
  abbrev says : BrokerRefusal → Type 0
  says other = reply.Refused other ≡ reply.Refused (refusal.Accept (why.Conflict conflict))

  conflict_by_answer : (delivery : Delivery) (end : Endpoint) (r : Result Endpoint AcceptRefusal)
      → delivery_of old d ≡ Some delivery → slice_get old.endpoints delivery.sub ≡ Some end
      → accept end old.sequence delivery ≡ r
      → accepted_by old delivery.sub r ≡ (reply.Refused (refusal.Accept (why.Conflict conflict)), new)
      → RefusesConflict old d conflict
  conflict_by_answer delivery end (Ok after) known here is given =
      absurd (let other : reply.Accepted delivery.sub after.cursor
      ≡ reply.Refused (refusal.Accept (why.Conflict conflict)) =
      ap (λ (x : Reply × State). x.0) given in cc)
  conflict_by_answer delivery end (Err other) known here is given =
      let refused : says (refusal.Accept other) = ap (λ (x : Reply × State). x.0) given in
      let same : other ≡ why.Conflict conflict = cc in
      (delivery, end, known, here, is ∙ ap (λ w. Err w) same)

  conflict_by_end : (delivery : Delivery) (found : Option Endpoint) → delivery_of old d ≡ Some delivery
      → slice_get old.endpoints delivery.sub ≡ found
      → accepted_at old delivery found ≡ (reply.Refused (refusal.Accept (why.Conflict conflict)), new)
      → RefusesConflict old d conflict
  conflict_by_end delivery None known here given =
      absurd (let other : says refusal.NoDelivery = ap (λ (x : Reply × State). x.0) given in cc)
  conflict_by_end delivery (Some end) known here given =
      conflict_by_answer delivery end (accept end old.sequence delivery) known here refl given

  conflict_by_delivery : (found : Option Delivery) → delivery_of old d ≡ found
      → accepted_as old found ≡ (reply.Refused (refusal.Accept (why.Conflict conflict)), new)
      → RefusesConflict old d conflict
  conflict_by_delivery None known given =
      absurd (let other : says refusal.NoDelivery = ap (λ (x : Reply × State). x.0) given in cc)
  conflict_by_delivery (Some delivery) known given =
      conflict_by_end delivery (slice_get old.endpoints delivery.sub) known refl given

  pub refuses_conflict : outcome old (event.Accept d)
      ≡ (reply.Refused (refusal.Accept (why.Conflict conflict)), new) → RefusesConflict old d conflict
  unfolding outcome
  refuses_conflict given = conflict_by_delivery (delivery_of old d) refl given

-- ---- the run

abbrev pub ConflictIsSingle : Type 0
ConflictIsSingle = (old : Endpoint) (sequence : List Entry) (delivery : Delivery) (conflict : Conflict)
    → AreChangesets (brought sequence delivery) → HaveColumns old.tables
    → accept old sequence delivery ≡ Err (why.Conflict conflict)
    → ConflictsSingly old.tables (brought sequence delivery)

pub conflict_in_run : ConflictIsSingle → SinglyLaws → (schema : List Shape) (old : State) (world : World) (d : ℕ)
    (conflict : Conflict) → IsTold schema world_begun old world → AreChangesets world.sequence
    → RefusesConflict old d conflict
    → (delivery : Delivery) × (subscriber : Subscriber) × (delivery_of old d ≡ Some delivery)
    × (slice_get world.subscribers delivery.sub ≡ Some subscriber)
    × ConflictsSingly subscriber.tables (brought old.sequence delivery)
conflict_in_run law laws schema old world d conflict told valid refuses =
    let delivery = refuses.0 in
    let at = subscriber_of_end schema old world delivery.sub refuses.1 told.1 refuses.3 in
    let q = at.0 in
    let refused : accept (endpoint_of q) old.sequence delivery ≡ Err (why.Conflict conflict) =
    subst (λ e. accept e old.sequence delivery ≡ Err (why.Conflict conflict)) (sym at.2) refuses.4 in
    let begun =
    all_get (BeginsWithoutRows schema) world.subscribers delivery.sub q told.1.subscriptions.bases at.1 in
    let have = columns_stay laws told.0.0 world delivery.sub q told.0.1 at.1 valid
    (begun_have_columns schema q.base begun) in
    let placed : AreChangesets old.sequence = subst AreChangesets told.1.sequence valid in
    let brings = part_of_changesets old.sequence (delivery.first - 1) (suc delivery.last - delivery.first) placed in
    (delivery, q, refuses.2, at.1, law (endpoint_of q) old.sequence delivery conflict brings have refused)
