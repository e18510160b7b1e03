-- What an event and its reply report: a course of moves, and what the broker has after it. This is the common part of
-- all events.
use Rattle.std.proofs.Common.{◌≡◌, ℕ, suc, ◌<◌, inl, inr, Bool, true, false, cond, List, [], ◌∷◌, ◌++◌, Some, refl, sym}
use Rattle.std.proofs.Common.{ap, map, subst, find, ◌==◌, ◌↔◌, ◌∙◌, arith}
use Rattle.std.specs.Prelude.{slice_get, slice_set}
use Rattle.std.specs.List.{AllByRecursion}
use Rattle.std.proofs.lemmas.Bool.Decides.{eqb_tells}
use Rattle.cs_model.specs.declared.shape.Shape.{Shape}
use Rattle.rb_desk.specs.declared.delivery.Delivery.{Delivery}
use Rattle.rb_desk.specs.Outline.{Member, outline_of}
use Rattle.rb_desk.specs.Picture.{Picture}
use Rattle.rb_desk.proofs.pictures.PictureLaws.{get_set, get_set_other}
use Rattle.rb_subscriber.specs.Endpoint.{Endpoint}
use Rattle.rb_core.specs.declared.event.Event.{Event}
use Rattle.rb_core.specs.declared.reply.Reply.{Reply}
use Rattle.rb_core.specs.Moves.{with_subscriber, IsNew, IsUnused, Moves, Leads}
use Rattle.rb_core.specs.Outcome.{with_endpoint}
use Rattle.rb_core.specs.State.{State, AreTablesBegun, IsWorld, is_withdrawn, member_of_end}
use Rattle.rb_core.specs.Told.{told, subscriber_set, subscriber_changed, delivery_told, Paired, IsSender, IsDelivered}
use Rattle.rb_core.specs.Told.{AreBelow, IsToldBy}
use Rattle.rb_core.specs.World.{Subscriber, World, endpoint_of}
use Rattle.rb_core.proofs.headline.Moving.{all_set, all_get, all_map}
use Rattle.rb_core.proofs.whole_runs.Pairs.{get_of_map, map_set}

-- ---- courses

-- a course of moves leads from one world to another
abbrev pub Course : World → World → Type 0
Course old new = (mids : List World) × Leads old mids new

pub no_move : (old new : World) → new ≡ old → Course old new
no_move old new same = ([], same)

pub one_move : (old new : World) → Moves old new → Course old new
one_move old new move = (new ∷ [], (move, refl))

leads_on : (old mid new : World) (some more : List World) → Leads old some mid → Leads mid more new
    → Leads old (some ++ more) new
leads_on old mid new [] more one other = subst (λ w. Leads w more new) one other
leads_on old mid new (first ∷ some) more one other = (one.0, leads_on first mid new some more one.1 other)

pub both_courses : (old mid new : World) → Course old mid → Course mid new → Course old new
both_courses old mid new one other = (one.0 ++ other.0, leads_on old mid new one.0 other.0 one.1 other.1)

-- ---- an event

-- a course of moves leads to a world, and it is what the broker has
abbrev pub IsTold : List Shape → World → State → World → Type 0
IsTold schema old state new = Course old new × IsToldBy schema state new

-- so it is with what an event and its answer tell
abbrev pub TellingGoes : List Shape → World → Event → Reply × State → Type 0
TellingGoes schema world event r = IsTold schema world r.1 (told schema world event r.0)

-- it tells nothing, and nothing that was told has changed
pub nothing_told : (schema : List Shape) (world : World) (event : Event) (given : Reply) (new : State)
    → told schema world event given ≡ world → IsToldBy schema new world → TellingGoes schema world event (given, new)
nothing_told schema world event given new same h = (([], same), subst (IsToldBy schema new) (sym same) h)

-- it tells one move
pub move_told : (schema : List Shape) (old new : World) (event : Event) (given : Reply) (state : State)
    → told schema old event given ≡ new → Moves old new → IsToldBy schema state new
    → TellingGoes schema old event (given, state)
move_told schema old new event given state is move h =
    ((new ∷ [], (move, is)), subst (IsToldBy schema state) (sym is) h)

-- both ways of a test
pub either : (P : Reply × State → Type 0) (b : Bool) (x y : Reply × State) → P x → P y → P (cond b x y)
either P true x y one other = one
either P false x y one other = other

-- ---- numbers and links that are given

-- what is below a number differs from it, and is below the next one
pub all_new : (n : ℕ) (links : List ℕ) → AllByRecursion (λ link. link < n) links → IsNew links n
all_new n links below = all_map (λ (m : ℕ). m < n) (λ (m : ℕ). m ≡ n → ⊥) links
    (λ m less same. omega (arith, less, same)) below

pub all_unused : (n : ℕ) (subs : List Subscriber) → AllByRecursion (AreBelow n) subs → AllByRecursion (IsUnused n) subs
all_unused n subs below =
    all_map (AreBelow n) (IsUnused n) subs
    (λ q all. all_map (λ (o : Delivery). o.number < n) (λ (o : Delivery). o.number ≡ n → ⊥) q.deliveries
    (λ o less same. omega (arith, less, same)) all) below

pub later_links : (n : ℕ) (links : List ℕ) → AllByRecursion (λ link. link < n) links
    → AllByRecursion (λ link. link < suc n) links
later_links n links below = all_map (λ (m : ℕ). m < n) (λ (m : ℕ). m < suc n) links (λ m less. omega (arith, less))
    below

pub later_offers : (n : ℕ) (q : Subscriber) → AreBelow n q → AreBelow (suc n) q
later_offers n q below = all_map (λ (o : Delivery). o.number < n) (λ (o : Delivery). o.number < suc n) q.deliveries
    (λ o less. omega (arith, less)) below

pub later_numbers : (n : ℕ) (subs : List Subscriber) → AllByRecursion (AreBelow n) subs
    → AllByRecursion (AreBelow (suc n)) subs
later_numbers n subs below = all_map (AreBelow n) (AreBelow (suc n)) subs (later_offers n) below

-- ---- subscriptions

-- a subscription began with tables without rows, all of them kept or none
abbrev pub BeginsWithoutRows : List Shape → Subscriber → Type 0
BeginsWithoutRows schema q = AreTablesBegun schema q.base

-- what stands in the place of a subscription that is there
pub changed_is : (old : World) (s : ℕ) (change : Subscriber → Subscriber) (q : Subscriber) → slice_get old.subscribers s
    ≡ Some q → subscriber_changed old s change ≡ with_subscriber old s (change q)
changed_is old s change q found = ap (subscriber_set old s change) found

-- an end's subscription, and that of a member
pub subscriber_of_end : (schema : List Shape) (old : State) (world : World) (s : ℕ) (end : Endpoint)
    → IsToldBy schema old world → slice_get old.endpoints s ≡ Some end → (q : Subscriber)
    × (slice_get world.subscribers s ≡ Some q) × (endpoint_of q ≡ end)
subscriber_of_end schema old world s end h found =
    get_of_map endpoint_of world.subscribers s end (ap (λ ends. slice_get ends s) h.subscriptions.ends ∙ found)

pub subscriber_of_member : (schema : List Shape) (old : State) (world : World) (s : ℕ) (member : Member) → IsWorld old
    → IsToldBy schema old world → slice_get (outline_of old.desk).members s ≡ Some member
    → (q : Subscriber) × (slice_get world.subscribers s ≡ Some q) × (member_of_end (endpoint_of q) ≡ member)
subscriber_of_member schema old world s member good h found =
    let end = get_of_map member_of_end old.endpoints s member (ap (λ members. slice_get members s) good.members ∙ found)
    in
    let q = subscriber_of_end schema old world s end.0 h end.1 in
    (q.0, q.1, ap member_of_end q.2 ∙ end.2)

-- deliveries stay offered where the deliveries to one subscription only grow
pub still_offered : (subs : List Subscriber) (s : ℕ) (q r : Subscriber) (deliveries : List Delivery) → slice_get subs s
    ≡ Some q → ((d : Delivery) → delivery_told d.number q ≡ Some d → delivery_told d.number r ≡ Some d)
    → AllByRecursion (IsDelivered subs) deliveries
    → AllByRecursion (IsDelivered (slice_set subs s r)) deliveries
still_offered subs s q r deliveries found grows all =
    all_map (IsDelivered subs) (IsDelivered (slice_set subs s r)) deliveries stays all
  where
    stays : (d : Delivery) → IsDelivered subs d → IsDelivered (slice_set subs s r) d
    stays d h = elim (eqb_tells s d.sub) as (λ w. IsDelivered (slice_set subs s r) d) [
      | inl is ↦
          let here : slice_get subs d.sub ≡ Some q = subst (λ n. slice_get subs n ≡ Some q) is.1 found in
          let same : h.0 ≡ q = cc (sym h.1 ∙ here) in
          let new : slice_get (slice_set subs s r) d.sub ≡ Some r =
          subst (λ n. slice_get (slice_set subs s r) n ≡ Some r) is.1 (get_set subs s q r found) in
          (r, new, grows d (subst (λ (x : Subscriber). delivery_told d.number x ≡ Some d) same h.2))
      | inr other ↦ (h.0, get_set_other subs s d.sub r (λ e. other.1 (sym e)) ∙ h.1, h.2)
    ]

-- what is sent, what waits, what is placed and what is withdrawn become others; the desk and its subscriptions stay
pub with_sendings : (schema : List Shape) (old new : State) (world after : World)
    → Paired IsSender new.publishers after.senders → after.intake ≡ new.intake → after.hand ≡ new.hand
    → after.sequence ≡ new.sequence
    → ((n : ℕ) → 0 < n → (is_withdrawn new n ≡ false) ↔ IsNew after.withdrawn n) → IsToldBy schema old world
    → IsToldBy schema
    (record new { schema = old.schema; desk = old.desk; endpoints = old.endpoints; deliveries = old.deliveries })
    (record after { closing = world.closing; links = world.links; subscribers = world.subscribers })
with_sendings schema old new world after senders intake hand sequence withdrawn h = record {
  served = h.served;
  senders = senders;
  intake = intake;
  hand = hand;
  sequence = sequence;
  subscriptions = h.subscriptions;
  withdrawn = withdrawn;
}

-- the desk and its subscriptions become others; what is sent, placed and withdrawn stays
pub with_subscriptions : (schema : List Shape) (old new : State) (world after : World)
    → after.closing ≡ new.desk.closing → map endpoint_of after.subscribers ≡ new.endpoints
    → AllByRecursion (IsDelivered after.subscribers) new.deliveries
    → AllByRecursion (λ link. link < new.desk.next_link) after.links
    → AllByRecursion (AreBelow new.desk.next_delivery) after.subscribers
    → AllByRecursion (BeginsWithoutRows schema) after.subscribers → IsToldBy schema old world
    → IsToldBy schema
    (record old { desk = new.desk; steps = new.steps; endpoints = new.endpoints; deliveries = new.deliveries })
    (record world { closing = after.closing; links = after.links; subscribers = after.subscribers })
with_subscriptions schema old new world after closing ends deliveries links numbers bases h = record {
  served = h.served;
  senders = h.senders;
  intake = h.intake;
  hand = h.hand;
  sequence = h.sequence;
  subscriptions = record {
    closing = closing;
    ends = ends;
    deliveries = deliveries;
    links = links;
    numbers = numbers;
    bases = bases;
  };
  withdrawn = h.withdrawn;
}

-- one subscription becomes another that began with the same tables and has the same deliveries, and so does its end
pub telling_with_both : (schema : List Shape) (old : State) (world : World) (s : ℕ) (q r : Subscriber) (end : Endpoint)
    → slice_get world.subscribers s ≡ Some q → r.base ≡ q.base → r.deliveries ≡ q.deliveries → endpoint_of r ≡ end
    → IsToldBy schema old world
    → IsToldBy schema (with_endpoint old s end) (with_subscriber world s r)
telling_with_both schema old world s q r end found base same is h =
    let told = h.subscriptions in
    with_subscriptions schema old (with_endpoint old s end) world (with_subscriber world s r) told.closing
    (map_set endpoint_of world.subscribers s r ∙ ap (λ ends. slice_set ends s (endpoint_of r)) told.ends
    ∙ ap (slice_set old.endpoints s) is)
    (still_offered world.subscribers s q r old.deliveries found
    (λ d here. ap (find (λ (x : Delivery). x.number == d.number)) same ∙ here) told.deliveries)
    told.links
    (all_set (AreBelow old.desk.next_delivery) world.subscribers s r told.numbers
    (subst (AllByRecursion (λ (o : Delivery). o.number < old.desk.next_delivery)) (sym same)
    (all_get (AreBelow old.desk.next_delivery) world.subscribers s q told.numbers found)))
    (all_set (BeginsWithoutRows schema) world.subscribers s r told.bases
    (subst (AreTablesBegun schema) (sym base)
    (all_get (BeginsWithoutRows schema) world.subscribers s q told.bases found))) h

-- ---- the desk

-- the desk changes in nothing that is told; how many steps it has made is not told
pub with_desk : (schema : List Shape) (old : State) (world : World) (desk : Picture) (steps : ℕ)
    → desk.closing ≡ old.desk.closing → desk.next_link ≡ old.desk.next_link
    → desk.next_delivery ≡ old.desk.next_delivery → IsToldBy schema old world
    → IsToldBy schema (record old { desk = desk; steps = steps }) world
with_desk schema old world desk steps closing link delivery h =
    let told = h.subscriptions in
    with_subscriptions schema old (record old { desk = desk; steps = steps }) world world (told.closing ∙ sym closing)
    told.ends told.deliveries (subst (λ n. AllByRecursion (λ (m : ℕ). m < n) world.links) (sym link) told.links)
    (subst (λ n. AllByRecursion (AreBelow n) world.subscribers) (sym delivery) told.numbers) told.bases h

-- it gives a link
pub with_link : (schema : List Shape) (old : State) (world : World) (desk : Picture) (steps link : ℕ)
    → desk.closing ≡ old.desk.closing → link ≡ old.desk.next_link → desk.next_link ≡ suc link
    → desk.next_delivery ≡ old.desk.next_delivery → IsToldBy schema old world
    → IsToldBy schema (record old { desk = desk; steps = steps }) (record world { links = link ∷ world.links })
with_link schema old world desk steps link closing given next delivery h =
    let told = h.subscriptions in
    let links : AllByRecursion (λ (m : ℕ). m < suc link) (link ∷ world.links) = (
      omega arith,
      later_links link world.links
          (subst (λ n. AllByRecursion (λ (m : ℕ). m < n) world.links) (sym given) told.links),
    ) in
    with_subscriptions schema old (record old { desk = desk; steps = steps }) world
    (record world { links = link ∷ world.links }) (told.closing ∙ sym closing) told.ends told.deliveries
    (subst (λ n. AllByRecursion (λ (m : ℕ). m < n) (link ∷ world.links)) (sym next) links)
    (subst (λ n. AllByRecursion (AreBelow n) world.subscribers) (sym delivery) told.numbers) told.bases h
