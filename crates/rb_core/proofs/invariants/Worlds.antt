-- The invariant of a world, part by part.
use Rattle.std.proofs.Common.{◌≡◌, ℕ, zero, suc, ◌<◌, ◌≤◌, Bool, List, [], ◌∷◌, ◌++◌, length, map, Option, Some, None}
use Rattle.std.proofs.Common.{option_map, slice_get, slice_set, refl, sym, ap, ◌∙◌, arith}
use Rattle.std.specs.List.{AllByRecursion}
use Rattle.cs_model.specs.declared.shape.Shape.{Shape}
use Rattle.std.proofs.lemmas.List.{length-append, length-map, map-set}
use Rattle.std.proofs.lemmas.Option.{slice_get-map, slice_get_within}
use Rattle.cs_model.proofs.CallerLemmas.{all_push}
use Rattle.rb_desk.specs.declared.delivery.Delivery.{Delivery}
use Rattle.rb_desk.specs.Outline.{Member, Outline, outline_of}
use Rattle.rb_desk.specs.Outline as outline
use Rattle.rb_desk.specs.Picture.{Picture}
use Rattle.rb_sequence.specs.Item.{Item}
use Rattle.rb_sequence.specs.Entry.{Entry}
use Rattle.rb_subscriber.specs.Accept.{IsAdmitted}
use Rattle.rb_subscriber.specs.Endpoint.{Endpoint}
use Rattle.rb_core.specs.declared.publisher.PublisherState.{PublisherState}
use Rattle.rb_core.specs.State.{State, member_of_end, AdmitsAll, AdmitsBody, IsOf, IsWorld}
use Rattle.rb_core.proofs.invariants.DeskLaws.{KeepsLimits}
use Rattle.rb_core.proofs.headline.Moving.{all_map}
use Rattle.rb_core.proofs.invariants.Numbers.{numbered_push}

-- ---- lists

worlds_one_more : {A : Type 0} (xs : List A) (x : A) → length (xs ++ x ∷ []) ≡ suc (length xs)
worlds_one_more xs x = omega (arith, length-append xs (x ∷ []))

-- a delivery stays one of a subscription, and its numbers placed, where both lists grow
still_of : (endpoints endpoints' : List Endpoint) (sequence sequence' : List Entry) (ds : List Delivery)
    → length endpoints ≤ length endpoints' → length sequence ≤ length sequence'
    → AllByRecursion (IsOf endpoints sequence) ds → AllByRecursion (IsOf endpoints' sequence') ds
still_of endpoints endpoints' sequence sequence' ds more longer all =
    all_map (IsOf endpoints sequence) (IsOf endpoints' sequence') ds
    (λ d is. (omega (arith, more, is.0), omega (arith, longer, is.1))) all

-- an end that becomes another one stands among the members as that
pub set_end : (endpoints : List Endpoint) (s : ℕ) (end : Endpoint) → map member_of_end (slice_set endpoints s end)
    ≡ slice_set (map member_of_end endpoints) s (member_of_end end)
set_end endpoints s end = map-set member_of_end endpoints s end

-- one that stays the same member changes no members
pub same_end : (endpoints : List Endpoint) (s : ℕ) (old new : Endpoint) → slice_get endpoints s ≡ Some old
    → member_of_end new ≡ member_of_end old → map member_of_end (slice_set endpoints s new)
    ≡ map member_of_end endpoints
same_end [] s old new found same = refl
same_end (e ∷ endpoints) zero old new found same =
    let is : old ≡ e = cc in
    ap (λ (m : Member). m ∷ map member_of_end endpoints) (same ∙ ap member_of_end is)
same_end (e ∷ endpoints) (suc s) old new found same =
    ap (λ (ms : List Member). member_of_end e ∷ ms) (same_end endpoints s old new found same)

-- the member that the desk finds is that of the end at this place
pub found_end : (w : State) (s : ℕ) (end : Endpoint) (member : Member) → IsWorld w → slice_get w.endpoints s ≡ Some end
    → slice_get (outline_of w.desk).members s ≡ Some member → member ≡ member_of_end end
found_end w s end member good here found =
    let is : slice_get (map member_of_end w.endpoints) s ≡ Some (member_of_end end) =
    slice_get-map member_of_end w.endpoints s ∙ ap (option_map member_of_end) here in
    let there : slice_get (map member_of_end w.endpoints) s ≡ Some member =
    ap (λ (ms : List Member). slice_get ms s) good.members ∙ found in
    cc (sym there ∙ is)

-- and it is there
pub end_within : (w : State) (s : ℕ) (member : Member) → IsWorld w → slice_get (outline_of w.desk).members s
    ≡ Some member → s < length w.endpoints
end_within w s member good found =
    let there : slice_get (map member_of_end w.endpoints) s ≡ Some member =
    ap (λ (ms : List Member). slice_get ms s) good.members ∙ found in
    omega (arith, slice_get_within (map member_of_end w.endpoints) s member there, length-map w.endpoints member_of_end)

-- ---- parts that change

-- publishers, intake, hand and marks change: there are few, and the schema admits what is in them. Nothing depends on
-- how many steps the desk has made.
pub apart : (old : State) (publishers : List PublisherState) (intake : List Item) (hand : Option Item)
    (marks : List Bool) (steps : ℕ) → IsWorld old → length publishers ≤ 64
    → length intake ≤ old.desk.limits.intake → length marks ≤ length old.sequence
    → AdmitsAll old.schema publishers intake hand old.sequence
    → IsWorld
    (record old { publishers = publishers; intake = intake; hand = hand; withdrawn = marks; steps = steps })
apart old publishers intake hand marks steps good few waiting marked admits = record {
  admitted = admits;
  picture = good.picture;
  front = good.front;
  few = few;
  waiting = waiting;
  members = good.members;
  entries = good.entries;
  deliveries = good.deliveries;
  next = good.next;
  are_of = good.are_of;
  marks = marked;
}

pub marks_changed : (old : State) (marks : List Bool) → IsWorld old → length marks ≤ length old.sequence
    → IsWorld (record old { withdrawn = marks })
marks_changed old marks good few =
    apart old old.publishers old.intake old.hand marks old.steps good good.few good.waiting few good.admitted

pub any_steps : (w : State) (steps : ℕ) → IsWorld w → IsWorld (record w { steps = steps })
any_steps w steps good =
    apart w w.publishers w.intake w.hand w.withdrawn steps good good.few good.waiting good.marks good.admitted

-- what waits is within the limits of a later picture
still_waits : (old : State) (desk : Picture) → IsWorld old → desk.limits ≡ old.desk.limits
    → length old.intake ≤ desk.limits.intake
still_waits old desk good same = rw same good.waiting

-- the desk and the ends change together, where nothing is placed or handed over
pub worlds_changed : (old : State) (desk : Picture) (endpoints : List Endpoint) → IsWorld old
    → KeepsLimits old.desk desk → desk.front ≡ old.desk.front → desk.next_delivery ≡ old.desk.next_delivery
    → map member_of_end endpoints ≡ (outline_of desk).members → length old.endpoints ≤ length endpoints
    → IsWorld (record old { desk = desk; endpoints = endpoints })
worlds_changed old desk endpoints good picture front next members more = record {
  admitted = good.admitted;
  picture = picture.0;
  front = front ∙ good.front;
  few = good.few;
  waiting = still_waits old desk good picture.1;
  members = members;
  entries = good.entries;
  deliveries = good.deliveries;
  next = next ∙ good.next;
  are_of = still_of old.endpoints endpoints old.sequence old.sequence old.deliveries more (omega arith) good.are_of;
  marks = good.marks;
}

-- the desk alone, where its outline stays
pub same_outline : (old : State) (desk : Picture) → IsWorld old → KeepsLimits old.desk desk
    → outline_of desk ≡ outline_of old.desk → IsWorld (record old { desk = desk })
same_outline old desk good picture same =
    worlds_changed old desk old.endpoints good picture (ap (λ (o : Outline). o.front) same)
    (ap (λ (o : Outline). o.next_delivery) same)
    (good.members ∙ sym (ap (λ (o : Outline). o.members) same)) (omega arith)

-- a delivery is handed over
pub handed_over : (old : State) (desk : Picture) (delivery : Delivery) → IsWorld old → KeepsLimits old.desk desk
    → outline.Delivers (outline_of old.desk) (outline_of desk) delivery
    → IsWorld (record old { desk = desk; deliveries = old.deliveries ++ delivery ∷ [] })
handed_over old desk delivery good picture hands =
    let front : desk.front ≡ old.desk.front = ap (λ (o : Outline). o.front) hands.kept in
    let next : desk.next_delivery ≡ suc delivery.number = ap (λ (o : Outline). o.next_delivery) hands.kept in
    let number : delivery.number ≡ suc (length old.deliveries) = hands.given ∙ good.next in
    record {
      admitted = good.admitted;
      picture = picture.0;
      front = front ∙ good.front;
      few = good.few;
      waiting = still_waits old desk good picture.1;
      members = good.members ∙ sym (ap (λ (o : Outline). o.members) hands.kept);
      entries = good.entries;
      deliveries = numbered_push (λ (d : Delivery). d.number) 1 old.deliveries delivery good.deliveries
          (omega (arith, number));
      next = omega (arith, next, number, worlds_one_more old.deliveries delivery);
      are_of = all_push (IsOf old.endpoints old.sequence) old.deliveries delivery good.are_of
          (end_within old delivery.sub hands.member good hands.found, omega (arith, hands.placed, good.front));
      marks = good.marks;
    }

-- an item is placed
abbrev pub entry_as : ℕ → Item → Entry
entry_as number item = record { number = number; item = item }

pub placed_next : (old : State) (desk : Picture) (number : ℕ) (item : Item) → IsWorld old → KeepsLimits old.desk desk
    → outline.Places (outline_of old.desk) (outline_of desk) number → AdmitsBody old.schema item.body
    → IsWorld (record old { hand = None; sequence = old.sequence ++ entry_as number item ∷ []; desk = desk })
placed_next old desk number item good picture places admits =
    let front : desk.front ≡ number = ap (λ (o : Outline). o.front) places.kept in
    let is : number ≡ suc (length old.sequence) = places.next ∙ ap suc good.front in
    let longer = worlds_one_more old.sequence (entry_as number item) in
    record {
      admitted = record {
        staged = good.admitted.staged;
        intake = good.admitted.intake;
        hand = tt;
        sequence = all_push (IsAdmitted old.schema) old.sequence (entry_as number item) good.admitted.sequence admits;
      };
      picture = picture.0;
      front = omega (arith, front, is, longer);
      few = good.few;
      waiting = still_waits old desk good picture.1;
      members = good.members ∙ sym (ap (λ (o : Outline). o.members) places.kept);
      entries = numbered_push (λ (e : Entry). e.number) 1 old.sequence (entry_as number item) good.entries
          (omega (arith, is));
      deliveries = good.deliveries;
      next = ap (λ (o : Outline). o.next_delivery) places.kept ∙ good.next;
      are_of = still_of old.endpoints old.endpoints old.sequence (old.sequence ++ entry_as number item ∷ [])
          old.deliveries (omega arith) (omega (arith, longer)) good.are_of;
      marks = omega (arith, good.marks, longer);
    }
