-- The broker's state as a value, and its invariant.
use Rattle.std.specs.Prelude.{◌≡◌, ℕ, suc, ◌+◌, ◌<◌, ◌≤◌, ◌⊎◌, true, List, [], ◌∷◌, length, map}
use Rattle.std.specs.Prelude.{replicate, Option, Some, None, IfSome, Bool, false, zero, ◌-◌}
use Rattle.std.specs.Prelude.{get_or}
use Rattle.std.specs.FinMap as map
use Rattle.std.specs.List.{AllByRecursion}
use Rattle.cs_model.specs.declared.shape.Shape.{Shape}
use Rattle.cs_model.specs.Schema.{refusal_of}
use Rattle.cs_model.specs.Section.{Section}
use Rattle.cs_apply.specs.State as tables
use Rattle.rb_desk.specs.declared.delivery.Delivery.{Delivery}
use Rattle.rb_desk.specs.IsPicture.{IsPicture}
use Rattle.rb_desk.specs.Limits.{Limits}
use Rattle.rb_desk.specs.Outline.{Member, outline_of}
use Rattle.rb_desk.specs.Picture.{Picture, empty_picture}
use Rattle.rb_sequence.specs.Item.{Item}
use Rattle.rb_sequence.specs.Entry.{Entry}
use Rattle.rb_sequence.specs.Items.{AreNumbered}
use Rattle.rb_subscriber.specs.Accept.{IsAdmitted}
use Rattle.rb_subscriber.specs.Endpoint.{Endpoint}
use Rattle.rb_core.specs.contracts.publisher.PublisherState as publisher
use Rattle.rb_core.specs.declared.publisher.PublisherState.{PublisherState}

-- A world. It has the schema, the publishers, and the intake of sent items in order. The item in
-- hand has left the intake and has no number yet. It has the sequence, the desk's picture with the
-- limits, how many steps the desk has made, the subscriptions' endpoints, and all deliveries in
-- order. It has a mark for each entry up to the last withdrawn one, which says whether the entry is
-- withdrawn. Publishers and subscriptions are numbered from 0, entries and deliveries from 1.
pub record State : Type 0 where
  pub schema : List Shape
  pub publishers : List PublisherState
  pub intake : List Item
  pub hand : Option Item
  pub sequence : List Entry
  pub desk : Picture
  pub steps : ℕ
  pub endpoints : List Endpoint
  pub deliveries : List Delivery
  pub withdrawn : List Bool

-- the world before any event
abbrev pub empty_world : Limits → List Shape → State
empty_world limits schema = record {
  schema = schema;
  publishers = [];
  intake = [];
  hand = None;
  sequence = [];
  desk = empty_picture limits;
  steps = 0;
  endpoints = [];
  deliveries = [];
  withdrawn = [];
}

-- tables without rows, all of them kept or none
abbrev pub tables_begun : Bool → List Shape → tables.TableState
tables_begun keeps schema = record {
  schema = schema;
  kept = replicate (length schema) keeps;
  rows = map.empty;
}

abbrev pub empty_tables : List Shape → tables.TableState
empty_tables schema = tables_begun true schema

abbrev pub bare_tables : List Shape → tables.TableState
bare_tables schema = tables_begun false schema

-- the tables that a subscription begins with: all of the schema are kept, or none
abbrev pub AreTablesBegun : List Shape → tables.TableState → Type 0
AreTablesBegun schema begun = (begun ≡ empty_tables schema) ⊎ (begun ≡ bare_tables schema)

-- ---- withdrawn entries

-- whether the entry with this number is withdrawn; one without a mark isn't
abbrev pub is_withdrawn : State → ℕ → Bool
is_withdrawn w n = get_or w.withdrawn (n - 1) false

-- marks the entry at this place, from 0
abbrev pub with_mark : ℕ → List Bool → List Bool
with_mark zero [] = true ∷ []
with_mark zero (flag ∷ flags) = true ∷ flags
with_mark (suc place) [] = false ∷ with_mark place []
with_mark (suc place) (flag ∷ flags) = flag ∷ with_mark place flags

-- ---- the invariant

-- an endpoint as the desk sees its subscription
abbrev pub member_of_end : Endpoint → Member
member_of_end e = record { start = e.start; link = e.link; closed = e.closed }

-- the delivery's subscription exists, and its numbers are placed
abbrev pub IsOf : List Endpoint → List Entry → Delivery → Type 0
IsOf endpoints sequence d = (d.sub < length endpoints) × (d.last ≤ length sequence)

-- the schema admits a changeset
abbrev pub AdmitsBody : List Shape → List Section → Type 0
AdmitsBody schema body = refusal_of schema body ≡ None

-- the schema admits what the publisher staged
abbrev pub AdmitsStaged : List Shape → PublisherState → Type 0
AdmitsStaged schema publisher = IfSome publisher.staged (λ staged. AdmitsBody schema staged.body)

-- The schema admits everything that is staged, waits in the intake, is in hand or is placed.
pub record AdmitsAll (schema : List Shape) (publishers : List PublisherState) (waiting : List Item)
    (pulled : Option Item) (placed : List Entry) : Type 0 where
  pub staged : AllByRecursion (AdmitsStaged schema) publishers
  pub intake : AllByRecursion (λ item. AdmitsBody schema item.body) waiting
  pub hand : IfSome pulled (λ item. AdmitsBody schema item.body)
  pub sequence : AllByRecursion (IsAdmitted schema) placed

-- The invariant of a world. Its schema admits everything that is staged, sent or placed. Its desk
-- shows a picture, whose front is the sequence's last number.
-- There are at most 64 publishers, and the intake has no more items than the picture's limits say.
-- The desk's subscriptions are those of the endpoints. Entries and deliveries are numbered from 1.
-- The subscription of each delivery exists, and its numbers are placed. There are no more marks
-- than entries.
pub record IsWorld (w : State) : Type 0 where
  pub admitted : AdmitsAll w.schema w.publishers w.intake w.hand w.sequence
  pub picture : IsPicture w.desk
  pub front : w.desk.front ≡ length w.sequence
  pub few : length w.publishers ≤ 64
  pub waiting : length w.intake ≤ w.desk.limits.intake
  pub members : map member_of_end w.endpoints ≡ (outline_of w.desk).members
  pub entries : AreNumbered (λ entry. entry.number) 1 w.sequence
  pub deliveries : AreNumbered (λ d. d.number) 1 w.deliveries
  pub next : w.desk.next_delivery ≡ suc (length w.deliveries)
  pub are_of : AllByRecursion (IsOf w.endpoints w.sequence) w.deliveries
  pub marks : length w.withdrawn ≤ length w.sequence

-- how many items are sent and have no number: the intake and the item in hand
abbrev pub how_many_held : Option Item → ℕ
how_many_held None = 0
how_many_held (Some item) = 1

abbrev pub how_many_wait : State → ℕ
how_many_wait w = how_many_held w.hand + length w.intake
