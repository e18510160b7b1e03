-- What accepting a delivery returns, and what it changes; and what is left if the endpoint falls in
-- the middle of it.
use Rattle.std.specs.Prelude.{◌≡◌, ◌⊎◌, ℕ, suc, ◌-◌, ◌≤◌, Bool, true, false, not, List, [], ◌∷◌}
use Rattle.std.specs.Prelude.{take, drop}
use Rattle.std.specs.Prelude.{Option, Some, None, Result, Ok, Err, OnOk, ◌==◌, nat_le}
use Rattle.std.specs.Prelude.{if◌then◌else◌}
use Rattle.std.specs.List.{flat_map, AllByRecursion}
use Rattle.cs_model.specs.declared.shape.Shape.{Shape}
use Rattle.cs_model.specs.Schema.{refusal_of}
use Rattle.cs_model.specs.declared.schema.SectionFault.{SectionFault}
use Rattle.cs_model.specs.Changeset.{IsChangeset}
use Rattle.cs_model.specs.Section.{Section}
use Rattle.cs_apply.specs.State as tables
use Rattle.cs_apply.specs.Single.{single}
use Rattle.cs_apply.specs.declared.conflict.Conflict.{Conflict}
use Rattle.cs_group.specs.Group.{group_of}
use Rattle.rb_desk.specs.declared.delivery.Delivery.{Delivery}
use Rattle.rb_sequence.specs.Entry.{Entry}
use Rattle.rb_subscriber.specs.declared.refusal.AcceptRefusal.{AcceptRefusal}
use Rattle.rb_subscriber.specs.declared.refusal.AcceptRefusal.TheVariants as refusal
use Rattle.rb_subscriber.specs.declared.refusal.AcceptError.{AcceptError}
use Rattle.rb_subscriber.specs.declared.refusal.AcceptError.TheVariants.{Refused, Memory}
use Rattle.rb_subscriber.specs.Endpoint.{Endpoint}

-- ---- runs of the sequence

-- the n items of a list after the first `after`
abbrev pub part : {A : Type 0} → List A → ℕ → ℕ → List A
part items after n = take n (drop after items)

-- the entries of a sequence that a delivery brings: those with its numbers, first to last
abbrev pub brought : List Entry → Delivery → List Entry
brought sequence delivery =
    part sequence (delivery.first - 1) (suc delivery.last - delivery.first)

-- the sections of all bodies, one entry's after another's
abbrev pub joined_bodies : List Entry → List Section
joined_bodies entries = flat_map (λ entry. entry.item.body) entries

-- each body is a changeset
abbrev pub AreChangesets : List Entry → Type 0
AreChangesets entries = AllByRecursion (λ entry. IsChangeset entry.item.body) entries

-- the tables admit a body
abbrev pub IsAdmitted : List Shape → Entry → Type 0
IsAdmitted schema entry = refusal_of schema entry.item.body ≡ None

-- ---- what is returned

-- the first entry whose body isn't admitted
abbrev pub if_admitted : Option SectionFault → Entry → Option Entry → Option Entry
if_admitted None entry later = later
if_admitted (Some fault) entry later = Some entry

abbrev pub first_outside_entry : List Shape → List Entry → Option Entry
first_outside_entry schema [] = None
first_outside_entry schema (entry ∷ entries) =
    if_admitted (refusal_of schema entry.item.body) entry (first_outside_entry schema entries)

-- moves the cursor to the delivery's last number and sets the new tables; refuses a conflict of the
-- bodies' group
abbrev pub applied : Endpoint → ℕ → Result tables.TableState Conflict
    → Result Endpoint AcceptRefusal
applied old last (Ok tables) = Ok (record old { cursor = last; tables = tables })
applied old last (Err conflict) = Err (refusal.Conflict conflict)

abbrev pub applied_if_admitted : Endpoint → ℕ → List Entry → Option Entry
    → Result Endpoint AcceptRefusal
applied_if_admitted old last entries None =
    applied old last (single old.tables (group_of (joined_bodies entries)))
applied_if_admitted old last entries (Some entry) = Err (refusal.Shape entry.number)

-- why a delivery is refused before anything is asked of its entries; the first in this order
unfoldable pub refusal_before : Endpoint → Delivery → Option AcceptRefusal
refusal_before old delivery =
    if old.fallen then Some refusal.Store
    else if old.closed then Some refusal.Closed
    else if not (delivery.link == old.link) then Some refusal.StaleLink
    else if nat_le delivery.last old.cursor then Some refusal.Seen
    else if not (delivery.first == suc old.cursor) then Some (refusal.Gap (suc old.cursor))
    else None

-- a refusal that asks nothing of the entries
abbrev pub AsksNoEntries : AcceptRefusal → Type 0
AsksNoEntries (refusal.Shape number) = ⊥
AsksNoEntries (refusal.Conflict conflict) = ⊥
AsksNoEntries other = Unit {0}

-- a refusal that comes before the tables are asked
abbrev pub AsksNoTables : AcceptRefusal → Type 0
AsksNoTables (refusal.Conflict conflict) = ⊥
AsksNoTables other = Unit {0}

abbrev pub taken_unless_refused : Option AcceptRefusal → Result Endpoint AcceptRefusal
    → Result Endpoint AcceptRefusal
taken_unless_refused None taken = taken
taken_unless_refused (Some why) taken = Err why

-- Accept: the endpoint after a delivery that brings these entries, or the first refusal
unfoldable pub accept_brought : Endpoint → List Entry → Delivery → Result Endpoint AcceptRefusal
accept_brought old entries delivery = taken_unless_refused (refusal_before old delivery)
    (applied_if_admitted old delivery.last entries (first_outside_entry old.tables.schema entries))

-- the same, of the entries that the delivery brings from a sequence
abbrev pub accept : Endpoint → List Entry → Delivery → Result Endpoint AcceptRefusal
accept old sequence delivery = accept_brought old (brought sequence delivery) delivery

-- An endpoint that fell while it accepted a delivery. Its cursor and its tables are those after the
-- accept if the store kept it, else those before it: never the one without the other.
abbrev pub crashed_as : Bool → Endpoint → Endpoint → Endpoint
crashed_as true old new = record new { fallen = true }
crashed_as false old new = record old { fallen = true }

-- Crash: an accept that falls. It is refused where the accept is.
abbrev pub fallen_unless_refused : Bool → Endpoint → Result Endpoint AcceptRefusal
    → Result Endpoint AcceptRefusal
fallen_unless_refused kept old (Ok new) = Ok (crashed_as kept old new)
fallen_unless_refused kept old (Err why) = Err why

abbrev pub crash : Endpoint → List Entry → Delivery → Bool → Result Endpoint AcceptRefusal
crash old sequence delivery kept = fallen_unless_refused kept old (accept old sequence delivery)

-- Whether the call reaches the tables: the delivery is accepted, or a change conflicts.
abbrev pub AsksTables : Result Endpoint AcceptRefusal → Type 0
AsksTables (Ok new) = Unit {0}
AsksTables (Err refusal.Store) = ⊥
AsksTables (Err refusal.Closed) = ⊥
AsksTables (Err refusal.StaleLink) = ⊥
AsksTables (Err refusal.Seen) = ⊥
AsksTables (Err (refusal.Gap expected)) = ⊥
AsksTables (Err (refusal.Shape number)) = ⊥
AsksTables (Err (refusal.Conflict conflict)) = Unit {0}

-- The call returns what the definition says: the new cursor, or the refusal. Out of memory comes
-- only if the call reaches the tables. Neither error changes the endpoint.
abbrev pub AcceptAnswers : Result ℕ AcceptError → Result Endpoint AcceptRefusal → Endpoint
    → Endpoint → Type 0
AcceptAnswers (Ok cursor) accepted old new = (accepted ≡ Ok new) × (cursor ≡ new.cursor)
AcceptAnswers (Err (Refused why)) accepted old new = (accepted ≡ Err why) × (new ≡ old)
AcceptAnswers (Err Memory) accepted old new = AsksTables accepted × (new ≡ old)

-- P, if the call refuses the delivery for a conflict
abbrev pub OnConflict : Result ℕ AcceptError → Type 0 → Type 0
OnConflict (Err (Refused (refusal.Conflict conflict))) P = P
OnConflict other P = Unit {0}

-- ---- as a step

-- An endpoint accepts a delivery that brings these entries. The endpoint hasn't fallen and isn't
-- closed. The delivery is of its current link, and it begins right after the cursor. The endpoint's
-- tables admit the entries. The group of their bodies applies without conflict. The cursor moves to
-- the delivery's last number, and nothing but cursor and tables changes.
pub record AcceptsBrought (old : Endpoint) (entries : List Entry) (delivery : Delivery)
    (new : Endpoint) : Type 0 where
  pub not_fallen : old.fallen ≡ false
  pub not_closed : old.closed ≡ false
  pub linked : delivery.link ≡ old.link
  pub next : delivery.first ≡ suc old.cursor
  pub some : suc old.cursor ≤ delivery.last
  pub admitted : AllByRecursion (IsAdmitted old.tables.schema) entries
  pub tables : single old.tables (group_of (joined_bodies entries)) ≡ Ok new.tables
  pub kept : new ≡ record old { cursor = delivery.last; tables = new.tables }

-- the same, of the entries that the delivery brings from a sequence
abbrev pub AcceptsDelivery : Endpoint → List Entry → Delivery → Endpoint → Type 0
AcceptsDelivery old sequence delivery new =
    AcceptsBrought old (brought sequence delivery) delivery new

-- ---- what was accepted

-- the entries of a sequence that an endpoint has accepted: those after its start, up to its cursor
abbrev pub accepted_entries : List Entry → Endpoint → List Entry
accepted_entries sequence endpoint = part sequence endpoint.start (endpoint.cursor - endpoint.start)

-- bodies applied one changeset after another, as a single thread does
abbrev pub AppliesSingly : tables.TableState → List Entry → tables.TableState → Type 0
AppliesSingly old [] new = new ≡ old
AppliesSingly old (entry ∷ entries) new = (mid : tables.TableState)
    × (single old entry.item.body ≡ Ok mid) × AppliesSingly mid entries new

-- Where these entries apply singly, without conflict, to the first tables, the tables now are what
-- one thread gets that applies them so.
abbrev pub HasSingleTables : tables.TableState → List Entry → tables.TableState → Type 0
HasSingleTables first entries now = (tables : tables.TableState)
    → AppliesSingly first entries tables → now ≡ tables

-- a call of an endpoint that returned `Ok` left such tables
abbrev pub LeavesSingly : {T E : Type 0} → Result T E → Endpoint → List Entry → Endpoint → Type 0
LeavesSingly result old entries new = OnOk result (HasSingleTables old.tables entries new.tables)

-- bodies applied one after another, of which one conflicts: those before it apply, and it doesn't
abbrev pub ConflictsSingly : tables.TableState → List Entry → Type 0
ConflictsSingly old [] = ⊥
ConflictsSingly old (entry ∷ entries) =
    ((conflict : Conflict) × (single old entry.item.body ≡ Err conflict))
    ⊎ ((mid : tables.TableState) × (single old entry.item.body ≡ Ok mid)
    × ConflictsSingly mid entries)
