-- Where the group of a delivery's bodies conflicts, so do the bodies applied one after another.
use Rattle.std.proofs.Common.{◌≡◌, ◌==◌, ℕ, suc, inl, inr, Bool, true, false, not, cond, List, [], ◌∷◌}
use Rattle.std.proofs.Common.{Option, Some, None, Result, Ok, Err, refl, sym, ap, ◌∙◌}
use Rattle.std.specs.Prelude.{nat_le}
use Rattle.cs_apply.specs.declared.conflict.Conflict.{Conflict}
use Rattle.cs_model.specs.Changeset.{IsChangeset}
use Rattle.cs_model.specs.Section.{Section}
use Rattle.cs_apply.specs.Columns.{HaveColumns}
use Rattle.cs_apply.specs.Single.{single}
use Rattle.cs_apply.specs.State as tables
use Rattle.cs_group.specs.Group.{group_of}
use Rattle.rb_desk.specs.declared.delivery.Delivery.{Delivery}
use Rattle.rb_sequence.specs.Entry.{Entry}
use Rattle.rb_subscriber.specs.declared.refusal.AcceptRefusal.{AcceptRefusal}
use Rattle.rb_subscriber.specs.declared.refusal.AcceptRefusal.TheVariants as refusal
use Rattle.rb_subscriber.specs.Accept.{joined_bodies, applied, applied_if_admitted, accept_brought}
use Rattle.rb_subscriber.specs.Accept.{first_outside_entry, refusal_before, taken_unless_refused}
use Rattle.rb_subscriber.specs.Accept.{AreChangesets, ConflictsSingly}
use Rattle.rb_subscriber.specs.Endpoint.{Endpoint}
use Rattle.rb_subscriber.proofs.runs.RunLaws.{RunContinues, joined_valid, nothing_applies}

-- ---- joined bodies

rest_conflicts : RunContinues → (old mid : tables.TableState) (entry : Entry) (entries : List Entry)
    (conflict : Conflict) → single old entry.item.body ≡ Ok mid
    → single old (joined_bodies (entry ∷ entries)) ≡ Err conflict → (rest : Result tables.TableState Conflict)
    → single mid (joined_bodies entries) ≡ rest → (later : Conflict)
    × (single mid (joined_bodies entries) ≡ Err later)
rest_conflicts goes old mid entry entries conflict first e (Ok new) is =
    let whole = (goes old entry.item.body (joined_bodies entries) new).1 (mid, first, is) in
    absurd (let both : Ok new ≡ Err conflict = sym whole ∙ e in cc)
rest_conflicts goes old mid entry entries conflict first e (Err later) is = (later, is)

joined_conflicts : RunContinues → (old : tables.TableState) (entries : List Entry) (conflict : Conflict)
    → single old (joined_bodies entries) ≡ Err conflict → ConflictsSingly old entries
joined_conflicts goes old [] conflict e =
    absurd (let both : Ok old ≡ Err conflict = sym (nothing_applies old) ∙ e in cc)
joined_conflicts goes old (entry ∷ entries) conflict e =
    by (single old entry.item.body) refl (λ mid later. joined_conflicts goes mid entries later)
  where
    by : (r : Result tables.TableState Conflict) → single old entry.item.body ≡ r
        → ((mid : tables.TableState) (later : Conflict) → single mid (joined_bodies entries) ≡ Err later
        → ConflictsSingly mid entries)
        → ConflictsSingly old (entry ∷ entries)
    by (Err first) is rest = inl (first, is)
    by (Ok mid) is rest =
        let after = rest_conflicts goes old mid entry entries conflict is e (single mid (joined_bodies entries)) refl in
        inr (mid, is, rest mid after.0 after.1)

-- ---- the call

-- no conflict comes before the entries are asked
cond_none : (b : Bool) (why : AcceptRefusal) (rest : Option AcceptRefusal) (conflict : Conflict)
    → (why ≡ refusal.Conflict conflict → ⊥) → cond b (Some why) rest ≡ Some (refusal.Conflict conflict)
    → rest ≡ Some (refusal.Conflict conflict)
cond_none true why rest conflict other e = absurd (other cc)
cond_none false why rest conflict other e = e

none_before : (old : Endpoint) (delivery : Delivery) (conflict : Conflict)
    → refusal_before old delivery ≡ Some (refusal.Conflict conflict) → ⊥
unfolding refusal_before
none_before old delivery conflict e =
    let fallen = cond_none old.fallen refusal.Store _ conflict (λ same. absurd cc) e in
    let closed = cond_none old.closed refusal.Closed _ conflict (λ same. absurd cc) fallen in
    let link = cond_none (not (delivery.link == old.link)) refusal.StaleLink _ conflict (λ same. absurd cc) closed in
    let seen = cond_none (nat_le delivery.last old.cursor) refusal.Seen _ conflict (λ same. absurd cc) link in
    let gap = cond_none (not (delivery.first == suc old.cursor)) (refusal.Gap (suc old.cursor)) None conflict
    (λ same. absurd cc) seen in
    absurd cc

conflict_taken : (o : Option AcceptRefusal) (taken : Result Endpoint AcceptRefusal) (conflict : Conflict)
    → (o ≡ Some (refusal.Conflict conflict) → ⊥) → taken_unless_refused o taken ≡ Err (refusal.Conflict conflict)
    → taken ≡ Err (refusal.Conflict conflict)
conflict_taken None taken conflict other e = e
conflict_taken (Some why) taken conflict other e =
    let same : why ≡ refusal.Conflict conflict = cc in
    absurd (other (ap (λ w. Some w) same))

applied_conflicts : (old : Endpoint) (last : ℕ) (r : Result tables.TableState Conflict) (conflict : Conflict)
    → applied old last r ≡ Err (refusal.Conflict conflict) → (found : Conflict) × (r ≡ Err found)
applied_conflicts old last (Ok tables) conflict e = absurd cc
applied_conflicts old last (Err found) conflict e = (found, refl)

admitted_conflicts : (old : Endpoint) (last : ℕ) (entries : List Entry) (o : Option Entry) (conflict : Conflict)
    → applied_if_admitted old last entries o ≡ Err (refusal.Conflict conflict) → (found : Conflict)
    × (single old.tables (group_of (joined_bodies entries)) ≡ Err found)
admitted_conflicts old last entries None conflict e =
    applied_conflicts old last (single old.tables (group_of (joined_bodies entries))) conflict e
admitted_conflicts old last entries (Some entry) conflict e = absurd cc

accept_conflicts : (old : Endpoint) (entries : List Entry) (delivery : Delivery) (conflict : Conflict)
    → accept_brought old entries delivery ≡ Err (refusal.Conflict conflict) → (found : Conflict)
    × (single old.tables (group_of (joined_bodies entries)) ≡ Err found)
unfolding accept_brought
accept_conflicts old entries delivery conflict e =
    let taken = conflict_taken (refusal_before old delivery)
    (applied_if_admitted old delivery.last entries (first_outside_entry old.tables.schema entries)) conflict
    (none_before old delivery conflict) e in
    admitted_conflicts old delivery.last entries (first_outside_entry old.tables.schema entries) conflict taken

abbrev pub GroupsConflictSingly : Type 0
GroupsConflictSingly = (old : tables.TableState) (sections : List Section) (conflict : Conflict) → IsChangeset sections
    → HaveColumns old → single old (group_of sections) ≡ Err conflict → (other : Conflict)
    × (single old sections ≡ Err other)

pub conflict_singly : RunContinues → GroupsConflictSingly → (old : Endpoint) (entries : List Entry)
    (delivery : Delivery) (conflict : Conflict) → AreChangesets entries
    → HaveColumns old.tables
    → accept_brought old entries delivery ≡ Err (refusal.Conflict conflict)
    → ConflictsSingly old.tables entries
conflict_singly goes group old entries delivery conflict valid have e =
    let found = accept_conflicts old entries delivery conflict e in
    let joined = group old.tables (joined_bodies entries) found.0 (joined_valid entries valid) have found.1 in
    joined_conflicts goes old.tables entries joined.0 joined.1

-- the law that a refused conflict is one of the bodies too, of one delivery
abbrev pub ConflictsAsSingly : Endpoint → List Entry → Delivery → Type 0
ConflictsAsSingly old entries delivery = (conflict : Conflict) → AreChangesets entries → HaveColumns old.tables
    → accept_brought old entries delivery ≡ Err (refusal.Conflict conflict) → ConflictsSingly old.tables entries
