-- Accepting is a step, by its definition, in both directions.
use Rattle.std.proofs.Common.{◌≡◌, ◌==◌, ℕ, suc, ◌≤◌, inl, inr, Bool, true, false, not, cond, List, [], ◌∷◌}
use Rattle.std.proofs.Common.{Option, Some, None, Result, Ok, Err, refl, sym, ap, ◌∙◌, arith}
use Rattle.std.specs.Prelude.{nat_le}
use Rattle.std.specs.List.{AllByRecursion}
use Rattle.std.proofs.lemmas.Bool.{leb-false, false≢true}
use Rattle.std.proofs.lemmas.Bool.Decides.{eqb_tells, nat_tests}
use Rattle.cs_model.specs.declared.shape.Shape.{Shape}
use Rattle.cs_model.specs.declared.schema.SectionFault.{SectionFault}
use Rattle.cs_model.specs.Schema.{refusal_of}
use Rattle.cs_apply.specs.State as tables
use Rattle.cs_apply.specs.Single.{single}
use Rattle.cs_apply.specs.declared.conflict.Conflict.{Conflict}
use Rattle.cs_group.specs.Group.{group_of}
use Rattle.rb_desk.specs.declared.delivery.Delivery.{Delivery}
use Rattle.rb_sequence.specs.Entry.{Entry}
use Rattle.rb_subscriber.specs.declared.refusal.AcceptRefusal.{AcceptRefusal}
use Rattle.rb_subscriber.specs.declared.refusal.AcceptRefusal.TheVariants as refusal
use Rattle.rb_subscriber.specs.Accept.{joined_bodies, IsAdmitted, if_admitted, first_outside_entry, applied}
use Rattle.rb_subscriber.specs.Accept.{applied_if_admitted, refusal_before, taken_unless_refused, accept_brought, AcceptsBrought}
use Rattle.rb_subscriber.specs.Endpoint.{Endpoint}

-- ---- tests

same_numbers : (a b : ℕ) → not (a == b) ≡ false → a ≡ b
same_numbers a b e = elim (eqb_tells a b) as (λ w. a ≡ b) [
  | inl same ↦ same.1
  | inr other ↦ absurd (false≢true (sym e ∙ ap not other.0))
]

pub numbers_tested : (a b : ℕ) → a ≡ b → not (a == b) ≡ false
numbers_tested a b same = elim (eqb_tells a b) as (λ w. not (a == b) ≡ false) [
  | inl is ↦ ap not is.0
  | inr other ↦ absurd (other.1 same)
]

above : (last cursor : ℕ) → suc cursor ≤ last → nat_le last cursor ≡ false
above last cursor less = grind (arith, nat_tests)

-- ---- refusals

-- what isn't refused goes on
accept_not_refused : (b : Bool) (why : AcceptRefusal) (rest : Option AcceptRefusal) → cond b (Some why) rest ≡ None
    → (b ≡ false) × (rest ≡ None)
accept_not_refused true why rest e = absurd cc
accept_not_refused false why rest e = (refl, e)

accept_goes_on : (b : Bool) (why : AcceptRefusal) (rest : Option AcceptRefusal) → b ≡ false → rest ≡ None
    → cond b (Some why) rest ≡ None
accept_goes_on b why rest tested e = ap (λ c. cond c (Some why) rest) tested ∙ e

-- a delivery that its entries alone can refuse
pub record FollowsCursor (old : Endpoint) (delivery : Delivery) : Type 0 where
  pub not_fallen : old.fallen ≡ false
  pub not_closed : old.closed ≡ false
  pub linked : delivery.link ≡ old.link
  pub next : delivery.first ≡ suc old.cursor
  pub some : suc old.cursor ≤ delivery.last

pub none_is_due : (old : Endpoint) (delivery : Delivery) → refusal_before old delivery ≡ None → FollowsCursor old delivery
unfolding refusal_before
none_is_due old delivery e =
    let fallen = accept_not_refused old.fallen refusal.Store _ e in
    let closed = accept_not_refused old.closed refusal.Closed _ fallen.1 in
    let link = accept_not_refused (not (delivery.link == old.link)) refusal.StaleLink _ closed.1 in
    let seen = accept_not_refused (nat_le delivery.last old.cursor) refusal.Seen _ link.1 in
    let gap = accept_not_refused (not (delivery.first == suc old.cursor)) (refusal.Gap (suc old.cursor)) None seen.1 in
    record {
      not_fallen = fallen.0;
      not_closed = closed.0;
      linked = same_numbers delivery.link old.link link.0;
      next = same_numbers delivery.first (suc old.cursor) gap.0;
      some = leb-false delivery.last old.cursor seen.0;
    }

pub due_is_none : (old : Endpoint) (delivery : Delivery) → FollowsCursor old delivery → refusal_before old delivery ≡ None
unfolding refusal_before
due_is_none old delivery a =
    let gap = accept_goes_on (not (delivery.first == suc old.cursor)) (refusal.Gap (suc old.cursor)) None
    (numbers_tested delivery.first (suc old.cursor) a.next) refl in
    let seen = accept_goes_on (nat_le delivery.last old.cursor) refusal.Seen _
    (above delivery.last old.cursor a.some) gap in
    let link = accept_goes_on (not (delivery.link == old.link)) refusal.StaleLink _
    (numbers_tested delivery.link old.link a.linked) seen in
    let closed = accept_goes_on old.closed refusal.Closed _ a.not_closed link in
    accept_goes_on old.fallen refusal.Store _ a.not_fallen closed

unrefused : (o : Option AcceptRefusal) (taken : Result Endpoint AcceptRefusal) (new : Endpoint)
    → taken_unless_refused o taken ≡ Ok new → (o ≡ None) × (taken ≡ Ok new)
unrefused None taken new e = (refl, e)
unrefused (Some why) taken new e = absurd cc

-- ---- which entries are admitted

admitted_by : (schema : List Shape) (entry : Entry) (entries : List Entry) (fault : Option SectionFault)
    → refusal_of schema entry.item.body ≡ fault → if_admitted fault entry (first_outside_entry schema entries) ≡ None
    → (first_outside_entry schema entries ≡ None → AllByRecursion (IsAdmitted schema) entries)
    → AllByRecursion (IsAdmitted schema) (entry ∷ entries)
admitted_by schema entry entries None is e rest = (is, rest e)
admitted_by schema entry entries (Some fault) is e rest = absurd cc

pub all_admitted : (schema : List Shape) (entries : List Entry) → first_outside_entry schema entries ≡ None
    → AllByRecursion (IsAdmitted schema) entries
all_admitted schema [] e = tt
all_admitted schema (entry ∷ entries) e =
    admitted_by schema entry entries (refusal_of schema entry.item.body) refl e (all_admitted schema entries)

none_outside : (schema : List Shape) (entries : List Entry) → AllByRecursion (IsAdmitted schema) entries
    → first_outside_entry schema entries ≡ None
none_outside schema [] all = refl
none_outside schema (entry ∷ entries) all =
    ap (λ fault. if_admitted fault entry (first_outside_entry schema entries)) all.0 ∙ none_outside schema entries all.1

-- ---- the tables

record AcceptApplied (old : Endpoint) (last : ℕ) (entries : List Entry) (new : Endpoint) : Type 0 where
  tables : single old.tables (group_of (joined_bodies entries)) ≡ Ok new.tables
  kept : new ≡ record old { cursor = last; tables = new.tables }

abbrev with_tables : Endpoint → ℕ → tables.TableState → Endpoint
with_tables old last tables = record old { cursor = last; tables = tables }

applied_is : (old : Endpoint) (last : ℕ) (entries : List Entry) (new : Endpoint) (r : Result tables.TableState Conflict)
    → single old.tables (group_of (joined_bodies entries)) ≡ r → applied old last r ≡ Ok new
    → AcceptApplied old last entries new
applied_is old last entries new (Ok tables) is e =
    let same : with_tables old last tables ≡ new = cc in
    let here : tables ≡ new.tables = ap (λ (x : Endpoint). x.tables) same in
    record { tables = is ∙ ap (λ t. Ok t) here; kept = sym same ∙ ap (λ t. with_tables old last t) here }
applied_is old last entries new (Err conflict) is e = absurd cc

opened_is : (old : Endpoint) (last : ℕ) (entries : List Entry) (new : Endpoint) (o : Option Entry)
    → first_outside_entry old.tables.schema entries ≡ o → applied_if_admitted old last entries o ≡ Ok new
    → AllByRecursion (IsAdmitted old.tables.schema) entries × AcceptApplied old last entries new
opened_is old last entries new None is e = (
  all_admitted old.tables.schema entries is,
  applied_is old last entries new (single old.tables (group_of (joined_bodies entries))) refl e,
)
opened_is old last entries new (Some entry) is e = absurd cc

-- ---- the step

abbrev tested : Endpoint → List Entry → Delivery → Result Endpoint AcceptRefusal
tested old entries delivery =
    applied_if_admitted old delivery.last entries (first_outside_entry old.tables.schema entries)

-- the function, of a delivery that isn't refused before its entries are asked
pub asked_of : (old : Endpoint) (entries : List Entry) (delivery : Delivery) (o : Option Entry)
    → refusal_before old delivery ≡ None → first_outside_entry old.tables.schema entries ≡ o
    → accept_brought old entries delivery ≡ applied_if_admitted old delivery.last entries o
unfolding accept_brought
asked_of old entries delivery o free is = ap (λ r. taken_unless_refused r (tested old entries delivery)) free
    ∙ ap (applied_if_admitted old delivery.last entries) is

pub accepted_steps : (old : Endpoint) (entries : List Entry) (delivery : Delivery) (new : Endpoint)
    → accept_brought old entries delivery ≡ Ok new → AcceptsBrought old entries delivery new
unfolding accept_brought
accepted_steps old entries delivery new e =
    let free = unrefused (refusal_before old delivery) (tested old entries delivery) new e in
    let due = none_is_due old delivery free.0 in
    let open_ = opened_is old delivery.last entries new (first_outside_entry old.tables.schema entries) refl free.1 in
    record {
      not_fallen = due.not_fallen;
      not_closed = due.not_closed;
      linked = due.linked;
      next = due.next;
      some = due.some;
      admitted = open_.0;
      tables = open_.1.tables;
      kept = open_.1.kept;
    }

pub steps_accepted : (old : Endpoint) (entries : List Entry) (delivery : Delivery) (new : Endpoint)
    → AcceptsBrought old entries delivery new → accept_brought old entries delivery ≡ Ok new
steps_accepted old entries delivery new a =
    let due : FollowsCursor old delivery = record {
      not_fallen = a.not_fallen;
      not_closed = a.not_closed;
      linked = a.linked;
      next = a.next;
      some = a.some;
    } in
    asked_of old entries delivery None (due_is_none old delivery due)
    (none_outside old.tables.schema entries a.admitted)
    ∙ ap (applied old delivery.last) a.tables ∙ ap (λ x. Ok x) (sym a.kept)
