-- What an endpoint answers that accepts into a durable store.
use Rattle.std.proofs.Common.{◌≡◌, ℕ, List, None, Result, Ok, Err, true, sym, ap, subst, ◌∙◌}
use Rattle.std.specs.Prelude.{OnOk, IfOk, IfErr}
use Rattle.cs_apply.specs.Columns.{HaveColumns}
use Rattle.cs_apply.specs.Single.{single}
use Rattle.cs_apply.specs.State.{TableState}
use Rattle.cs_apply.specs.Errors.{ReportsConflict}
use Rattle.cs_apply.specs.declared.conflict.ApplyError.{ApplyError}
use Rattle.cs_apply.specs.declared.conflict.ApplyError.TheVariants as applying
use Rattle.cs_apply.specs.declared.conflict.Conflict.{Conflict}
use Rattle.cs_group.specs.Group.{group_of}
use Rattle.par_apply.specs.Durable.{changed_tables}
use Rattle.par_apply.specs.Planned.{planned_changes}
use Rattle.par_apply.specs.RowChanges.{RowChanges}
use Rattle.rb_desk.specs.declared.delivery.Delivery.{Delivery}
use Rattle.rb_sequence.specs.Entry.{Entry}
use Rattle.rb_subscriber.specs.Accept.{AppliesSingly, AreChangesets, AsksTables, ConflictsSingly, HasSingleTables, applied}
use Rattle.rb_subscriber.specs.Accept.{accept_brought, first_outside_entry, joined_bodies}
use Rattle.rb_subscriber.specs.Accept.{refusal_before}
use Rattle.rb_subscriber.specs.Durable.{IfStoreFailed, IfStoreUnasked, IsNoRefusal, KeepAnswers}
use Rattle.rb_subscriber.specs.Durable.{OnKeepConflict, OnKeepTables}
use Rattle.rb_subscriber.specs.Endpoint.{Endpoint}
use Rattle.rb_subscriber.proofs.accepting.AcceptLaws.{asked_of}
use Rattle.rb_subscriber.proofs.runs.ConflictLaws.{ConflictsAsSingly}
use Rattle.rb_subscriber.specs.declared.keeping.KeepError.{KeepError}
use Rattle.rb_subscriber.specs.declared.keeping.KeepError.TheVariants as keep
use Rattle.rb_subscriber.specs.declared.refusal.AcceptRefusal.{AcceptRefusal}
use Rattle.rb_subscriber.specs.declared.refusal.AcceptRefusal.TheVariants as refusal

-- ---- the function, where nothing refuses before the tables are asked

pub asked : (old : Endpoint) (entries : List Entry) (d : Delivery) (r : Result TableState Conflict)
    → refusal_before old d ≡ None → first_outside_entry old.tables.schema entries ≡ None
    → single old.tables (group_of (joined_bodies entries)) ≡ r → accept_brought old entries d ≡ applied old d.last r
asked old entries d r free none is = asked_of old entries d None free none ∙ ap (applied old d.last) is

-- ---- the call

-- the answers of an accept that only the store can stop
pub committed_answers : {E : Type 0} (old new : Endpoint) (last : ℕ) (changes : RowChanges)
    (accepted : Result Endpoint AcceptRefusal) (result : Result ℕ (KeepError E))
    → accepted ≡ Ok (record old { cursor = last; tables = changed_tables old.tables changes })
    → IfOk result (λ cursor. (cursor ≡ last)
    × (new ≡ record old { cursor = last; tables = changed_tables old.tables changes }))
    → IfErr result IsNoRefusal → IfStoreUnasked result (new ≡ old)
    → IfStoreFailed result (λ back. (planned_changes back ≡ changes) × (new ≡ record old { fallen = true }))
    → KeepAnswers result accepted old new
committed_answers old new last changes accepted (Ok cursor) is ok other same fell =
    (is ∙ ap (λ (e : Endpoint). Ok e) (sym ok.1), ok.0 ∙ ap (λ (e : Endpoint). e.cursor) (sym ok.1))
committed_answers old new last changes accepted (Err (keep.Refused why)) is ok other same fell = absurd other
committed_answers old new last changes accepted (Err keep.Memory) is ok other same fell =
    (subst AsksTables (sym is) tt, same)
committed_answers old new last changes accepted (Err (keep.Store plan why)) is ok other same fell = record {
  after = record old { cursor = last; tables = changed_tables old.tables changes };
  accepts = is;
  changed = ap (changed_tables old.tables) (sym fell.0);
  fallen = fell.1;
}

-- ---- with the laws

abbrev pub AppliesAsSingly : Endpoint → List Entry → Delivery → Type 0
AppliesAsSingly old entries d = (new : Endpoint) (tables : TableState) → AreChangesets entries → HaveColumns old.tables
    → accept_brought old entries d ≡ Ok new → AppliesSingly old.tables entries tables → new.tables ≡ tables

-- where the group applies to these tables, it leaves what one thread gets
pub applies_here : (old : Endpoint) (entries : List Entry) (d : Delivery) (now new : TableState)
    → AppliesAsSingly old entries d → refusal_before old d ≡ None
    → first_outside_entry old.tables.schema entries ≡ None → AreChangesets entries × HaveColumns old.tables
    → now ≡ old.tables → single now (group_of (joined_bodies entries)) ≡ Ok new → HasSingleTables old.tables entries new
applies_here old entries d now new law free none known same is =
    let here = subst (λ (t : TableState). single t (group_of (joined_bodies entries)) ≡ Ok new) same is in
    λ tables. law (record old { cursor = d.last; tables = new }) tables known.0 known.1
    (asked old entries d (Ok new) free none here)

-- where it conflicts with them, so do the bodies
pub conflicts_here : (old : Endpoint) (entries : List Entry) (d : Delivery) (now : TableState) (found : ApplyError)
    (conflict : Conflict) → ConflictsAsSingly old entries d → refusal_before old d ≡ None
    → first_outside_entry old.tables.schema entries ≡ None → AreChangesets entries × HaveColumns old.tables
    → now ≡ old.tables → found ≡ applying.Conflict conflict
    → ReportsConflict found (single now (group_of (joined_bodies entries))) → ConflictsSingly old.tables entries
conflicts_here old entries d now found conflict law free none known same is reports =
    let group = group_of (joined_bodies entries) in
    let there = subst (λ (e : ApplyError). ReportsConflict e (single now group)) is reports in
    let here = subst (λ (t : TableState). single t group ≡ Err conflict) same there in
    law conflict known.0 known.1 (asked old entries d (Err conflict) free none here)

kept_singly : {E : Type 0} (old new : Endpoint) (entries : List Entry) (d : Delivery) (result : Result ℕ (KeepError E))
    → AppliesAsSingly old entries d → KeepAnswers result (accept_brought old entries d) old new
    → OnKeepTables result (AreChangesets entries × HaveColumns old.tables)
    → OnOk result (HasSingleTables old.tables entries new.tables)
kept_singly old new entries d (Ok cursor) law answers known = λ tables. law new tables known.0 known.1 answers.0
kept_singly old new entries d (Err why) law answers known = tt

pending_singly : {E : Type 0} (old new : Endpoint) (entries : List Entry) (d : Delivery) (result : Result ℕ (KeepError E))
    → AppliesAsSingly old entries d → KeepAnswers result (accept_brought old entries d) old new
    → OnKeepTables result (AreChangesets entries × HaveColumns old.tables)
    → IfStoreFailed result (λ plan. HasSingleTables old.tables entries
    (changed_tables old.tables (planned_changes plan)))
pending_singly old new entries d (Err (keep.Store plan why)) law answers known = λ tables singly.
    sym answers.changed ∙ law answers.after tables known.0 known.1 answers.accepts singly
pending_singly old new entries d result law answers known = tt

kept_conflicts : {E : Type 0} (old new : Endpoint) (entries : List Entry) (d : Delivery) (result : Result ℕ (KeepError E))
    → ConflictsAsSingly old entries d
    → KeepAnswers result (accept_brought old entries d) old new
    → OnKeepTables result (AreChangesets entries × HaveColumns old.tables)
    → OnKeepConflict result (ConflictsSingly old.tables entries)
kept_conflicts old new entries d (Err (keep.Refused (refusal.Conflict conflict))) law answers known =
    law conflict known.0 known.1 answers.0
kept_conflicts old new entries d result law answers known = tt

-- what is known where the tables are reached, whatever the result is
pub asked_tables : {E : Type 0} (result : Result ℕ (KeepError E)) (P : Type 0) → P → OnKeepTables result P
asked_tables (Ok cursor) P known = known
asked_tables (Err (keep.Refused (refusal.Conflict conflict))) P known = known
asked_tables (Err (keep.Store plan why)) P known = known
asked_tables result P known = tt

-- what the laws say of an accept, whatever its result is
pub record KeptSingly {E : Type 0} (old new : Endpoint) (entries : List Entry) (result : Result ℕ (KeepError E)) : Type 0 where
  pub singly : OnOk result (HasSingleTables old.tables entries new.tables)
  pub conflicts : OnKeepConflict result (ConflictsSingly old.tables entries)
  pub pending : IfStoreFailed result (λ plan. HasSingleTables old.tables entries
      (changed_tables old.tables (planned_changes plan)))

pub kept_as_singly : {E : Type 0} (old new : Endpoint) (entries : List Entry) (d : Delivery) (result : Result ℕ (KeepError E))
    → AppliesAsSingly old entries d → ConflictsAsSingly old entries d
    → KeepAnswers result (accept_brought old entries d) old new
    → OnKeepTables result (AreChangesets entries × HaveColumns old.tables) → KeptSingly old new entries result
kept_as_singly old new entries d result applies conflicts answers known = record {
  singly = kept_singly old new entries d result applies answers known;
  conflicts = kept_conflicts old new entries d result conflicts answers known;
  pending = pending_singly old new entries d result applies answers known;
}
