-- A subscription that keeps no rows has none, and nothing that is delivered to it conflicts.
use Rattle.std.proofs.Common.{◌≡◌, ℕ, zero, suc, inl, inr, false, List, [], ◌∷◌, Option, Some, None, Ok, Err}
use Rattle.std.proofs.Common.{slice_get, length, replicate, refl, sym, ap, subst, ◌∙◌}
use Rattle.cs_model.specs.declared.change.Change.{Change}
use Rattle.cs_model.specs.declared.shape.Shape.{Shape}
use Rattle.cs_model.specs.Schema.{table_index}
use Rattle.cs_model.specs.Section.{Section}
use Rattle.cs_apply.specs.Single.{changes_of, effect_at, next_or_conflict, single, single_from, with_rows}
use Rattle.cs_apply.specs.State.{Rows, TableState, is_kept, only_kept}
use Rattle.cs_group.specs.Group.{group_of}
use Rattle.rb_desk.specs.declared.delivery.Delivery.{Delivery}
use Rattle.rb_sequence.specs.Entry.{Entry}
use Rattle.rb_subscriber.specs.Accept.{brought, joined_bodies, ConflictsSingly}
use Rattle.rb_subscriber.specs.Batches.{AppliesBatches, HasBatchTables}
use Rattle.rb_subscriber.specs.Endpoint.{Endpoint}
use Rattle.rb_core.specs.Outcome.{delivery_of}
use Rattle.rb_core.specs.State.{State, bare_tables}
use Rattle.rb_core.specs.Told.{IsToldBy}
use Rattle.rb_core.specs.World.{Subscriber, World, endpoint_of}
use Rattle.rb_core.proofs.whole_runs.ToldLaws.{mapped_in}

-- ---- changes of tables that aren't kept

bare_none_kept : (n table : ℕ) → is_kept (replicate n false) table ≡ false
bare_none_kept zero table = refl
bare_none_kept (suc n) zero = refl
bare_none_kept (suc n) (suc table) = bare_none_kept n table

bare_none_compatible : (n : ℕ) (found : Option ℕ) → only_kept (replicate n false) found ≡ None
bare_none_compatible n None = refl
bare_none_compatible n (Some table) = rw (bare_none_kept n table) refl

bare_single_from : (schema : List Shape) (n : ℕ) (changes : List (Shape × Change)) (at : ℕ) (rows : Rows)
    → single_from schema (replicate n false) changes at rows ≡ Ok rows
unfolding single_from
bare_single_from schema n [] at rows = refl
bare_single_from schema n (x ∷ changes) at rows =
    ap (λ found. next_or_conflict (λ next after. single_from schema (replicate n false) changes next after) at
    (effect_at found rows x.0 x.1)) (bare_none_compatible n (table_index schema x.0))
    ∙ bare_single_from schema n changes (suc at) rows

pub bare_single : (schema : List Shape) (sections : List Section)
    → single (bare_tables schema) sections ≡ Ok (bare_tables schema)
bare_single schema sections =
    ap (with_rows (bare_tables schema))
    (bare_single_from schema (length schema) (changes_of sections) 0 (bare_tables schema).rows)

-- ---- batches and entries

bare_applied : (schema : List Shape) (sections : List Section) (mid : TableState)
    → single (bare_tables schema) sections ≡ Ok mid → mid ≡ bare_tables schema
bare_applied schema sections mid e =
    cc (sym e ∙ bare_single schema sections)

bare_batches : (schema : List Shape) (batches : List (List Entry)) (old new : TableState) → old ≡ bare_tables schema
    → AppliesBatches old batches new → new ≡ bare_tables schema
bare_batches schema [] old new bare applied = applied ∙ bare
bare_batches schema (batch ∷ batches) old new bare applied =
    let first : single (bare_tables schema) (group_of (joined_bodies batch)) ≡ Ok applied.0 =
    subst (λ t. single t (group_of (joined_bodies batch)) ≡ Ok applied.0) bare applied.1 in
    bare_batches schema batches applied.0 new (bare_applied schema (group_of (joined_bodies batch)) applied.0 first)
    applied.2

bare_never_conflicts : (schema : List Shape) (entries : List Entry) (old : TableState) → old ≡ bare_tables schema
    → ConflictsSingly old entries → ⊥
bare_never_conflicts schema [] old bare conflicts = conflicts
bare_never_conflicts schema (entry ∷ entries) old bare (inl first) =
    let refused : single (bare_tables schema) entry.item.body ≡ Err first.0 =
    subst (λ t. single t entry.item.body ≡ Err first.0) bare first.1 in
    absurd (let both = sym (bare_single schema entry.item.body) ∙ refused in cc)
bare_never_conflicts schema (entry ∷ entries) old bare (inr later) =
    let first : single (bare_tables schema) entry.item.body ≡ Ok later.0 =
    subst (λ t. single t entry.item.body ≡ Ok later.0) bare later.1 in
    bare_never_conflicts schema entries later.0 (bare_applied schema entry.item.body later.0 first) later.2

-- ---- the run

-- the endpoint at a subscription's place is its own
own_tables : (schema : List Shape) (new : State) (world : World) (s : ℕ) (subscriber : Subscriber) (end : Endpoint)
    → IsToldBy schema new world → slice_get world.subscribers s ≡ Some subscriber → slice_get new.endpoints s ≡ Some end
    → end.tables ≡ subscriber.tables
own_tables schema new world s subscriber end told found here =
    let same : end ≡ endpoint_of subscriber =
    cc (sym here ∙ mapped_in endpoint_of world.subscribers new.endpoints told.subscriptions.ends s subscriber found) in
    ap (λ (e : Endpoint). e.tables) same

pub bare_rows : (schema : List Shape) (new : State) (world : World) (s : ℕ) (subscriber : Subscriber)
    → IsToldBy schema new world → slice_get world.subscribers s ≡ Some subscriber
    → (end : Endpoint) × (slice_get new.endpoints s ≡ Some end)
    × HasBatchTables subscriber.base subscriber.batches subscriber.accepted end.tables
    → subscriber.base ≡ bare_tables schema → subscriber.tables ≡ bare_tables schema
bare_rows schema new world s subscriber told found is bare =
    sym (own_tables schema new world s subscriber is.0 told found is.1)
    ∙ bare_batches schema subscriber.batches subscriber.base is.0.tables bare is.2.applied

pub bare_conflicts : (schema : List Shape) (old : State) (world : World) (d : ℕ) (delivery : Delivery)
    (subscriber : Subscriber) → delivery_of old d ≡ Some delivery
    → slice_get world.subscribers delivery.sub ≡ Some subscriber → subscriber.tables ≡ bare_tables schema
    → (other : Delivery) × (q : Subscriber) × (delivery_of old d ≡ Some other)
    × (slice_get world.subscribers other.sub ≡ Some q) × ConflictsSingly q.tables (brought old.sequence other) → ⊥
bare_conflicts schema old world d delivery subscriber known found bare is =
    let same : is.0 ≡ delivery = cc (sym is.2 ∙ known) in
    let here : slice_get world.subscribers delivery.sub ≡ Some is.1 =
    subst (λ (x : Delivery). slice_get world.subscribers x.sub ≡ Some is.1) same is.3 in
    let one : is.1 ≡ subscriber = cc (sym here ∙ found) in
    bare_never_conflicts schema (brought old.sequence is.0) is.1.tables (ap (λ (q : Subscriber). q.tables) one ∙ bare)
    is.4
