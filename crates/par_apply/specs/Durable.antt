-- A plan that is committed to a durable store and to tables.
use Rattle.std.specs.Prelude.{Result, Ok, Err}
use Rattle.cs_apply.specs.State.{TableState}
use Rattle.par_apply.specs.RowChanges.{RowChanges, overlaid}
use Rattle.par_apply.specs.declared.durable.RefusedCommit.{RefusedCommit}
use Rattle.par_apply.specs.declared.durable.RefusedCommit.TheVariants.{Memory, Store}
use Rattle.par_apply.specs.declared.planned.RowPlan.{RowPlan}

-- the tables with these changes of their rows
abbrev pub changed_tables : TableState → RowChanges → TableState
changed_tables tables changes = record tables { rows = overlaid tables.rows changes }

-- P of the plan that comes back and of the store's error, if the store answered with one
abbrev pub IfRefused : {E : Type 0} → Result (Unit {0}) (RefusedCommit E) → (RowPlan → E → Type 0)
    → Type 0
IfRefused (Ok done) P = Unit {0}
IfRefused (Err Memory) P = Unit {0}
IfRefused (Err (Store plan why)) P = P plan why

-- P, if the store wasn't asked
abbrev pub IfNotAsked : {E : Type 0} → Result (Unit {0}) (RefusedCommit E) → Type 0 → Type 0
IfNotAsked (Ok done) P = Unit {0}
IfNotAsked (Err Memory) P = P
IfNotAsked (Err (Store plan why)) P = Unit {0}
