-- Calls that apply a changeset to tables as one thread does.
use Rattle.std.specs.Prelude.{◌≡◌, List, Result, Ok, OnOk, OnErr, IfErr}
use denote.Ref.{Bor, MutBor}
use denote.Param.Members.{Shared}
use Rattle.cs_apply.specs.State.{TableState}
use Rattle.cs_apply.specs.Errors.{ReportsConflict}
use Rattle.cs_apply.specs.Single.{single}
use Rattle.cs_apply.specs.declared.conflict.ApplyError.{ApplyError}
use Rattle.cs_model.specs.Section.{Section}

-- What a call returns and leaves that applies all changes of a changeset, or none: the tables that
-- one thread gets, or the first conflict, or out of memory. An error changes nothing.
abbrev pub IsApplied : TableState → List Section → Result (Unit {0}) ApplyError → TableState
    → Type 0
IsApplied old sections result new = OnOk result (single old sections ≡ Ok new)
    × IfErr result (λ e. ReportsConflict e (single old sections))
    × OnErr result (new ≡ old)

module _ {F : Type 0} (g : Shared F (MutBor TableState × (Bor (List Section) × Unit {0}))
    (Result (Unit {0}) ApplyError × (MutBor TableState × Unit {0}))) (f : F) where
  -- f may be called with any tables and any changeset, and applies it to them
  abbrev pub Applies : Type 0
  Applies = (tables : MutBor TableState) (changeset : Bor (List Section))
      → g.pre f (tables, (changeset, tt))
      × ((result : Result (Unit {0}) ApplyError) (after : MutBor TableState)
      → g.post f (tables, (changeset, tt)) (result, (after, tt))
      → IsApplied tables.now changeset.now result after.now)
