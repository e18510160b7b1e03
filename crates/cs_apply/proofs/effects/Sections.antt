-- Lists of changes and lists of sections, extended by one at a time.
use Rattle.std.proofs.Common.{◌≡◌, ℕ, suc, ◌+◌, Bool, List, [], ◌∷◌, ◌++◌, length, map, Option, Some, None, Result, Ok}
use Rattle.std.proofs.Common.{Err, refl, sym, ap, ◌∙◌, arith}
use Rattle.cs_model.specs.declared.shape.Shape.{Shape}
use Rattle.cs_model.specs.declared.change.Change.{Change}
use Rattle.cs_model.specs.Section.{Section}
use Rattle.cs_apply.specs.declared.conflict.ConflictKind.{ConflictKind}
use Rattle.cs_apply.specs.declared.conflict.Conflict.{Conflict as Conflicts}
use Rattle.cs_apply.specs.declared.conflict.ApplyError.{ApplyError}
use Rattle.cs_apply.specs.declared.conflict.ApplyError.TheVariants as error
use Rattle.cs_apply.specs.declared.change_error.ChangeError.{ChangeError}
use Rattle.cs_apply.specs.declared.change_error.ChangeError.TheVariants.{Conflict, Memory}
use Rattle.cs_apply.specs.State.{Rows, compatible}
use Rattle.cs_apply.specs.Effect.{effect}
use Rattle.cs_apply.specs.Single.{next_or_conflict, effect_at, changes_of, single_from}
use Rattle.cs_apply.specs.Errors.{ReportsConflict, ReportsKind, conflict_at}
use Rattle.cs_apply.specs.Steps.{carry, section_from}

-- one change more of a section
pub next_change : (table : ℕ) (flags : List ℕ) (change : Change) (rest changes : List Change) (at : ℕ) (rows : Rows)
    → changes ≡ change ∷ rest
    → section_from table flags changes at rows
    ≡ next_or_conflict (λ next after. section_from table flags rest next after) at (effect table flags rows change)
unfolding section_from
next_change table flags change rest changes at rows is = rw is refl

-- a change that has its effect is done with
pub change_done : (table : ℕ) (flags : List ℕ) (change : Change) (rest changes : List Change) (at next : ℕ)
    (old new : Rows) (all : Result Rows Conflicts) → changes ≡ change ∷ rest
    → next ≡ suc at → effect table flags old change ≡ Ok new → section_from table flags changes at old ≡ all
    → section_from table flags rest next new ≡ all
change_done table flags change rest changes at next old new all is after ok so_far =
    ap (λ (n : ℕ). section_from table flags rest n new) after
    ∙ sym (next_change table flags change rest changes at old is
    ∙ ap (next_or_conflict (λ n rows. section_from table flags rest n rows) at) ok) ∙ so_far

-- a change that stops stops the section
pub change_stops : (table : ℕ) (flags : List ℕ) (change : Change) (rest changes : List Change) (at : ℕ) (old : Rows)
    (all : Result Rows Conflicts) (e : ChangeError) → changes ≡ change ∷ rest
    → ReportsKind e (effect table flags old change) → section_from table flags changes at old ≡ all
    → ReportsConflict (conflict_at at e) all
change_stops table flags change rest changes at old all Memory is stops so_far = tt
change_stops table flags change rest changes at old all (Conflict kind) is stops so_far =
    sym so_far ∙ next_change table flags change rest changes at old is
    ∙ ap (next_or_conflict (λ next after. section_from table flags rest next after) at) stops

-- no change more
pub changes_done : (table : ℕ) (flags : List ℕ) (changes : List Change) (at : ℕ) (rows : Rows)
    (all : Result Rows Conflicts) → changes ≡ []
    → section_from table flags changes at rows ≡ all → all ≡ Ok rows
unfolding section_from
changes_done table flags changes at rows all none so_far =
    sym so_far ∙ ap (λ (cs : List Change). section_from table flags cs at rows) none

module _ (schema : List Shape) (kept : List Bool) where
  -- an answer, and what comes after it
  goes : (rest : ℕ → Rows → Result Rows Conflicts) (more : ℕ → Rows → Result Rows Conflicts)
      (last : Rows → Result Rows Conflicts) (at : ℕ) (r : Result Rows ConflictKind)
      → ((rows : Rows) → rest (suc at) rows ≡ carry last (more (suc at) rows)) → next_or_conflict rest at r
      ≡ carry last (next_or_conflict more at r)
  goes rest more last at (Ok rows) h = h rows
  goes rest more last at (Err kind) h = refl

  -- a section of a table that is kept
  pub kept_section : (table : ℕ) (shape : Shape) → compatible schema kept shape ≡ Some table
      → (changes : List Change) (rest : List (Shape × Change)) (at end : ℕ) (rows : Rows) → end ≡ at + length changes
      → single_from schema kept (map (λ change. (shape, change)) changes ++ rest) at rows
      ≡ carry (λ after. single_from schema kept rest end after) (section_from table shape.flags changes at rows)
  unfolding single_from section_from
  kept_section table shape here [] rest at end rows is =
      ap (λ (n : ℕ). single_from schema kept rest n rows) (omega arith)
  kept_section table shape here (change ∷ changes) rest at end rows is =
      ap (λ (t : Option ℕ). next_or_conflict
      (λ next after. single_from schema kept (map (λ c. (shape, c)) changes ++ rest) next after) at
      (effect_at t rows shape change)) here
      ∙ goes (λ next after. single_from schema kept (map (λ c. (shape, c)) changes ++ rest) next after)
      (λ next after. section_from table shape.flags changes next after)
      (λ after. single_from schema kept rest end after) at (effect table shape.flags rows change)
      (λ after. kept_section table shape here changes rest (suc at) end after (omega arith))

  -- a section of another table
  pub other_section : (shape : Shape) → compatible schema kept shape ≡ None
      → (changes : List Change) (rest : List (Shape × Change)) (at end : ℕ) (rows : Rows) → end ≡ at + length changes
      → single_from schema kept (map (λ change. (shape, change)) changes ++ rest) at rows
      ≡ single_from schema kept rest end rows
  unfolding single_from
  other_section shape none [] rest at end rows is = ap (λ (n : ℕ). single_from schema kept rest n rows) (omega arith)
  other_section shape none (change ∷ changes) rest at end rows is =
      ap (λ (t : Option ℕ). next_or_conflict
      (λ next after. single_from schema kept (map (λ c. (shape, c)) changes ++ rest) next after) at
      (effect_at t rows shape change)) none
      ∙ other_section shape none changes rest (suc at) end rows (omega arith)

  -- one section more
  next_sections : (section : Section) (rest sections : List Section) → sections ≡ section ∷ rest
      → changes_of sections ≡ map (λ change. (section.shape, change)) section.changes ++ changes_of rest
  next_sections section rest sections is = rw is refl

  -- a section that is kept and has its effect is done with
  pub section_done : (section : Section) (rest sections : List Section) (table at end : ℕ) (old new : Rows)
      (all : Result Rows Conflicts) → sections ≡ section ∷ rest
      → compatible schema kept section.shape ≡ Some table → end ≡ at + length section.changes
      → section_from table section.shape.flags section.changes at old ≡ Ok new
      → single_from schema kept (changes_of sections) at old ≡ all → single_from schema kept (changes_of rest) end new
      ≡ all
  section_done section rest sections table at end old new all is here counted ok so_far =
      sym (ap (λ (cs : List (Shape × Change)). single_from schema kept cs at old)
      (next_sections section rest sections is)
      ∙ kept_section table section.shape here section.changes (changes_of rest) at end old counted
      ∙ ap (carry (λ after. single_from schema kept (changes_of rest) end after)) ok)
      ∙ so_far

  -- a section that stops stops the changeset
  pub section_stops : (section : Section) (rest sections : List Section) (table at end : ℕ) (old : Rows)
      (all : Result Rows Conflicts) (e : ApplyError) → sections ≡ section ∷ rest
      → compatible schema kept section.shape ≡ Some table → end ≡ at + length section.changes
      → ReportsConflict e (section_from table section.shape.flags section.changes at old)
      → single_from schema kept (changes_of sections) at old ≡ all → ReportsConflict e all
  section_stops section rest sections table at end old all error.Memory is here counted stops so_far = tt
  section_stops section rest sections table at end old all (error.Conflict conflict) is here counted stops so_far =
      sym so_far ∙ ap (λ (cs : List (Shape × Change)). single_from schema kept cs at old)
      (next_sections section rest sections is)
      ∙ kept_section table section.shape here section.changes (changes_of rest) at end old counted
      ∙ ap (carry (λ after. single_from schema kept (changes_of rest) end after)) stops

  -- a section that isn't kept is passed over
  pub section_passed : (section : Section) (rest sections : List Section) (at end : ℕ) (rows : Rows)
      (all : Result Rows Conflicts) → sections ≡ section ∷ rest
      → compatible schema kept section.shape ≡ None → end ≡ at + length section.changes
      → single_from schema kept (changes_of sections) at rows ≡ all → single_from schema kept (changes_of rest) end rows
      ≡ all
  section_passed section rest sections at end rows all is none counted so_far =
      sym (ap (λ (cs : List (Shape × Change)). single_from schema kept cs at rows)
      (next_sections section rest sections is)
      ∙ other_section section.shape none section.changes (changes_of rest) at end rows counted)
      ∙ so_far

  -- no section more
  pub sections_done : (sections : List Section) (at : ℕ) (rows : Rows) (all : Result Rows Conflicts) → sections ≡ []
      → single_from schema kept (changes_of sections) at rows ≡ all → all ≡ Ok rows
  unfolding single_from
  sections_done sections at rows all none so_far =
      sym so_far ∙ ap (λ (ss : List Section). single_from schema kept (changes_of ss) at rows) none
