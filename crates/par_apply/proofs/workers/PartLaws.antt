-- The changes of a section, and the sections, one by one, where only the keys that are taken count.
use Rattle.std.proofs.Common.{◌≡◌, ℕ, suc, ◌+◌, Bool, List, [], ◌∷◌, ◌++◌, length, map, Option, Some, None}
use Rattle.std.proofs.Common.{Result, Ok, Err, refl, sym, ap, ◌∙◌, arith}
use Rattle.cs_model.specs.declared.change.Change.{Change}
use Rattle.cs_model.specs.declared.row_key.RowKey.{RowKey}
use Rattle.cs_model.specs.declared.shape.Shape.{Shape}
use Rattle.cs_model.specs.Section.{Section}
use Rattle.cs_apply.specs.declared.change_error.ChangeError.{ChangeError}
use Rattle.cs_apply.specs.declared.change_error.ChangeError.TheVariants.{Conflict, Memory}
use Rattle.cs_apply.specs.declared.conflict.ApplyError.{ApplyError}
use Rattle.cs_apply.specs.declared.conflict.ApplyError.TheVariants as error
use Rattle.cs_apply.specs.declared.conflict.Conflict.{Conflict as Conflicts}
use Rattle.cs_apply.specs.declared.conflict.ConflictKind.{ConflictKind}
use Rattle.cs_apply.specs.Errors.{ReportsConflict, ReportsKind, conflict_at}
use Rattle.cs_apply.specs.Single.{changes_of, next_or_conflict}
use Rattle.cs_apply.specs.State.{Rows, compatible}
use Rattle.cs_apply.specs.Steps.{carry}
use Rattle.par_apply.specs.Parts.{effect_if_taken, part_from, section_part}

-- ---- the changes of a section

module _ (table : ℕ) (shape : Shape) (takes : RowKey → Bool) where
  next_own : (change : Change) (rest changes : List Change) (at : ℕ) (rows : Rows) → changes ≡ change ∷ rest
      → section_part table shape takes changes at rows
      ≡ next_or_conflict (λ next after. section_part table shape takes rest next after) at
      (effect_if_taken (Some table) takes rows shape change)
  unfolding section_part
  next_own change rest changes at rows is = rw is refl

  pub own_goes : (change : Change) (rest changes : List Change) (at next : ℕ) (old new : Rows)
      (all : Result Rows Conflicts) → changes ≡ change ∷ rest → next ≡ suc at
      → effect_if_taken (Some table) takes old shape change ≡ Ok new
      → section_part table shape takes changes at old ≡ all → section_part table shape takes rest next new ≡ all
  own_goes change rest changes at next old new all is after ok so_far =
      ap (λ (n : ℕ). section_part table shape takes rest n new) after
      ∙ sym (next_own change rest changes at old is
      ∙ ap (next_or_conflict (λ n rows. section_part table shape takes rest n rows) at) ok) ∙ so_far

  pub own_stops : (change : Change) (rest changes : List Change) (at : ℕ) (old : Rows) (all : Result Rows Conflicts)
      (e : ChangeError) → changes ≡ change ∷ rest → ReportsKind e (effect_if_taken (Some table) takes old shape change)
      → section_part table shape takes changes at old ≡ all → ReportsConflict (conflict_at at e) all
  own_stops change rest changes at old all Memory is stops so_far = tt
  own_stops change rest changes at old all (Conflict kind) is stops so_far =
      sym so_far ∙ next_own change rest changes at old is
      ∙ ap (next_or_conflict (λ next after. section_part table shape takes rest next after) at) stops

  pub own_ends : (changes : List Change) (at : ℕ) (rows : Rows) (all : Result Rows Conflicts) → changes ≡ []
      → section_part table shape takes changes at rows ≡ all → all ≡ Ok rows
  unfolding section_part
  own_ends changes at rows all none so_far =
      sym so_far ∙ ap (λ (cs : List Change). section_part table shape takes cs at rows) none

-- ---- the sections

module _ (schema : List Shape) (kept : List Bool) (takes : RowKey → Bool) where
  carried : (rest more : ℕ → Rows → Result Rows Conflicts) (last : Rows → Result Rows Conflicts) (at : ℕ)
      (r : Result Rows ConflictKind)
      → ((rows : Rows) → rest (suc at) rows ≡ carry last (more (suc at) rows))
      → next_or_conflict rest at r ≡ carry last (next_or_conflict more at r)
  carried rest more last at (Ok rows) h = h rows
  carried rest more last at (Err kind) h = refl

  -- a section of a kept table
  kept_part : (table : ℕ) (shape : Shape) → compatible schema kept shape ≡ Some table
      → (changes : List Change) (rest : List (Shape × Change)) (at end : ℕ) (rows : Rows) → end ≡ at + length changes
      → part_from schema kept takes (map (λ change. (shape, change)) changes ++ rest) at rows
      ≡ carry (λ after. part_from schema kept takes rest end after) (section_part table shape takes changes at rows)
  unfolding part_from section_part
  kept_part table shape here [] rest at end rows is =
      ap (λ (n : ℕ). part_from schema kept takes rest n rows) (omega arith)
  kept_part table shape here (change ∷ changes) rest at end rows is =
      ap (λ (t : Option ℕ). next_or_conflict
      (λ next after. part_from schema kept takes (map (λ c. (shape, c)) changes ++ rest) next after) at
      (effect_if_taken t takes rows shape change)) here
      ∙ carried (λ next after. part_from schema kept takes (map (λ c. (shape, c)) changes ++ rest) next after)
      (λ next after. section_part table shape takes changes next after)
      (λ after. part_from schema kept takes rest end after) at (effect_if_taken (Some table) takes rows shape change)
      (λ after. kept_part table shape here changes rest (suc at) end after (omega arith))

  -- a section of another table
  other_part : (shape : Shape) → compatible schema kept shape ≡ None
      → (changes : List Change) (rest : List (Shape × Change)) (at end : ℕ) (rows : Rows) → end ≡ at + length changes
      → part_from schema kept takes (map (λ change. (shape, change)) changes ++ rest) at rows
      ≡ part_from schema kept takes rest end rows
  unfolding part_from
  other_part shape none [] rest at end rows is = ap (λ (n : ℕ). part_from schema kept takes rest n rows) (omega arith)
  other_part shape none (change ∷ changes) rest at end rows is =
      ap (λ (t : Option ℕ). next_or_conflict
      (λ next after. part_from schema kept takes (map (λ c. (shape, c)) changes ++ rest) next after) at
      (effect_if_taken t takes rows shape change)) none
      ∙ other_part shape none changes rest (suc at) end rows (omega arith)

  first_section : (section : Section) (rest sections : List Section) → sections ≡ section ∷ rest
      → changes_of sections ≡ map (λ change. (section.shape, change)) section.changes ++ changes_of rest
  first_section section rest sections is = rw is refl

  pub part_goes : (section : Section) (rest sections : List Section) (table at end : ℕ) (old new : Rows)
      (all : Result Rows Conflicts) → sections ≡ section ∷ rest
      → compatible schema kept section.shape ≡ Some table → end ≡ at + length section.changes
      → section_part table section.shape takes section.changes at old ≡ Ok new
      → part_from schema kept takes (changes_of sections) at old ≡ all
      → part_from schema kept takes (changes_of rest) end new ≡ all
  part_goes section rest sections table at end old new all is here counted ok so_far =
      sym (ap (λ (cs : List (Shape × Change)). part_from schema kept takes cs at old)
      (first_section section rest sections is)
      ∙ kept_part table section.shape here section.changes (changes_of rest) at end old counted
      ∙ ap (carry (λ after. part_from schema kept takes (changes_of rest) end after)) ok)
      ∙ so_far

  pub part_stops : (section : Section) (rest sections : List Section) (table at end : ℕ) (old : Rows)
      (all : Result Rows Conflicts) (e : ApplyError) → sections ≡ section ∷ rest
      → compatible schema kept section.shape ≡ Some table → end ≡ at + length section.changes
      → ReportsConflict e (section_part table section.shape takes section.changes at old)
      → part_from schema kept takes (changes_of sections) at old ≡ all → ReportsConflict e all
  part_stops section rest sections table at end old all error.Memory is here counted stops so_far = tt
  part_stops section rest sections table at end old all (error.Conflict conflict) is here counted stops so_far =
      sym so_far ∙ ap (λ (cs : List (Shape × Change)). part_from schema kept takes cs at old)
      (first_section section rest sections is)
      ∙ kept_part table section.shape here section.changes (changes_of rest) at end old counted
      ∙ ap (carry (λ after. part_from schema kept takes (changes_of rest) end after)) stops

  pub part_passed : (section : Section) (rest sections : List Section) (at end : ℕ) (rows : Rows)
      (all : Result Rows Conflicts) → sections ≡ section ∷ rest
      → compatible schema kept section.shape ≡ None → end ≡ at + length section.changes
      → part_from schema kept takes (changes_of sections) at rows ≡ all
      → part_from schema kept takes (changes_of rest) end rows ≡ all
  part_passed section rest sections at end rows all is none counted so_far =
      sym (ap (λ (cs : List (Shape × Change)). part_from schema kept takes cs at rows)
      (first_section section rest sections is)
      ∙ other_part section.shape none section.changes (changes_of rest) at end rows counted)
      ∙ so_far

  pub part_ends : (sections : List Section) (at : ℕ) (rows : Rows) (all : Result Rows Conflicts) → sections ≡ []
      → part_from schema kept takes (changes_of sections) at rows ≡ all → all ≡ Ok rows
  unfolding part_from
  part_ends sections at rows all none so_far =
      sym so_far ∙ ap (λ (ss : List Section). part_from schema kept takes (changes_of ss) at rows) none
