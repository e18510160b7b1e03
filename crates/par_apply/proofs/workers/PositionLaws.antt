-- The positions of a shard's changes, one change and one section after another.
use Rattle.std.proofs.Common.{◌≡◌, ◌∙◌, ℕ, suc, ◌+◌, Bool, true, false, cond, List, [], ◌∷◌, ◌++◌, length, map}
use Rattle.std.proofs.Common.{Some, None, refl, ap, sym, arith}
use Rattle.std.proofs.lemmas.List.{append-nil, append_assoc}
use Rattle.cs_model.specs.declared.change.Change.{Change}
use Rattle.cs_model.specs.declared.row_key.RowKey.{RowKey}
use Rattle.cs_model.specs.declared.shape.Shape.{Shape}
use Rattle.cs_model.specs.Schema.{table_index}
use Rattle.cs_model.specs.Section.{Section}
use Rattle.cs_apply.specs.Single.{changes_of}
use Rattle.par_apply.specs.Shards.{section_positions, taken_positions, takes_change}

-- a position more in front, or not
abbrev pub noted_if : Bool → ℕ → List ℕ → List ℕ
noted_if taken at rest = cond taken (at ∷ rest) rest

module _ (table : ℕ) (shape : Shape) (takes : RowKey → Bool) where
  -- what is noted so far, and the positions of the changes that are left, make all
  pub position_next : (change : Change) (rest changes : List Change) (at next : ℕ) (list longer all : List ℕ)
      (taken : Bool) → changes ≡ change ∷ rest → next ≡ suc at
      → taken ≡ takes_change (Some table) takes shape change → longer ≡ list ++ cond taken (at ∷ []) []
      → list ++ section_positions table shape takes changes at ≡ all
      → longer ++ section_positions table shape takes rest next ≡ all
  unfolding section_positions
  position_next change rest changes at next list longer all taken is after same more so_far =
      (λ i. more i ++ section_positions table shape takes rest (after i))
      ∙ by taken (section_positions table shape takes rest (suc at))
      ∙ ap (λ l. list ++ l) (ap (λ b. noted_if b at (section_positions table shape takes rest (suc at))) same)
      ∙ ap (λ (cs : List Change). list ++ section_positions table shape takes cs at) (sym is) ∙ so_far
    where
      by : (b : Bool) (left : List ℕ) → (list ++ cond b (at ∷ []) []) ++ left ≡ list ++ noted_if b at left
      by true left = append_assoc list (at ∷ []) left
      by false left = append_assoc list [] left

  pub positions_end : (changes : List Change) (at : ℕ) (list all : List ℕ) → changes ≡ []
      → list ++ section_positions table shape takes changes at ≡ all → list ≡ all
  unfolding section_positions
  positions_end changes at list all none so_far =
      sym (append-nil list)
      ∙ ap (λ (cs : List Change). list ++ section_positions table shape takes cs at) (sym none) ∙ so_far

module _ (schema : List Shape) (takes : RowKey → Bool) where
  -- a section of a table in the schema
  known_positions : (table : ℕ) (shape : Shape) → table_index schema shape ≡ Some table
      → (changes : List Change) (rest : List (Shape × Change)) (at end : ℕ) → end ≡ at + length changes
      → taken_positions schema takes (map (λ change. (shape, change)) changes ++ rest) at
      ≡ section_positions table shape takes changes at ++ taken_positions schema takes rest end
  unfolding taken_positions section_positions
  known_positions table shape here [] rest at end is = ap (λ (n : ℕ). taken_positions schema takes rest n) (omega arith)
  known_positions table shape here (change ∷ changes) rest at end is =
      ap (λ t. noted_if (takes_change t takes shape change) at
      (taken_positions schema takes (map (λ c. (shape, c)) changes ++ rest) (suc at))) here
      ∙ ap (noted_if (takes_change (Some table) takes shape change) at)
      (known_positions table shape here changes rest (suc at) end (omega arith))
      ∙ by (takes_change (Some table) takes shape change)
    where
      by : (b : Bool) → noted_if b at (section_positions table shape takes changes (suc at)
          ++ taken_positions schema takes rest end)
          ≡ noted_if b at (section_positions table shape takes changes (suc at))
          ++ taken_positions schema takes rest end
      by true = refl
      by false = refl

  -- a section of another table
  unknown_positions : (shape : Shape) → table_index schema shape ≡ None
      → (changes : List Change) (rest : List (Shape × Change)) (at end : ℕ) → end ≡ at + length changes
      → taken_positions schema takes (map (λ change. (shape, change)) changes ++ rest) at
      ≡ taken_positions schema takes rest end
  unfolding taken_positions
  unknown_positions shape none [] rest at end is = ap (λ (n : ℕ). taken_positions schema takes rest n) (omega arith)
  unknown_positions shape none (change ∷ changes) rest at end is =
      ap (λ t. noted_if (takes_change t takes shape change) at
      (taken_positions schema takes (map (λ c. (shape, c)) changes ++ rest) (suc at))) none
      ∙ unknown_positions shape none changes rest (suc at) end (omega arith)

  changes_first : (section : Section) (rest sections : List Section) → sections ≡ section ∷ rest
      → changes_of sections ≡ map (λ change. (section.shape, change)) section.changes ++ changes_of rest
  changes_first section rest sections is = rw is refl

  pub section_noted : (section : Section) (rest sections : List Section) (table at end : ℕ) (list longer all : List ℕ)
      → sections ≡ section ∷ rest → table_index schema section.shape ≡ Some table → end ≡ at + length section.changes
      → longer ≡ list ++ section_positions table section.shape takes section.changes at
      → list ++ taken_positions schema takes (changes_of sections) at ≡ all
      → longer ++ taken_positions schema takes (changes_of rest) end ≡ all
  section_noted section rest sections table at end list longer all is here counted more so_far =
      ap (λ l. l ++ taken_positions schema takes (changes_of rest) end) more
      ∙ append_assoc list (section_positions table section.shape takes section.changes at)
      (taken_positions schema takes (changes_of rest) end)
      ∙ ap (λ l. list ++ l)
      (sym (known_positions table section.shape here section.changes (changes_of rest) at end counted))
      ∙ ap (λ cs. list ++ taken_positions schema takes cs at) (sym (changes_first section rest sections is)) ∙ so_far

  pub section_left_out : (section : Section) (rest sections : List Section) (at end : ℕ) (list all : List ℕ)
      → sections ≡ section ∷ rest → table_index schema section.shape ≡ None → end ≡ at + length section.changes
      → list ++ taken_positions schema takes (changes_of sections) at ≡ all
      → list ++ taken_positions schema takes (changes_of rest) end ≡ all
  section_left_out section rest sections at end list all is none counted so_far =
      ap (λ l. list ++ l) (sym (unknown_positions section.shape none section.changes (changes_of rest) at end counted))
      ∙ ap (λ cs. list ++ taken_positions schema takes cs at) (sym (changes_first section rest sections is)) ∙ so_far

  pub all_noted : (sections : List Section) (at : ℕ) (list all : List ℕ) → sections ≡ []
      → list ++ taken_positions schema takes (changes_of sections) at ≡ all → list ≡ all
  unfolding taken_positions
  all_noted sections at list all none so_far =
      sym (append-nil list)
      ∙ ap (λ (ss : List Section). list ++ taken_positions schema takes (changes_of ss) at) (sym none) ∙ so_far
