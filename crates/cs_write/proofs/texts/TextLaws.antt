-- Writing group by group gives the text of the canonical form.
use Rattle.std.proofs.Common.{◌≡◌, ℕ, Bool, true, false, cond, List, [], ◌∷◌, ◌++◌, refl, ap, ◌∙◌}
use Rattle.cs_model.specs.Section.{Section}
use Rattle.cs_write.specs.Canon.{Group, joined_section, has_changes, canon_of}
use Rattle.cs_write.specs.Text.{section_text, sections_text}
use Rattle.std.specs.List.{flat_map}

-- a group's text, empty if it has no change
abbrev pub group_text : Group → List ℕ
group_text group = cond (has_changes (joined_section group)) (section_text (joined_section group)) []

abbrev pub groups_text : List Group → List ℕ
groups_text groups = flat_map group_text groups

abbrev kept : Bool → Section → List Section → List Section
kept b s rest = cond b (s ∷ rest) rest

one : (b : Bool) (s : Section) (rest : List Section) → cond b (section_text s) [] ++ sections_text rest
    ≡ sections_text (kept b s rest)
one true s rest = refl
one false s rest = refl

pub groups_are : (groups : List Group) → groups_text groups ≡ sections_text (canon_of groups)
groups_are [] = refl
groups_are (g ∷ groups) = ap (λ t. group_text g ++ t) (groups_are groups)
    ∙ one (has_changes (joined_section g)) (joined_section g) (canon_of groups)
