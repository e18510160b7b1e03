-- What the result of `changeset_combine` says of the texts.
use Rattle.std.specs.Prelude.{◌≡◌, ℕ, suc, zero, ℤ, pos, negsuc, List, [], ◌∷◌, ◌++◌, length, map}
use Rattle.std.specs.Prelude.{Option, Some, None, Ok, Err}
use Rattle.cs_model.specs.Section.{Section}
use Rattle.cs_model.specs.Text.{Spells}
use Rattle.cs_parse.specs.declared.fault.ParseFault.{ParseFault}
use Rattle.cs_parse.specs.Fault.{IsFault}
use Rattle.cs_parse.specs.Reading.{answer_of}
use Rattle.cs_group.specs.Adding.{first_refused, sections_in}
use Rattle.cs_group.specs.Group.{first_clash, group_of}
use Rattle.cs_write.specs.Buffer.{given}
use Rattle.cs_write.specs.Text.{text_of}
use Rattle.changeset_c.specs.declared.combining.CombineError.{CombineError}
use Rattle.changeset_c.specs.declared.combining.CombineError.TheVariants.{Fault, Clash, Memory}
use Rattle.changeset_c.specs.declared.combining.Text.{Text}
use Rattle.cs_parse.specs.FaultNumber.{kind_number}
use Rattle.changeset_c.specs.Says.{HasFaultAt}

-- ---- the texts, and what they spell

-- the bytes of each text
abbrev pub texts_of : List Text → List (List ℕ)
texts_of texts = map (λ text. text.bytes.now) texts

-- the texts spell these changesets, text by text
abbrev pub SpellAll : List (List ℕ) → List (List Section) → Type 0
SpellAll [] [] = Unit {0}
SpellAll [] (changeset ∷ changesets) = ⊥
SpellAll (text ∷ texts) [] = ⊥
SpellAll (text ∷ texts) (changeset ∷ changesets) =
    Spells text changeset × SpellAll texts changesets

-- the canonical text of the group of these changesets
abbrev pub combined_text : List (List Section) → List ℕ
combined_text changesets = text_of (group_of (sections_in changesets))

-- ---- each result

-- The texts spell changesets of which no two clash. The text of their group has length n; the
-- buffer holds it if there was room (*given*).
pub record IsCombined (texts : List (List ℕ)) (n : ℕ) (before after : List ℕ) : Type 0 where
  pub changesets : List (List Section)
  pub spelled : SpellAll texts changesets
  pub fits : first_refused [] changesets ≡ None
  pub is_length : n ≡ length (combined_text changesets)
  pub is_given : after ≡ given (combined_text changesets) before

-- The text with this index is the first one that can't be added: those before it spell changesets
-- of which no two clash.
pub record IsFirstBad (texts : List (List ℕ)) (index : ℕ) (front : List (List ℕ)) (text : List ℕ)
    (changesets : List (List Section)) : Type 0 where
  pub rest : List (List ℕ)
  pub parts : texts ≡ front ++ text ∷ rest
  pub is_index : index ≡ length front
  pub spelled : SpellAll front changesets
  pub fits : first_refused [] changesets ≡ None

-- the first text that can't be added has a fault at this place, of the kind with this number
pub record HasTextFault (texts : List (List ℕ)) (index at kind : ℕ) : Type 0 where
  pub front : List (List ℕ)
  pub text : List ℕ
  pub changesets : List (List Section)
  pub first : IsFirstBad texts index front text changesets
  pub fault : HasFaultAt text at kind

-- The first text that can't be added spells a changeset. Its section with this index is the first
-- whose table has the name of an earlier section's and another shape.
pub record HasClash (texts : List (List ℕ)) (index section : ℕ) : Type 0 where
  pub front : List (List ℕ)
  pub text : List ℕ
  pub changesets : List (List Section)
  pub first : IsFirstBad texts index front text changesets
  pub changeset : List Section
  pub spells : Spells text changeset
  pub clash : first_clash (sections_in changesets) changeset ≡ Some section

-- ---- the result of `changeset_combine`

-- What it says of the texts, with the buffer `before` and `after`, and the outputs `index`, `at`
-- and `kind`. It is 0 or more, -1 (`negsuc 0`), -2 (`negsuc 1`) or -3 (`negsuc 2`).
abbrev pub CombineSays : ℤ → List (List ℕ) → List ℕ → List ℕ → ℕ → ℕ → ℕ → Type 0
CombineSays (pos n) texts before after index at kind = IsCombined texts n before after
CombineSays (negsuc zero) texts before after index at kind =
    HasTextFault texts index at kind × (after ≡ before)
CombineSays (negsuc (suc zero)) texts before after index at kind = after ≡ before
CombineSays (negsuc (suc (suc zero))) texts before after index at kind =
    HasClash texts index at × (after ≡ before)
CombineSays (negsuc (suc (suc (suc n)))) texts before after index at kind = ⊥

-- a value that does not change unless the result is -1 or -3
abbrev pub KeptUnlessBad : ℤ → ℕ → ℕ → Type 0
KeptUnlessBad (pos n) before after = after ≡ before
KeptUnlessBad (negsuc zero) before after = Unit {0}
KeptUnlessBad (negsuc (suc zero)) before after = after ≡ before
KeptUnlessBad (negsuc (suc (suc n))) before after = Unit {0}

-- the result for texts of which the first that can't be added is the one with this index, whose
-- fault has this place and kind; or memory ran out
abbrev pub IsTextFault : ℤ → ℕ → ℕ → ℕ → ℕ → ℕ → ℕ → Type 0
IsTextFault (pos n) index at kind text place number = ⊥
IsTextFault (negsuc zero) index at kind text place number =
    (index ≡ text) × (at ≡ place) × (kind ≡ number)
IsTextFault (negsuc (suc m)) index at kind text place number = m ≡ 0

-- the same where that text's section with this index clashes
abbrev pub IsClash : ℤ → ℕ → ℕ → ℕ → ℕ → Type 0
IsClash (pos n) index at text section = ⊥
IsClash (negsuc zero) index at text section = ⊥
IsClash (negsuc (suc zero)) index at text section = Unit {0}
IsClash (negsuc (suc (suc m))) index at text section =
    (m ≡ 0) × (index ≡ text) × (at ≡ section)

-- ---- reading texts

-- Reading a text gives the changeset that it spells, or its fault.
pub record IsReadSo (text : List ℕ) : Type 0 where
  pub spelled : (changeset : List Section) → Spells text changeset → answer_of text ≡ Ok changeset
  pub refused : (fault : ParseFault) → IsFault text fault → answer_of text ≡ Err fault

abbrev pub AreReadSo : List (List ℕ) → Type 0
AreReadSo [] = Unit {0}
AreReadSo (text ∷ texts) = IsReadSo text × AreReadSo texts

-- ---- the steps

-- the texts before one of which this is so spell these changesets
pub record SpellUntil (texts : List (List ℕ)) (changesets : List (List Section))
    (IsSo : List ℕ → Type 0) : Type 0 where
  pub front : List (List ℕ)
  pub text : List ℕ
  pub rest : List (List ℕ)
  pub parts : texts ≡ front ++ text ∷ rest
  pub spelled : SpellAll front changesets
  pub is_so : IsSo text

-- the texts before this fault spell these changesets, or all do if there is none
abbrev pub ReadUntil : List (List ℕ) → List (List Section) → Option ParseFault → Type 0
ReadUntil texts changesets None = SpellAll texts changesets
ReadUntil texts changesets (Some fault) = SpellUntil texts changesets (λ text. IsFault text fault)

-- the changeset with this index is the first that can't be added, for this section
pub record IsFirstClash (changesets : List (List Section)) (index section : ℕ) : Type 0 where
  pub front : List (List Section)
  pub changeset : List Section
  pub rest : List (List Section)
  pub parts : changesets ≡ front ++ changeset ∷ rest
  pub is_index : index ≡ length front
  pub fits : first_refused [] front ≡ None
  pub clash : first_clash (sections_in front) changeset ≡ Some section

abbrev pub ReportsFirstClash : CombineError → List (List Section) → Type 0
ReportsFirstClash (Fault text fault) changesets = ⊥
ReportsFirstClash (Clash text section) changesets = IsFirstClash changesets text section
ReportsFirstClash Memory changesets = Unit {0}

-- what a refusal says of the texts
abbrev pub Refuses : CombineError → List (List ℕ) → Type 0
Refuses (Fault text fault) texts = HasTextFault texts text fault.at (kind_number fault.kind)
Refuses (Clash text section) texts = HasClash texts text section
Refuses Memory texts = Unit {0}

-- the number is that of the texts' group, and the buffer is as *IsCombined* says
abbrev pub Writes : ℤ → List (List ℕ) → List ℕ → List ℕ → Type 0
Writes (pos n) texts before after = IsCombined texts n before after
Writes (negsuc n) texts before after = ⊥
