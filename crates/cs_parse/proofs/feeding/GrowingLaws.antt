-- A changeset that grows by the changes that a text encodes, of its last section's table.
use Rattle.std.proofs.Common.{◌≡◌, ℕ, Bool, List, [], ◌∷◌, length, take, drop, Option, Some, None}
use Rattle.std.proofs.Common.{refl, sym, ap, subst, ◌∙◌}
use Rattle.std.proofs.lemmas.Option.{none-some}
use Rattle.std.specs.Option.{option_copied, unwrap_or}
use Rattle.std.specs.Borrow.{Bor}
use Rattle.std.specs.Prelude.{MatchOption}
use Rattle.cs_model.specs.PackedChanges.{unpacked_changes}
use Rattle.cs_model.specs.Section.{Section}
use Rattle.cs_model.specs.Sections.{LastHasColumns}
use Rattle.cs_model.proofs.packing.PackedChangeLaws.{empty}
use Rattle.cs_parse.specs.Front.{JoinsSection, JoinsTable, said_by}
use Rattle.cs_parse.specs.Growing.{with_text}
use Rattle.cs_parse.specs.Progress.{last_flags, with_changes}
use Rattle.cs_parse.proofs.joining.SectionLists.{with_none}

said_none : (flags : Option (List ℕ)) → said_by flags [] ≡ []
said_none None = refl
said_none (Some flags) = (empty (length flags) [] refl).0

pub text_none : (sections : List Section) → with_text sections [] ≡ sections
text_none sections = ap (with_changes sections) (said_none (last_flags sections)) ∙ with_none sections

-- a last section has as many columns as its key flags
pub last_flags_long : (sections : List Section) (flags : List ℕ) → last_flags sections ≡ Some flags
    → LastHasColumns sections (length flags)
last_flags_long [] flags is = absurd (none-some flags is)
last_flags_long (section ∷ []) flags is = ap (λ o. length (unwrap_or o [])) is
last_flags_long (section ∷ next ∷ sections) flags is = last_flags_long (next ∷ sections) flags is

-- the changes that a text adds to a table with these key flags
pub table_joins : (sections : List Section) (flags text : List ℕ) (count : ℕ) (canonical : Bool)
    → last_flags sections ≡ Some flags → JoinsSection (last_flags sections) text count canonical
    → JoinsTable flags text count canonical
table_joins sections flags text count canonical is joins =
    subst (λ o. JoinsSection o text count canonical) is joins

pub with_text_is : (sections : List Section) (flags text : List ℕ) → last_flags sections ≡ Some flags
    → with_text sections text ≡ with_changes sections (unpacked_changes (length flags) text)
with_text_is sections flags text is = ap (λ o. with_changes sections (said_by o text)) is

-- without a section there is no change
pub no_table : (sections : List Section) (text : List ℕ) (count : ℕ) (canonical : Bool) → last_flags sections ≡ None
    → JoinsSection (last_flags sections) text count canonical → with_text sections text ≡ sections
no_table sections text count canonical is joins =
    ap (with_text sections) (subst (λ o. JoinsSection o text count canonical) is joins).0 ∙ text_none sections

abbrev pub pair : List Section → List ℕ → List Section × List ℕ
pair sections pending = (sections, pending)

pub kept_none : (v : List Section × List ℕ) (len : ℕ) → len ≡ 0
    → v ≡ pair (with_text v.0 (take len v.1)) (drop len v.1)
kept_none v len none = λ i. pair ((sym (text_none v.0) ∙ ap (λ n. with_text v.0 (take n v.1)) (sym none)) i)
    (ap (λ n. drop n v.1) (sym none) i)

-- key flags that are borrowed, as what they are
pub lent : (result : Option (Bor (List ℕ))) (flags : Option (List ℕ))
    → MatchOption result (flags ≡ None) (λ found. flags ≡ Some found.now) → option_copied result ≡ flags
lent None flags is = sym is
lent (Some found) flags is = sym is
