-- A text has at least as many bytes as changes.
use Rattle.std.proofs.Common.{◌≡◌, ℕ, ◌≤◌, ◌+◌, List, [], ◌∷◌, ◌++◌, length, Ok, ap, ◌∙◌, arith}
use Rattle.std.specs.List.{flat_map}
use Rattle.std.proofs.lemmas.List.{length-append}
use Rattle.cs_model.specs.declared.change.Change.{Change}
use Rattle.cs_model.specs.Section.{Section}
use Rattle.cs_model.specs.Changeset.{most_bytes}
use Rattle.cs_model.specs.Text.{SpellsEach, SpellsChange, SpellsSection, Spells}
use Rattle.cs_parse.specs.Count.{counted, changes_in}
use Rattle.cs_parse.specs.Reading.{section_at}
use Rattle.cs_model.specs.Bytes.{AreBytes}
use Rattle.cs_parse.proofs.reading.Steps.{back_fits}
use Rattle.cs_parse.proofs.reading.TextLaws.{section_reader}
use Rattle.cs_parse.proofs.counting.Skims.{size, counted_value}

counts_long : (text front back : List ℕ) → text ≡ front ++ back → length text ≡ length front + length back
counts_long text front back e = ap length e ∙ length-append front back

counts_changes_fit : (text : List ℕ) (changes : List Change) → SpellsEach SpellsChange text changes → length changes
    ≤ length text
counts_changes_fit text [] h = omega arith
counts_changes_fit text (change ∷ changes) (front, back, e, one, more) =
    let l = counts_long text front back e in
    let a = ap length one.parts in
    let rest = counts_changes_fit back changes more in
    omega (arith, l, a, rest)

section_fits : (text : List ℕ) (section : Section) → SpellsSection text section → size section ≤ length text
section_fits text section h =
    let l = counts_long text h.header h.body h.parts in
    let a = counts_changes_fit h.body section.changes h.is_body in
    omega (arith, l, a)

sections_fit : (text : List ℕ) (sections : List Section) → SpellsEach SpellsSection text sections → changes_in sections
    ≤ length text
sections_fit text [] h = omega arith
sections_fit text (section ∷ sections) (front, back, e, one, more) =
    let l = counts_long text front back e in
    let a = section_fits front section one in
    let rest = sections_fit back sections more in
    let both = length-append section.changes (flat_map (λ s. s.changes) sections) in
    omega (arith, l, a, rest, both)

pub few_changes : (text : List ℕ) (sections : List Section) → Spells text sections → changes_in sections ≤ most_bytes
few_changes text sections h =
    let fit = sections_fit text sections h.sections in
    omega (arith, fit, h.within_limit)

-- a section that is counted takes a byte at least for each change
pub counted_fits : (bytes : List ℕ) (k : ℕ) (after : List ℕ) → AreBytes bytes → counted size (section_at bytes)
    ≡ Ok (k, after) → AreBytes after × (k + length after ≤ length bytes)
counted_fits bytes k after fits h =
    let v = counted_value size (section_at bytes) k after h in
    let t = (section_reader.takes bytes (v.0, after) fits v.1).0 in
    let l = counts_long bytes t.text after t.parts in
    let a = section_fits t.text v.0 t.spelled in
    (back_fits bytes t.text after t.parts fits, omega (arith, l, a, v.2))
