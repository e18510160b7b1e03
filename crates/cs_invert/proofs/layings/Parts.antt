-- The parts of an inverse's text, in the order in which they are written.
use Rattle.std.proofs.Common.{◌≡◌, ◌∙◌, ℕ, ◌+◌, ◌-◌, ◌≤◌, Bool, true, false, cond, eqb, List, [], ◌∷◌, ◌++◌, length, take, drop}
use Rattle.std.proofs.Common.{sym, ap, subst, arith, append_assoc}
use Rattle.std.proofs.lemmas.List.{append-nil, length-append}
use Rattle.std.specs.List.{AllByRecursion}
use Rattle.cs_model.proofs.packing.FitLaws.{change_fits}
use Rattle.cs_model.proofs.packing.PackedChangeLaws.{made}
use Rattle.cs_model.specs.declared.change.Change.{Change}
use Rattle.cs_model.specs.declared.change.Op.{Op}
use Rattle.cs_model.specs.declared.change.Op.TheVariants.{Insert, Update, Delete}
use Rattle.cs_model.specs.declared.value.Field.{Field}
use Rattle.cs_model.specs.Changeset.{AreRecords}
use Rattle.cs_model.specs.FieldBytes.{field_bytes}
use Rattle.cs_model.specs.Packed.{packed}
use Rattle.cs_model.specs.PackedChanges.{Fit, PacksAll, change_bytes, changes_bytes, mark, unpacked_changes}
use Rattle.cs_model.specs.Section.{Section}
use Rattle.cs_model.specs.SectionText.{header_text, sections_text}
use Rattle.cs_model.specs.Text.{op_byte}
use Rattle.cs_parse.proofs.counting.Fronts.{all_fit, front_is}
use Rattle.cs_write.proofs.buffers.Laying.{two}
use Rattle.cs_write.specs.Buffer.{laid}
use Rattle.cs_group.proofs.one_row.Merging.{IsValidChange}
use Rattle.cs_group.proofs.one_row.Through.{AreValidChanges}
use Rattle.cs_invert.specs.Inverse.{exchanged_bytes, inverse, inverse_by, inverse_change, inverse_old, inverse_section}
use Rattle.cs_invert.proofs.inverses.AsLong.{new_is_old}
use Rattle.cs_invert.proofs.inverses.Inverting.{inverses_fit}

-- a text in two parts
pub two_parts : (start at : ℕ) (a b whole out between after : List ℕ) → whole ≡ a ++ b
    → start + length whole ≤ length out → at ≡ start + length a → between ≡ laid start a out → after ≡ laid at b between
    → after ≡ laid start whole out
two_parts start at a b whole out between after is room is_at is_between is_after =
    two start at a b out between after (omega (arith, room, ap length is ∙ length-append a b)) is_at is_between is_after
    ∙ ap (λ (text : List ℕ). laid start text out) (sym is)

-- ---- one change

abbrev pub head_of : Op → Change → List ℕ
head_of op change = op_byte op ∷ mark change.indirect ∷ []

pub insert_parts : (flags : List ℕ) (change : Change) → IsValidChange flags change → change.op ≡ Insert
    → change_bytes (inverse_change flags change) ≡ head_of Delete change ++ packed change.after
insert_parts flags change is op =
    let valid = subst (λ (o : Op). AreRecords flags o change.before change.after) op is in
    ap (λ (o : Op). change_bytes (inverse_by o flags change)) op
    ∙ (λ i. head_of Delete change ++ (packed change.after ++ packed (valid.0 i)))
    ∙ ap (λ (text : List ℕ). head_of Delete change ++ text) (append-nil (packed change.after))

pub update_parts : (flags : List ℕ) (change : Change) → change.op ≡ Update
    → change_bytes (inverse_change flags change)
    ≡ head_of Update change ++ exchanged_bytes flags change.before change.after
update_parts flags change op = ap (λ (o : Op). change_bytes (inverse_by o flags change)) op

pub delete_parts : (flags : List ℕ) (change : Change) → IsValidChange flags change → change.op ≡ Delete
    → change_bytes (inverse_change flags change) ≡ head_of Insert change ++ packed change.before
delete_parts flags change is op =
    let valid = subst (λ (o : Op). AreRecords flags o change.before change.after) op is in
    ap (λ (o : Op). change_bytes (inverse_by o flags change)) op
    ∙ (λ i. head_of Insert change ++ (packed (valid.1 i) ++ packed change.before))

-- the records of an UPDATE's inverse
pub exchanged_parts : (flags : List ℕ) (before after : List Field) → exchanged_bytes flags before after
    ≡ packed (inverse_old flags before after) ++ packed (inverse_old flags after before)
exchanged_parts flags before after =
    ap (λ (fs : List Field). packed (inverse_old flags before after) ++ packed fs) (new_is_old flags before after)

-- ---- one column

one_field : (outside : Bool) (key other : Field) (rest : List ℕ) → field_bytes (cond outside other key) ++ rest
    ≡ packed (cond outside (other ∷ []) (key ∷ [])) ++ rest
one_field true key other rest = ap (λ (text : List ℕ). text ++ rest) (sym (append-nil (field_bytes other)))
one_field false key other rest = ap (λ (text : List ℕ). text ++ rest) (sym (append-nil (field_bytes key)))

first_column : (flag : ℕ) (flags : List ℕ) (keys others : List Field) → length keys ≡ length (flag ∷ flags)
    → length others ≡ length (flag ∷ flags)
    → packed (inverse_old (flag ∷ flags) keys others)
    ≡ packed (cond (eqb flag 0) (take 1 others) (take 1 keys)) ++ packed (inverse_old flags (drop 1 keys) (drop 1 others))
first_column flag flags [] others k o = absurd (cc k)
first_column flag flags (key ∷ keys) [] k o = absurd (cc o)
first_column flag flags (key ∷ keys) (other ∷ others) k o =
    one_field (eqb flag 0) key other (packed (inverse_old flags keys others))

-- the first of the columns that are left
pub column_parts : (flag : ℕ) (left flags : List ℕ) (keys others key other keys_left others_left : List Field)
    (field : List ℕ) → left ≡ flag ∷ flags → length keys ≡ length left → length others ≡ length left
    → key ≡ take 1 keys → keys_left ≡ drop 1 keys → other ≡ take 1 others → others_left ≡ drop 1 others
    → field ≡ packed (cond (eqb flag 0) other key)
    → packed (inverse_old left keys others) ≡ field ++ packed (inverse_old flags keys_left others_left)
column_parts flag left flags keys others key other keys_left others_left field is k o is_key is_keys is_other is_others
    is_field =
    ap (λ (fs : List ℕ). packed (inverse_old fs keys others)) is
    ∙ first_column flag flags keys others (k ∙ ap length is) (o ∙ ap length is)
    ∙ sym (ap (λ (text : List ℕ). text ++ packed (inverse_old flags keys_left others_left)) is_field
    ∙ (λ i. packed (cond (eqb flag 0) (is_other i) (is_key i)) ++ packed (inverse_old flags (is_keys i) (is_others i))))

-- ---- one section

-- what stands in front of a list's end
pub cut_back : (a b whole back front : List ℕ) → whole ≡ a ++ b → back ≡ b
    → front ≡ take (length whole - length back) whole → front ≡ a
cut_back a b whole back front is is_back is_front =
    is_front ∙ ap (λ (end : List ℕ). take (length whole - length end) whole) is_back ∙ front_is whole a b is

pub section_parts : (section : Section) (left sections : List Section) (header : List ℕ) → left ≡ section ∷ sections
    → header ≡ header_text section.shape → sections_text (inverse left)
    ≡ header ++ (changes_bytes (inverse_section section).changes ++ sections_text (inverse sections))
section_parts section left sections header is is_header =
    ap (λ (ss : List Section). sections_text (inverse ss)) is
    ∙ append_assoc (header_text section.shape) (changes_bytes (inverse_section section).changes)
    (sections_text (inverse sections))
    ∙ ap (λ (text : List ℕ). text ++ (changes_bytes (inverse_section section).changes
    ++ sections_text (inverse sections))) (sym is_header)

-- bytes that decode to the inverses of a section's changes
pub record PacksInverses (section : Section) (n : ℕ) (text : List ℕ) : Type 0 where
  pub are : unpacked_changes n text ≡ (inverse_section section).changes
  pub packs : PacksAll n text (unpacked_changes n text)

pub packs_inverses : (section : Section) (n : ℕ) (text : List ℕ) → n ≡ length section.shape.flags
    → AreValidChanges section.shape.flags section.changes → text ≡ changes_bytes (inverse_section section).changes
    → PacksInverses section n text
packs_inverses section n text columns is parts =
    let flags = section.shape.flags in
    let changes = (inverse_section section).changes in
    let m = made n text changes parts (subst (λ k. AllByRecursion (Fit k) changes) (sym columns)
    (all_fit change_fits flags changes (inverses_fit flags section.changes is))) in
    record { are = m.0; packs = m.1 }
