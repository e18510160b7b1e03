-- The canonical text encodes the canonical form.
use Rattle.std.proofs.Common.{◌≡◌, ℕ, ◌<◌, ◌≤◌, ◌^◌, Bool, true, false, List, [], ◌∷◌, ◌++◌, length, map, refl, ap}
use Rattle.std.proofs.Common.{append_assoc, arith}
use Rattle.std.specs.List.{AllByRecursion, flat_map}
use Rattle.cs_model.specs.declared.value.Value.TheVariants.{Integer, Text, Blob, Null}
use Rattle.cs_model.specs.declared.value.Field.{Field}
use Rattle.cs_model.specs.declared.value.Field.TheVariants.{Undefined, Is}
use Rattle.cs_model.specs.declared.shape.Shape.{Shape}
use Rattle.cs_model.specs.declared.change.Op.{Op}
use Rattle.cs_model.specs.declared.change.Op.TheVariants.{Insert, Update, Delete}
use Rattle.cs_model.specs.declared.change.Change.{Change}
use Rattle.cs_model.specs.Section.{Section}
use Rattle.cs_model.specs.Rule.{Rule, row_rule, old_rule, new_rules}
use Rattle.cs_model.specs.Varint.{IsVarint, varint}
use Rattle.cs_model.specs.FieldBytes.{field_bytes}
use Rattle.cs_model.specs.Changeset.{IsField, Obeys, AreRecords, IsChange, IsSection, IsChangeset, most_bytes}
use Rattle.cs_model.specs.Text.{SpellsField, SpellsEach, SpellsIndirect, SpellsChange, SpellsSection, Spells}
use Rattle.cs_write.specs.Canon.{canon}
use Rattle.cs_model.specs.Packed.{packed}
use Rattle.cs_model.specs.PackedChanges.{mark, change_bytes, changes_bytes}
use Rattle.cs_write.specs.Text.{header_text, section_text, text_of}
use Rattle.cs_write.proofs.forms.FormLaws.{canon_fits}

abbrev pub AreSpelled : Type 0
AreSpelled = (n : ℕ) → n < 2 ^ 64 → IsVarint (varint n) n

spell_each : {A : Type 0} (Spelling : List ℕ → A → Type 0) (text : A → List ℕ) (P : A → Type 0)
    → ((x : A) → P x → Spelling (text x) x) → (xs : List A) → AllByRecursion P xs
    → SpellsEach Spelling (flat_map text xs) xs
spell_each Spelling text P one [] h = refl
spell_each Spelling text P one (x ∷ xs) h =
    (text x, flat_map text xs, refl, one x h.0, spell_each Spelling text P one xs h.1)

field_spelled : AreSpelled → (f : Field) → IsField f → SpellsField (field_bytes f) f
field_spelled spelled Undefined h = refl
field_spelled spelled (Is (Integer n)) h = refl
field_spelled spelled (Is (Text bytes)) h = (
  varint (length bytes) ++ bytes,
  refl,
  record { count = varint (length bytes); parts = refl; is_count = spelled (length bytes) (omega (arith, h)) },
)
field_spelled spelled (Is (Blob bytes)) h = (
  varint (length bytes) ++ bytes,
  refl,
  record { count = varint (length bytes); parts = refl; is_count = spelled (length bytes) (omega (arith, h)) },
)
field_spelled spelled (Is Null) h = refl

spell_fields_of : (rules : List Rule) (fields : List Field) → Obeys rules fields → AllByRecursion IsField fields
spell_fields_of [] [] h = tt
spell_fields_of [] (f ∷ fields) h = absurd h
spell_fields_of (r ∷ rules) [] h = tt
spell_fields_of (r ∷ rules) (f ∷ fields) h = (h.0, spell_fields_of rules fields h.2)

spell_nothing : (fields : List Field) → fields ≡ [] → AllByRecursion IsField fields
spell_nothing [] h = tt
spell_nothing (f ∷ fields) h = absurd cc

records_of : (flags : List ℕ) (op : Op) (before after : List Field) → AreRecords flags op before after
    → AllByRecursion IsField before × AllByRecursion IsField after
records_of flags Insert before after h = (spell_nothing before h.0, spell_fields_of (map row_rule flags) after h.1)
records_of flags Update before after h =
    (spell_fields_of (map old_rule flags) before h.0, spell_fields_of (new_rules flags before) after h.1)
records_of flags Delete before after h = (spell_fields_of (map row_rule flags) before h.0, spell_nothing after h.1)

indirect_spelled : (indirect : Bool) → SpellsIndirect (mark indirect) indirect
indirect_spelled true = λ e. absurd cc
indirect_spelled false = refl

change_spelled : AreSpelled → (shape : Shape) (change : Change) → IsChange shape change
    → SpellsChange (change_bytes change) change
change_spelled spelled shape change h =
    let records = records_of shape.flags change.op change.before change.after h in
    record {
      byte = mark change.indirect;
      old = packed change.before;
      new = packed change.after;
      parts = refl;
      is_indirect = indirect_spelled change.indirect;
      is_old = spell_each SpellsField field_bytes IsField (field_spelled spelled) change.before records.0;
      is_new = spell_each SpellsField field_bytes IsField (field_spelled spelled) change.after records.1;
    }

header_is : (a b c : List ℕ) → 84 ∷ (a ++ (b ++ (c ++ 0 ∷ []))) ≡ 84 ∷ (((a ++ b) ++ c) ++ 0 ∷ [])
header_is a b c = ap (λ w. 84 ∷ w) (simp append_assoc)

section_spelled : AreSpelled → (section : Section) → IsSection section → SpellsSection (section_text section) section
section_spelled spelled section h =
    record {
      header = header_text section.shape;
      body = changes_bytes section.changes;
      parts = refl;
      is_header =
          record {
            count = varint (length section.shape.flags);
            parts = header_is (varint (length section.shape.flags))
                section.shape.flags section.shape.name;
            is_count =
                spelled (length section.shape.flags) (omega (arith, h.0.not_more_columns));
          };
      is_body = spell_each SpellsChange change_bytes (IsChange section.shape) (change_spelled spelled section.shape)
          section.changes h.1;
    }

pub text_spelled : AreSpelled → (sections : List Section) → IsChangeset sections → length (text_of sections)
    ≤ most_bytes → Spells (text_of sections) (canon sections)
text_spelled spelled sections h within =
    let valid = canon_fits sections h in
    record {
      is_changeset = valid;
      within_limit = within;
      sections = spell_each SpellsSection section_text IsSection
          (section_spelled spelled) (canon sections) valid;
    }
