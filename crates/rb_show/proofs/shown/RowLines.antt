-- The lines of rows: literals and JSON, field by field.
use Rattle.std.proofs.Common.{◌≡◌, ◌∙◌, ℕ, Bool, true, false, List, [], ◌∷◌, ◌++◌, refl, ap, sym, append_assoc, map}
use Rattle.std.proofs.Common.{subst}
use Rattle.std.proofs.lemmas.Bool.{false≢true}
use Rattle.std.proofs.lemmas.List.{append-nil, map-append}
use Rattle.std.specs.Prelude.{pos, negsuc, ℤ, if◌then◌else◌}
use Rattle.std.specs.List.{flat_map}
use Rattle.std.specs.Str.{IsUtf8, is_utf8}
use Rattle.std.proofs.lemmas.Str.{IsUtf8-from_is_utf8, is_utf8-from_IsUtf8}
use Rattle.serde_json.specs.Data.{Data}
use Rattle.serde_json.specs.Find.{of_integer, is_float}
use Rattle.serde_json.specs.View.{items_of, view}
use Rattle.serde_json.specs.declared.value.Value as json
use Rattle.serde_json.specs.Written.{has_float, items_have_float}
use Rattle.cs_model.specs.declared.value.Field.{Field}
use Rattle.cs_model.specs.declared.value.Field.TheVariants.{Undefined, Is}
use Rattle.cs_model.specs.declared.value.Value.{Value}
use Rattle.cs_model.specs.declared.value.Value.TheVariants.{Integer, Text, Blob, Null}
use Rattle.cs_model.specs.Row.{values_of}
use Rattle.cs_model.specs.Rule.{is_defined}
use Rattle.rb_show.specs.Shown.{hex_data, literals, next_literal, row_data, value_data}
use Rattle.rb_show.specs.ShownTexts.{field_data, field_items, field_literal}

-- ---- UTF-8

pub not_utf8 : (bytes : List ℕ) → ¬ (IsUtf8 bytes) → is_utf8 bytes ≡ false
not_utf8 bytes not = not_true (is_utf8 bytes) (λ h. not (IsUtf8-from_is_utf8 bytes h))
  where
    not_true : (b : Bool) → ¬ (b ≡ true) → b ≡ false
    not_true true h = absurd (h refl)
    not_true false h = refl

pub ruleset utf8_tests = (not_utf8, is_utf8-from_IsUtf8)

-- ---- SQL

-- the literals of these values, after others or not
abbrev pub literals_from : Bool → List Value → List ℕ
literals_from true values = flat_map next_literal values
literals_from false values = literals values

next_from : (later : Bool) (value : Value) (values : List Value) → literals_from later (value ∷ values)
    ≡ field_literal later (Is value) ++ literals_from true values
next_from true value values = refl
next_from false value values = refl

none_from : (later : Bool) → literals_from later [] ≡ []
none_from true = refl
none_from false = refl

-- one more value is appended
pub literal_goes_on : (later : Bool) (made new whole : List ℕ) (value : Value) (values : List Value)
    → made ++ literals_from later (value ∷ values) ≡ whole → new ≡ made ++ field_literal later (Is value)
    → new ++ literals_from true values ≡ whole
literal_goes_on later made new whole value values so_far is =
    ap (λ (t : List ℕ). t ++ literals_from true values) is
    ∙ append_assoc made (field_literal later (Is value)) (literals_from true values)
    ∙ ap (λ (t : List ℕ). made ++ t) (sym (next_from later value values))
    ∙ so_far

-- a field's value is appended; a field without one is left out
pub field_goes_on : (later : Bool) (made new whole : List ℕ) (field : Field) (fields rest : List Field)
    → fields ≡ field ∷ rest → is_defined field ≡ true → made ++ literals_from later (values_of fields) ≡ whole
    → new ≡ made ++ field_literal later field → new ++ literals_from true (values_of rest) ≡ whole
field_goes_on later made new whole Undefined fields rest cut has so_far is = absurd (false≢true has)
field_goes_on later made new whole (Is value) fields rest cut has so_far is =
    literal_goes_on later made new whole value (values_of rest)
    (subst (λ (f : List Field). made ++ literals_from later (values_of f) ≡ whole) cut so_far) is

pub field_passes : (later : Bool) (made whole : List ℕ) (field : Field) (fields rest : List Field)
    → fields ≡ field ∷ rest → is_defined field ≡ false → made ++ literals_from later (values_of fields) ≡ whole
    → made ++ literals_from later (values_of rest) ≡ whole
field_passes later made whole Undefined fields rest cut has so_far =
    subst (λ (f : List Field). made ++ literals_from later (values_of f) ≡ whole) cut so_far
field_passes later made whole (Is value) fields rest cut has so_far = absurd (false≢true (sym has))

pub literals_end : (later : Bool) (made whole : List ℕ) (fields : List Field) → fields ≡ []
    → made ++ literals_from later (values_of fields) ≡ whole → made ≡ whole
literals_end later made whole fields none so_far =
    sym (append-nil made) ∙ ap (λ (t : List ℕ). made ++ t) (sym (none_from later))
    ∙ subst (λ (f : List Field). made ++ literals_from later (values_of f) ≡ whole) none so_far

-- ---- JSON

pub item_goes_on : (made new whole : List Data) (field : Field) (fields rest : List Field)
    → fields ≡ field ∷ rest → made ++ map value_data (values_of fields) ≡ whole
    → new ≡ made ++ field_items (field_data field) → new ++ map value_data (values_of rest) ≡ whole
item_goes_on made new whole Undefined fields rest cut so_far is =
    rw (is, append-nil made) (subst (λ (f : List Field). made ++ map value_data (values_of f) ≡ whole) cut so_far)
item_goes_on made new whole (Is value) fields rest cut so_far is =
    ap (λ (t : List Data). t ++ map value_data (values_of rest)) is
    ∙ append_assoc made (value_data value ∷ []) (map value_data (values_of rest))
    ∙ subst (λ (f : List Field). made ++ map value_data (values_of f) ≡ whole) cut so_far

pub items_end : (made whole : List Data) (fields : List Field) → fields ≡ []
    → made ++ map value_data (values_of fields) ≡ whole → made ≡ whole
items_end made whole fields none so_far =
    sym (append-nil made) ∙ subst (λ (f : List Field). made ++ map value_data (values_of f) ≡ whole) none so_far

pub one_more_viewed : (items : List json.Value) (item : json.Value)
    → map view (items ++ item ∷ []) ≡ map view items ++ view item ∷ []
one_more_viewed items item = map-append view items (item ∷ [])

integer_floatless : (n : ℤ) → is_float (of_integer n) ≡ false
integer_floatless (pos n) = refl
integer_floatless (negsuc n) = refl

text_floatless : (utf8 : Bool) (d e : Data) → has_float d ≡ false → has_float e ≡ false
    → has_float (if utf8 then d else e) ≡ false
text_floatless true d e p q = p
text_floatless false d e p q = q

value_floatless : (value : Value) → has_float (value_data value) ≡ false
value_floatless (Integer n) = integer_floatless n
value_floatless (Text bytes) = text_floatless (is_utf8 bytes) _ (hex_data bytes) refl refl
value_floatless (Blob bytes) = refl
value_floatless Null = refl

values_floatless : (values : List Value) → items_have_float (items_of (map value_data values)) ≡ false
values_floatless [] = refl
values_floatless (value ∷ values) = rw (value_floatless value) (values_floatless values)

-- a row has no number with a fraction, so its JSON has one text
pub row_floatless : (name : List ℕ) (values : List Value) → has_float (row_data name values) ≡ false
row_floatless name values =
    rw (values_floatless values, text_floatless (is_utf8 name) _ (hex_data name) refl refl) refl
