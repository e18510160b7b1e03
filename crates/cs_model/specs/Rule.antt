-- The rules for a field, by its column and its record.
use Rattle.std.specs.Prelude.{ℕ, Bool, true, false, not, List, [], ◌∷◌, ◌==◌, if◌then◌else◌}
use Rattle.cs_model.specs.declared.value.Value.TheVariants.{Integer, Text, Blob, Null}
use Rattle.cs_model.specs.declared.value.Field.{Field}
use Rattle.cs_model.specs.declared.value.Field.TheVariants.{Undefined, Is}

-- Key: a value that isn't NULL. Given: any value, NULL included. Open: any value or none. Blank: no
-- value. PairedWith: a value if the old record has one, and none otherwise.
pub data Rule : Type 0 where
  Key : Rule
  Given : Rule
  Open : Rule
  Blank : Rule
  PairedWith : Field → Rule

-- whether a field has a value
abbrev pub is_defined : Field → Bool
is_defined Undefined = false
is_defined (Is value) = true

abbrev pub is_key_value : Field → Bool
is_key_value Undefined = false
is_key_value (Is (Integer number)) = true
is_key_value (Is (Text bytes)) = true
is_key_value (Is (Blob bytes)) = true
is_key_value (Is Null) = false

-- whether a field follows a rule
abbrev pub meets : Rule → Field → Bool
meets Key field = is_key_value field
meets Given field = is_defined field
meets Open field = true
meets Blank field = not (is_defined field)
meets (PairedWith old) field = if is_defined old then is_defined field else not (is_defined field)

-- A column's rule in the one record of an INSERT or a DELETE, by its key flag.
abbrev pub row_rule : ℕ → Rule
row_rule flag = if flag == 0 then Given else Key

-- a column's rule in the old record of an UPDATE
abbrev pub old_rule : ℕ → Rule
old_rule flag = if flag == 0 then Open else Key

-- a column's rule in the new record of an UPDATE, by its key flag and the old record's field
abbrev pub new_rule : ℕ → Field → Rule
new_rule flag old = if flag == 0 then PairedWith old else Blank

-- the rules of an UPDATE's new record
abbrev pub new_rules : List ℕ → List Field → List Rule
new_rules [] before = []
new_rules (flag ∷ flags) [] = []
new_rules (flag ∷ flags) (old ∷ before) = new_rule flag old ∷ new_rules flags before
