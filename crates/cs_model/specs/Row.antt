-- Rows, and the conversions between rows and records.
use Rattle.std.specs.Prelude.{List, [], ◌∷◌, map}
use Rattle.cs_model.specs.declared.value.Value.{Value}
use Rattle.cs_model.specs.declared.value.Field.{Field}
use Rattle.cs_model.specs.declared.value.Field.TheVariants.{Undefined, Is}

-- a row: one value per column
abbrev pub Values : Type 0
Values = List Value

-- the record of a whole row
abbrev pub row_fields : List Value → List Field
row_fields row = map (λ value. Is value) row

-- the values of a record's fields, in column order
abbrev pub values_of : List Field → List Value
values_of [] = []
values_of (Undefined ∷ fields) = values_of fields
values_of (Is value ∷ fields) = value ∷ values_of fields
