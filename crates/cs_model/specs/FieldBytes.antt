-- The canonical bytes of values and fields.
use Rattle.std.specs.Prelude.{ℕ, List, [], ◌∷◌, ◌++◌, length}
use Rattle.std.specs.Int.{w64, to_be_bytes, cast_unsigned}
use Rattle.cs_model.specs.declared.value.Value.{Value}
use Rattle.cs_model.specs.declared.value.Value.TheVariants.{Integer, Text, Blob, Null}
use Rattle.cs_model.specs.declared.value.Field.{Field}
use Rattle.cs_model.specs.declared.value.Field.TheVariants.{Undefined, Is}
use Rattle.cs_model.specs.Varint.{varint}

-- a value's canonical bytes: its type byte, then the number, or the shortest length and the bytes
abbrev pub value_bytes : Value → List ℕ
value_bytes (Integer number) = 1 ∷ to_be_bytes w64 (cast_unsigned w64 number)
value_bytes (Text bytes) = 3 ∷ (varint (length bytes) ++ bytes)
value_bytes (Blob bytes) = 4 ∷ (varint (length bytes) ++ bytes)
value_bytes Null = 5 ∷ []

-- a field's canonical bytes
abbrev pub field_bytes : Field → List ℕ
field_bytes Undefined = 0 ∷ []
field_bytes (Is value) = value_bytes value
