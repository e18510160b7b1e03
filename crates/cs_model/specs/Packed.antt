-- Records as bytes: the canonical bytes of a record, and the fields that any bytes decode to.
use Rattle.std.specs.Prelude.{◌≡◌, ℕ, zero, suc, ◌+◌, ◌-◌, ◌*◌, ◌^◌, ◌<◌, List, [], ◌∷◌, length}
use Rattle.std.specs.Prelude.{take, drop, Option, Some, None, Bool, true, false, nat_lt, ◌==◌}
use Rattle.std.specs.Prelude.{if◌then◌else◌, FitsSigned}
use Rattle.std.specs.List.{flat_map, AllByRecursion}
use Rattle.std.specs.Int.{w64, from_be_bytes, cast_signed}
use Rattle.cs_model.specs.declared.value.Value.TheVariants.{Integer, Text, Blob, Null}
use Rattle.cs_model.specs.declared.value.Field.{Field}
use Rattle.cs_model.specs.declared.value.Field.TheVariants.{Undefined, Is}
use Rattle.cs_model.specs.FieldBytes.{field_bytes}

-- a record's bytes: its fields' canonical bytes, one after another
abbrev pub packed : List Field → List ℕ
packed fields = flat_map field_bytes fields

-- a length that a varint can encode
unfoldable pub IsLength : ℕ → Type 0
IsLength n = n < 2 ^ 64

-- a field that has canonical bytes
abbrev pub Fits : Field → Type 0
Fits Undefined = Unit {0}
Fits (Is (Integer number)) = FitsSigned w64 number
Fits (Is (Text bytes)) = IsLength (length bytes)
Fits (Is (Blob bytes)) = IsLength (length bytes)
Fits (Is Null) = Unit {0}

-- the bytes are those of these fields
pub record Packs (bytes : List ℕ) (fields : List Field) : Type 0 where
  pub parts : bytes ≡ packed fields
  pub fit : AllByRecursion Fits fields

-- ---- decoding: every list of bytes decodes to some fields; the result matters only for the
-- bytes of a record

-- a varint's number, and its length in bytes; the `read` bytes before these have the value `high`
abbrev pub read_from : ℕ → ℕ → ℕ → List ℕ → Option (ℕ × ℕ)
read_from left high read [] = None
read_from zero high read (b ∷ bytes) = Some (256 * high + b, read + 1)
read_from (suc left) high read (b ∷ bytes) =
    if nat_lt b 128 then Some (128 * high + b, read + 1) else read_from left
    (128 * high + (b - 128)) (read + 1) bytes

-- the bytes that a length counts, and those after them; all bytes if there is no length
abbrev pub counted_by : List ℕ → Option (ℕ × ℕ) → List ℕ × List ℕ
counted_by bytes None = (bytes, [])
counted_by bytes (Some n) = (take n.0 (drop n.1 bytes), drop n.0 (drop n.1 bytes))

-- a length and that number of bytes, and those after them
unfoldable pub counted_in : List ℕ → List ℕ × List ℕ
counted_in bytes = counted_by bytes (read_from 8 0 0 bytes)

-- an eight-byte number and the bytes after it, or NULL if there are fewer
abbrev pub integer_by : Bool → List ℕ → Field × List ℕ
integer_by true rest = (Is Null, rest)
integer_by false rest = (
  Is (Integer (cast_signed w64 (from_be_bytes w64 (take 8 rest)))),
  drop 8 rest,
)

-- the field after a type byte, and the bytes after it
unfoldable pub typed_in : ℕ → List ℕ → Field × List ℕ
typed_in byte rest =
    if byte == 0 then (Undefined, rest)
    else if byte == 1 then integer_by (nat_lt (length rest) 8) rest
    else if byte == 3 then (Is (Text (counted_in rest).0), (counted_in rest).1)
    else if byte == 4 then (Is (Blob (counted_in rest).0), (counted_in rest).1)
    else (Is Null, rest)

-- The fields that the bytes hold. Each turn takes one from `fuel`.
unfoldable pub fields_in : ℕ → List ℕ → List Field
fields_in zero bytes = []
fields_in (suc fuel) [] = []
fields_in (suc fuel) (byte ∷ rest) = (typed_in byte rest).0 ∷ fields_in fuel (typed_in byte rest).1

-- the fields that bytes decode to
unfoldable pub unpacked : List ℕ → List Field
unpacked bytes = fields_in (length bytes) bytes
