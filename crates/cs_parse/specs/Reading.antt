-- Reading a text from its front. A reader takes the bytes from its place on. It returns a value and
-- the bytes after it, or why there is none.
use Rattle.std.specs.Prelude.{ℕ, ℤ, zero, suc, ◌+◌, ◌-◌, ◌*◌, Bool, true, not, ◌||◌, List, [], ◌∷◌}
use Rattle.std.specs.Prelude.{length, take, drop, map, Option, Some, None, Result, Ok, Err, nat_lt}
use Rattle.std.specs.Prelude.{◌==◌, if◌then◌else◌, ◌≡◌}
use Rattle.std.specs.Int.{w64, from_be_bytes, cast_signed}
use Rattle.std.specs.List.{list_any}
use Rattle.cs_model.specs.declared.value.Value.TheVariants.{Integer, Text, Blob, Null}
use Rattle.cs_model.specs.declared.value.Field.{Field}
use Rattle.cs_model.specs.declared.value.Field.TheVariants.{Undefined, Is}
use Rattle.cs_model.specs.declared.shape.Shape.{Shape}
use Rattle.cs_model.specs.declared.change.Op.{Op}
use Rattle.cs_model.specs.declared.change.Op.TheVariants.{Insert, Update, Delete}
use Rattle.cs_model.specs.declared.change.Change.{Change}
use Rattle.cs_model.specs.Section.{Section}
use Rattle.cs_model.specs.Rule.{Rule, row_rule, old_rule, new_rules}
use Rattle.cs_model.specs.Changeset.{most_bytes}
use Rattle.cs_parse.specs.declared.fault.FaultKind.{FaultKind}
use Rattle.cs_parse.specs.declared.fault.FaultKind.TheVariants.{BadMarker, Patchset, Columns, NoKey}
use Rattle.cs_parse.specs.declared.fault.FaultKind.TheVariants.{EmptyName, NameTooLong}
use Rattle.cs_parse.specs.declared.fault.FaultKind.TheVariants.{BadOperation, ValueTooLong, TooLong}
use Rattle.cs_parse.specs.declared.fault.FaultKind.TheVariants.{Truncated}
use Rattle.cs_parse.specs.Place.{factor, type_refusal}
use Rattle.cs_parse.specs.declared.fault.ParseFault.{ParseFault}
use Rattle.cs_parse.specs.declared.stop.ParseRefusal.{ParseRefusal}
use Rattle.cs_parse.specs.declared.stop.ParseRefusal.TheVariants.{Short, Bad}

infixl 10 ◌>>=◌
abbrev pub ◌>>=◌ : {A B : Type 0} → Result A ParseRefusal → (A → Result B ParseRefusal)
    → Result B ParseRefusal
(Ok x) >>= f = f x
(Err e) >>= f = Err e

-- The value that a function returned, mapped by `view`, is what reading gives.
abbrev pub Reads : {X Y : Type 0} → (X → Y) → Result X ParseRefusal → Result Y ParseRefusal → Type 0
Reads view (Ok x) read = read ≡ Ok (view x)
Reads view (Err refusal) read = read ≡ Err refusal

-- refused at the byte that precedes `rest`
abbrev pub refuse : {A : Type 0} → FaultKind → List ℕ → Result A ParseRefusal
refuse kind rest = Err (Bad (suc (length rest)) kind)

-- One item after another, until `over` is true. Each turn takes one from `fuel`. It doesn't run out
-- if it is at least the number of bytes.
unfoldable pub many_at : {A : Type 0} → (List ℕ → Bool)
    → (List ℕ → Result (A × List ℕ) ParseRefusal) → ℕ → List ℕ
    → Result (List A × List ℕ) ParseRefusal
many_at over read zero bytes = Ok ([], bytes)
many_at over read (suc fuel) bytes = if over bytes then Ok ([], bytes) else (do
  first ← read bytes
  others ← many_at over read fuel first.1
  Ok (first.0 ∷ others.0, others.1))

-- ---- numbers

-- a number whose last byte precedes `rest`
abbrev pub number_within : ℕ → ℕ → FaultKind → ℕ → List ℕ → Result (ℕ × List ℕ) ParseRefusal
number_within least most kind n rest = if nat_lt n least
    || nat_lt most n then refuse kind rest else Ok (n, rest)

-- The rest of a varint: `high` is the value of the bits before it, and `left` bytes may still have
-- the high bit. It is refused at the first byte after which every number is out of its limits.
unfoldable pub number_at : ℕ → ℕ → FaultKind → ℕ → ℕ → List ℕ → Result (ℕ × List ℕ) ParseRefusal
number_at least most kind left high [] = Err Short
number_at least most kind zero high (byte ∷ rest) =
    number_within least most kind (256 * high + byte) rest
number_at least most kind (suc left) high (byte ∷ rest) =
    if nat_lt byte 128 then number_within least most kind (128 * high + byte) rest
    else if nat_lt most (factor left * (128 * high + (byte - 128))) then refuse kind rest
    else number_at least most kind left (128 * high + (byte - 128)) rest

-- the number of columns of a table
unfoldable pub columns_at : List ℕ → Result (ℕ × List ℕ) ParseRefusal
columns_at bytes = number_at 1 2000 Columns 8 0 bytes

-- the length of a value, in bytes
unfoldable pub length_at : List ℕ → Result (ℕ × List ℕ) ParseRefusal
length_at bytes = number_at 0 16777216 ValueTooLong 8 0 bytes

-- ---- fields

-- an INTEGER's eight bytes
unfoldable pub integer_at : List ℕ → Result (ℤ × List ℕ) ParseRefusal
integer_at bytes = if nat_lt (length bytes) 8 then Err Short else Ok
    (cast_signed w64 (from_be_bytes w64 (take 8 bytes)), drop 8 bytes)

-- a length, and that number of bytes
unfoldable pub counted_at : List ℕ → Result (List ℕ × List ℕ) ParseRefusal
counted_at bytes = do
  n ← length_at bytes
  if nat_lt (length n.1) n.0 then Err Short else Ok (take n.0 n.1, drop n.0 n.1)

-- a field after its type byte, which is a valid one
unfoldable pub typed_at : ℕ → List ℕ → Result (Field × List ℕ) ParseRefusal
typed_at byte rest =
    if byte == 0 then Ok (Undefined, rest)
    else if byte == 1 then (do
      number ← integer_at rest
      Ok (Is (Integer number.0), number.1))
    else if byte == 3 then (do
      bytes ← counted_at rest
      Ok (Is (Text bytes.0), bytes.1))
    else if byte == 4 then (do
      bytes ← counted_at rest
      Ok (Is (Blob bytes.0), bytes.1))
    else Ok (Is Null, rest)

abbrev pub unless_refused : {A : Type 0} → Option FaultKind → List ℕ → Result A ParseRefusal
    → Result A ParseRefusal
unless_refused None rest read = read
unless_refused (Some kind) rest read = refuse kind rest

unfoldable pub field_at : Rule → List ℕ → Result (Field × List ℕ) ParseRefusal
field_at rule [] = Err Short
field_at rule (byte ∷ rest) = unless_refused (type_refusal rule byte) rest (typed_at byte rest)

-- ---- records and changes

-- a field for each rule
unfoldable pub record_at : List Rule → List ℕ → Result (List Field × List ℕ) ParseRefusal
record_at [] bytes = Ok ([], bytes)
record_at (rule ∷ rules) bytes = do
  field ← field_at rule bytes
  fields ← record_at rules field.1
  Ok (field.0 ∷ fields.0, fields.1)

-- the old and the new record of a change with this operation, for a table with these key flags
unfoldable pub records_at : List ℕ → Op → List ℕ
    → Result ((List Field × List Field) × List ℕ) ParseRefusal
records_at flags Insert bytes = do
  row ← record_at (map row_rule flags) bytes
  Ok (([], row.0), row.1)
records_at flags Update bytes = do
  old ← record_at (map old_rule flags) bytes
  new ← record_at (new_rules flags old.0) old.1
  Ok ((old.0, new.0), new.1)
records_at flags Delete bytes = do
  row ← record_at (map row_rule flags) bytes
  Ok ((row.0, []), row.1)

-- a change after its operation byte
unfoldable pub marked_at : List ℕ → Op → List ℕ → Result (Change × List ℕ) ParseRefusal
marked_at flags op [] = Err Short
marked_at flags op (mark ∷ rest) = do
  records ← records_at flags op rest
  Ok (
    record { op = op; indirect = not (mark == 0); before = records.0.0; after = records.0.1 },
    records.1,
  )

-- the operation that a byte encodes
abbrev pub op_of : ℕ → Option Op
op_of byte =
    if byte == 18 then Some Insert
    else if byte == 23 then Some Update
    else if byte == 9 then Some Delete
    else None

-- a change after its first byte, which encodes this operation or none
abbrev pub operated : List ℕ → Option Op → ℕ → List ℕ → Result (Change × List ℕ) ParseRefusal
operated flags (Some op) byte rest = marked_at flags op rest
operated flags None byte rest = refuse (if byte == 80 then Patchset else BadOperation) rest

-- a change of a table with these key flags
unfoldable pub change_at : List ℕ → List ℕ → Result (Change × List ℕ) ParseRefusal
change_at flags [] = Err Short
change_at flags (byte ∷ rest) = operated flags (op_of byte) byte rest

-- a section's changes end at the end of the text, and where the next header begins
abbrev pub ends_section : List ℕ → Bool
ends_section [] = true
ends_section (byte ∷ rest) = byte == 84

unfoldable pub changes_at : List ℕ → List ℕ → Result (List Change × List ℕ) ParseRefusal
changes_at flags bytes = many_at ends_section (change_at flags) (length bytes) bytes

-- ---- headers

-- one or more key flags; the last is refused if all are zero
unfoldable pub flags_at : ℕ → List ℕ → Result (List ℕ × List ℕ) ParseRefusal
flags_at count bytes =
    if nat_lt (length bytes) count then Err Short
    else if list_any (λ flag. nat_lt 0 flag) (take count bytes) then Ok
    (take count bytes, drop count bytes)
    else refuse NoKey (drop count bytes)

-- the bytes up to a zero byte, at most `most`
unfoldable pub letters_at : ℕ → List ℕ → Result (List ℕ × List ℕ) ParseRefusal
letters_at most [] = Err Short
letters_at zero (byte ∷ rest) = if byte == 0 then Ok ([], rest) else refuse NameTooLong rest
letters_at (suc most) (byte ∷ rest) = if byte == 0 then Ok ([], rest) else (do
  letters ← letters_at most rest
  Ok (byte ∷ letters.0, letters.1))

-- A name and its zero byte, which is refused if the name is empty.
unfoldable pub name_at : List ℕ → Result (List ℕ × List ℕ) ParseRefusal
name_at bytes = do
  name ← letters_at 1024 bytes
  if length name.0 == 0 then refuse EmptyName name.1 else Ok name

-- a header after its `T`, up to its name: the key flags
unfoldable pub before_name_at : List ℕ → Result (List ℕ × List ℕ) ParseRefusal
before_name_at bytes = do
  count ← columns_at bytes
  flags_at count.0 count.1

-- a header after its `T`
unfoldable pub header_at : List ℕ → Result (Shape × List ℕ) ParseRefusal
header_at bytes = do
  count ← columns_at bytes
  flags ← flags_at count.0 count.1
  name ← name_at flags.1
  Ok (record { name = name.0; flags = flags.0 }, name.1)

-- ---- whole texts

-- A section's shape. The changes before it end only at a `T`. So another first byte is the first
-- byte of the text.
unfoldable pub shape_at : List ℕ → Result (Shape × List ℕ) ParseRefusal
shape_at [] = Err Short
shape_at (byte ∷ rest) = if byte == 84 then header_at rest else refuse
    (if byte == 80 then Patchset else BadMarker) rest

-- a section
unfoldable pub section_at : List ℕ → Result (Section × List ℕ) ParseRefusal
section_at bytes = do
  shape ← shape_at bytes
  changes ← changes_at shape.0.flags shape.1
  Ok (record { shape = shape.0; changes = changes.0 }, changes.1)

abbrev pub is_empty : List ℕ → Bool
is_empty bytes = length bytes == 0

unfoldable pub sections_at : List ℕ → Result (List Section × List ℕ) ParseRefusal
sections_at bytes = many_at is_empty section_at (length bytes) bytes

-- The fault of a text whose first `len` bytes are read. Its kind is `ended` if they end too early.
abbrev pub fault_of : ℕ → FaultKind → ParseRefusal → ParseFault
fault_of len ended Short = record { at = len; kind = ended }
fault_of len ended (Bad left kind) = record { at = len - left; kind = kind }

-- the result for a text of `len` bytes, which is read whole
abbrev pub whole_answer : ℕ → Result (List Section × List ℕ) ParseRefusal
    → Result (List Section) ParseFault
whole_answer len (Ok read) = Ok read.0
whole_answer len (Err refusal) = Err (fault_of len Truncated refusal)

-- The result for a longer text, of which `len` bytes are read. A wrong byte is found before the
-- text is found too long.
abbrev pub overlong_answer : ℕ → Result (List Section × List ℕ) ParseRefusal
    → Result (List Section) ParseFault
overlong_answer len (Ok read) = Err (fault_of len TooLong Short)
overlong_answer len (Err refusal) = Err (fault_of len TooLong refusal)

-- what reading a text gives: its sections, or its fault
unfoldable pub answer_of : List ℕ → Result (List Section) ParseFault
answer_of text =
    if nat_lt most_bytes (length text) then overlong_answer most_bytes
    (sections_at (take most_bytes text))
    else whole_answer (length text) (sections_at text)
