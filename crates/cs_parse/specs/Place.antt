-- The places where a byte can be wrong, and the table of faults by place.
use Rattle.std.specs.Prelude.{ℕ, zero, suc, ◌+◌, ◌-◌, ◌*◌, Bool, ◌||◌, Option, Some, None, nat_lt}
use Rattle.std.specs.Prelude.{◌==◌, if◌then◌else◌}
use Rattle.cs_model.specs.Rule.{Rule, Key, Given, Open, Blank, PairedWith, is_defined}
use Rattle.cs_parse.specs.declared.fault.FaultKind.{FaultKind}
use Rattle.cs_parse.specs.declared.fault.FaultKind.TheVariants.{BadMarker, Patchset, Columns, NoKey}
use Rattle.cs_parse.specs.declared.fault.FaultKind.TheVariants.{EmptyName, NameTooLong}
use Rattle.cs_parse.specs.declared.fault.FaultKind.TheVariants.{BadOperation, BadType, Real}
use Rattle.cs_parse.specs.declared.fault.FaultKind.TheVariants.{UndefinedField, KeyMissing}
use Rattle.cs_parse.specs.declared.fault.FaultKind.TheVariants.{KeyChanged, OneSided, ValueTooLong}

-- The places where a byte can be wrong. Start: at the beginning of the text. Between: after a
-- header or a complete change. InColumns: in the number of columns. Its first number says how many
-- bytes may still have the high bit; the second is the value of the bytes before. LastKey: on the
-- last key flag, if all before it are zero. FirstLetter: where the name begins. PastName: after
-- 1,024 bytes of name. AtType: where a field begins, in a column with this rule. InLength: in the
-- length of a value, with numbers as in InColumns.
pub data BytePlace : Type 0 where
  Start : BytePlace
  Between : BytePlace
  InColumns : ℕ → ℕ → BytePlace
  LastKey : BytePlace
  FirstLetter : BytePlace
  PastName : BytePlace
  AtType : Rule → BytePlace
  InLength : ℕ → ℕ → BytePlace

-- The factor by which the next byte moves the value of those before it. `left` more bytes may have
-- the high bit.
abbrev pub factor : ℕ → ℕ
factor left = if left == 0 then 256 else 128

abbrev pub outside : ℕ → ℕ → ℕ → Bool
outside least most n = nat_lt n least || nat_lt most n

-- Whether no number from `least` to `most` is possible after this byte. Either it is the last and
-- the number is out of range, or the least possible number is above `most`.
abbrev pub leaves_none : ℕ → ℕ → ℕ → ℕ → ℕ → Bool
leaves_none least most zero high byte = outside least most (256 * high + byte)
leaves_none least most (suc left) high byte =
    if nat_lt byte 128 then outside least most (128 * high + byte)
    else nat_lt most (factor left * (128 * high + (byte - 128)))

-- the fault of a valid type byte under a rule
abbrev pub rule_refusal : Rule → ℕ → Option FaultKind
rule_refusal Key byte = if byte == 0 || byte == 5 then Some KeyMissing else None
rule_refusal Given byte = if byte == 0 then Some UndefinedField else None
rule_refusal Open byte = None
rule_refusal Blank byte = if byte == 0 then None else Some KeyChanged
rule_refusal (PairedWith old) byte =
    if is_defined old then (if byte == 0 then Some OneSided else None)
    else if byte == 0 then None
    else Some OneSided

-- the fault of a type byte
abbrev pub type_refusal : Rule → ℕ → Option FaultKind
type_refusal rule byte =
    if nat_lt 5 byte then Some BadType
    else if byte == 2 then Some Real
    else rule_refusal rule byte

-- `T` begins a header, and 9, 18 and 23 begin a change
abbrev pub begins_part : ℕ → Bool
begins_part byte = byte == 84 || (byte == 9 || (byte == 18 || byte == 23))

-- The table of faults: the fault of a byte at this place, if it has one.
abbrev pub wrong : BytePlace → ℕ → Option FaultKind
wrong Start byte = if byte == 80 then Some Patchset else if byte == 84 then None else Some BadMarker
wrong Between byte = if byte == 80 then Some Patchset else if begins_part byte then None else Some
    BadOperation
wrong (InColumns left high) byte = if leaves_none 1 2000 left high byte then Some Columns else None
wrong LastKey byte = if byte == 0 then Some NoKey else None
wrong FirstLetter byte = if byte == 0 then Some EmptyName else None
wrong PastName byte = if byte == 0 then None else Some NameTooLong
wrong (AtType rule) byte = type_refusal rule byte
wrong (InLength left high) byte =
    if leaves_none 0 16777216 left high byte then Some ValueTooLong else None
