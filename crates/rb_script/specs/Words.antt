-- The words of a line: numbers and bytes.
use Rattle.std.specs.Prelude.{ℕ, ◌+◌, ◌-◌, ◌*◌, ◌^◌, Bool, false, ◌&&◌, ◌||◌, not, ◌==◌, nat_lt}
use Rattle.std.specs.Prelude.{nat_le, List, [], ◌∷◌, length, Option, Some, None, if◌then◌else◌}
use Rattle.std.specs.Prelude.{codes}
use Rattle.std.specs.List.{list_all, slice_split}
use Rattle.std.specs.Result.{result_ok}
use Rattle.hex.specs.Hex.{decode_of}
use Rattle.cs_model.specs.Schema.{same_bytes}

-- the words between single spaces
abbrev pub words_of : List ℕ → List (List ℕ)
words_of line = slice_split (λ byte. byte == 32) line

-- whether a byte is a decimal digit
abbrev pub is_digit : ℕ → Bool
is_digit byte = nat_le 48 byte && nat_le byte 57

-- whether a word is digits without a leading zero
abbrev pub is_numeral : List ℕ → Bool
is_numeral [] = false
is_numeral (first ∷ rest) = list_all is_digit (first ∷ rest)
    && (not (first == 48) || nat_lt (length rest) 1)

-- the value of `high` with these digits appended
abbrev pub value_from : ℕ → List ℕ → ℕ
value_from high [] = high
value_from high (digit ∷ digits) = value_from (10 * high + (digit - 48)) digits

-- the value of the digits, if it fits in 64 bits
abbrev pub value_within : List ℕ → Option ℕ
value_within digits = if nat_lt (value_from 0 digits) (2 ^ 64) then Some (value_from 0 digits) else
    None

-- the 64-bit number that a word spells in decimal
abbrev pub number_in_word : List ℕ → Option ℕ
number_in_word word = if is_numeral word then value_within word else None

-- the bytes that a word spells in hexadecimal of either case; `-` spells none
abbrev pub bytes_of : List ℕ → Option (List ℕ)
bytes_of [] = None
bytes_of (first ∷ rest) = if same_bytes (first ∷ rest) (codes "-") then Some [] else result_ok
    (decode_of (first ∷ rest))
