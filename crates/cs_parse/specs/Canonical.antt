-- Bytes that are the canonical encoding of what is read from them.
use Rattle.std.specs.Prelude.{◌≡◌, ℕ, List, ◌++◌, length, Result, Ok}
use Rattle.cs_model.specs.Varint.{varint}
use Rattle.cs_model.specs.declared.value.Value.TheVariants.{Integer, Text, Blob, Null}
use Rattle.cs_model.specs.declared.value.Field.{Field}
use Rattle.cs_model.specs.declared.value.Field.TheVariants.{Undefined, Is}
use Rattle.cs_model.specs.Packed.{packed}
use Rattle.cs_parse.specs.declared.stop.ParseRefusal.{ParseRefusal}

-- a length as its shortest varint, and that number of bytes
abbrev pub counted_bytes : List ℕ → List ℕ
counted_bytes bytes = varint (length bytes) ++ bytes

-- The bytes after the type byte begin with the shortest encoding of a TEXT or BLOB. Other fields
-- have only one.
abbrev pub HasShortest : Field → List ℕ → List ℕ → Type 0
HasShortest Undefined bytes rest = Unit {0}
HasShortest (Is (Integer number)) bytes rest = Unit {0}
HasShortest (Is (Text value)) bytes rest = bytes ≡ counted_bytes value ++ rest
HasShortest (Is (Blob value)) bytes rest = bytes ≡ counted_bytes value ++ rest
HasShortest (Is Null) bytes rest = Unit {0}

-- If reading the bytes succeeds, they begin with the canonical encoding of what is read.
abbrev pub IsCanonical : {A : Type 0} → (A → List ℕ) → List ℕ → Result (A × List ℕ) ParseRefusal
    → Type 0
IsCanonical own bytes read = (x : _ × List ℕ) → read ≡ Ok x → bytes ≡ own x.0 ++ x.1

-- the canonical bytes of a change's two records
abbrev pub both_packed : List Field × List Field → List ℕ
both_packed records = packed records.0 ++ packed records.1
