-- The text of entries and rows.
use Rattle.std.specs.Prelude.{ℕ, List, [], ◌∷◌, ◌++◌, length, codes}
use Rattle.std.specs.List.{flat_map}
use Rattle.std.specs.Fmt.{decimal}
use Rattle.hex.specs.Hex.{encode_lower}
use Rattle.cs_model.specs.declared.origin.Origin.{Origin}
use Rattle.cs_model.specs.declared.origin.Origin.TheVariants.{Sent, Withdraws}
use Rattle.cs_model.specs.declared.value.Value.{Value}
use Rattle.cs_model.specs.declared.row_key.RowKey.{RowKey}
use Rattle.cs_model.specs.declared.value.Field.{Field}
use Rattle.cs_model.specs.FieldBytes.{value_bytes, field_bytes}
use Rattle.cs_write.specs.Text.{text_of}
use Rattle.rb_sequence.specs.Entry.{Entry}

-- bytes as a word: hexadecimal, or `-` if there are none
abbrev pub bytes_word : List ℕ → List ℕ
bytes_word [] = codes "-"
bytes_word (byte ∷ bytes) = encode_lower (byte ∷ bytes)

-- why an entry was sent: `s` for what was fed, `wN` if it withdraws entry N
abbrev pub origin_text : Origin → List ℕ
origin_text Sent = codes "s"
origin_text (Withdraws n) = codes "w" ++ decimal n

-- an entry: its number, its publisher, its number among that publisher's sendings, why it was sent,
-- and its text
abbrev pub entry_text : Entry → List ℕ
entry_text entry =
    (codes "entry " ++ (decimal entry.number
    ++ (codes " " ++ (decimal entry.item.publisher
    ++ (codes " " ++ (decimal entry.item.own
    ++ (codes " " ++ (origin_text entry.item.origin ++ codes " "))))))))
    ++ bytes_word (text_of entry.item.body)

-- a space, then a value's canonical bytes in hexadecimal
abbrev pub value_text : Value → List ℕ
value_text value = 32 ∷ encode_lower (value_bytes value)

-- the same for a field that has a value
abbrev pub field_text : Field → List ℕ
field_text field = 32 ∷ encode_lower (field_bytes field)

-- a row: its table's index, and its values
abbrev pub row_text : RowKey × List Value → List ℕ
row_text row = codes "row " ++ decimal row.0.table ++ flat_map value_text row.1 ++ 10 ∷ []

-- rows: how many, then each
abbrev pub rows_text : List (RowKey × List Value) → List ℕ
rows_text rows = codes "rows " ++ decimal (length rows) ++ 10 ∷ [] ++ flat_map row_text rows
