-- What the calls that return rows say. The world behind the handle stays the same.
use Rattle.std.specs.Prelude.{◌≡◌, ◌<◌, ℕ, ℤ, pos, negsuc, zero, suc, List, [], ◌∷◌, length}
use Rattle.std.specs.Prelude.{Option, Some, None, Result, Ok, Err, nat_lt, if◌then◌else◌, slice_get}
use Rattle.std.specs.FinMap as map
use Rattle.std.specs.Option.{option_map}
use Rattle.cs_apply.specs.State.{TableState}
use Rattle.cs_model.specs.declared.row_key.RowKey.{RowKey}
use Rattle.cs_write.specs.Buffer.{given}
use Rattle.rb_core.specs.State.{State}
use Rattle.broker_c.specs.RowTexts.{rows_changeset}
use Rattle.broker_c.specs.Texts.{TellsOf}
use Rattle.broker_c.specs.declared.handle.Handle.{Handle}

-- the text of all rows
abbrev pub tables_changeset : TableState → List ℕ
tables_changeset tables = rows_changeset tables.schema None (map.entries tables.rows)

abbrev pub row_key : ℕ → List ℕ → RowKey
row_key table key = record { table = table; bytes = key }

-- the text of the row with this key, if there is one
abbrev pub text_at : TableState → ℕ → List ℕ → Option (List ℕ)
text_at tables table key =
    option_map (λ row. rows_changeset tables.schema None ((row_key table key, row) ∷ []))
    (map.get tables.rows (row_key table key))

-- ---- what is found: a text, or the code of a refusal

abbrev pub all_rows_found : Option TableState → Result (List ℕ) ℤ
all_rows_found None = Err (negsuc 29)
all_rows_found (Some tables) = Ok (tables_changeset tables)

abbrev pub or_no_row : Option (List ℕ) → Result (List ℕ) ℤ
or_no_row None = Err (negsuc 46)
or_no_row (Some text) = Ok text

abbrev pub row_found : Option TableState → ℕ → List ℕ → Result (List ℕ) ℤ
row_found None table key = Err (negsuc 29)
row_found (Some tables) table key = if nat_lt table (length tables.schema) then
    or_no_row (text_at tables table key) else Err (negsuc 45)

-- ---- what is told of that

-- the text's length, and the text if there was room; or the code
abbrev pub IsRowTold : ℤ → Result (List ℕ) ℤ → List ℕ → List ℕ → Type 0
IsRowTold z (Ok text) was is = (z ≡ pos (length text)) × (is ≡ given text was)
IsRowTold z (Err code) was is = (z ≡ code) × (is ≡ was)

-- the same; or -2 where memory may run out, and the buffer stays as it was
abbrev pub IsMade : Type 0 → ℤ → Result (List ℕ) ℤ → List ℕ → List ℕ → Type 0
IsMade MayRunOut (pos n) found was is = IsRowTold (pos n) found was is
IsMade MayRunOut (negsuc zero) found was is = IsRowTold (negsuc zero) found was is
IsMade MayRunOut (negsuc (suc zero)) found was is = MayRunOut × (is ≡ was)
IsMade MayRunOut (negsuc (suc (suc n))) found was is = IsRowTold (negsuc (suc (suc n))) found was is

-- what must be there before memory can run out: the subscription, or also the table
abbrev pub IsTableThere : Option TableState → Type 0
IsTableThere None = ⊥
IsTableThere (Some tables) = Unit {0}

abbrev pub HasTable : Option TableState → ℕ → Type 0
HasTable None table = ⊥
HasTable (Some tables) table = table < length tables.schema

-- ---- readings

-- the tables of a subscription
abbrev pub tables_in : State → ℕ → Option TableState
tables_in world s = option_map (λ end. end.tables) (slice_get world.endpoints s)

-- What `broker_rows` returns: the length of the text of all rows of a subscription, and the text if
-- there was room; or -30 if there is no subscription; or -2 for one that is there.
abbrev pub ReadsRows : ℤ → ℕ → Handle → Handle → List ℕ → List ℕ → Type 0
ReadsRows result s before after was is =
    TellsOf result before after
    (λ z world. IsMade (IsTableThere (tables_in world s)) z
    (all_rows_found (tables_in world s)) was is)
    (is ≡ was)

-- The same of `broker_row` and the row with a key. It is -30 without the subscription, -46 without
-- the table and -47 without the row. -2 comes only if the table is there.
abbrev pub ReadsRow : ℤ → ℕ → ℕ → List ℕ → Handle → Handle → List ℕ → List ℕ → Type 0
ReadsRow result s table key before after was is =
    TellsOf result before after
    (λ z world. IsMade (HasTable (tables_in world s) table) z
    (row_found (tables_in world s) table key) was is)
    (is ≡ was)
