-- Tables that hold places: keys without a row, whose rows can be set without memory.
use Rattle.std.specs.Prelude.{◌≡◌, ◌||◌, Bool, true, List, [], ◌∷◌, Option, Some, None}
use Rattle.std.specs.Prelude.{if◌then◌else◌, refl, length}
use Rattle.std.specs.Coded.{Coded, code_by, coded×}
use Rattle.std.specs.FinMap as map
use Rattle.std.specs.FinSet as set
use Rattle.cs_model.specs.declared.row_key.RowKey.{RowKey}
use Rattle.cs_model.specs.declared.value.Value.{Value}
use Rattle.cs_model.specs.Key.{row_key_cmp, row_key_code}
use Rattle.cs_apply.specs.Columns.{table_flags}
use Rattle.cs_apply.specs.State.{Rows, TableState, state_code}
use Rattle.cs_apply.specs.Steps.{Entries, put}

-- a finite set of row keys
abbrev pub KeySet : Type 0
KeySet = set.FinSet row_key_cmp

-- the tables, and the keys that have a place but no row
pub record HeldState : Type 0 where
  pub state : TableState
  pub held : KeySet

-- they are stored as their two parts
abbrev pub held_state_code : Coded HeldState
held_state_code = code_by (TableState × KeySet) (coded× state_code (set.code row_key_code))
    (λ t. (t.state, t.held)) (λ p. record { state = p.0; held = p.1 }) (λ _. refl)

-- the keys of the empty places
abbrev pub held_with : RowKey → Option (List Value) → KeySet → KeySet
held_with key None keys = set.insert keys key
held_with key (Some row) keys = keys

abbrev pub held_keys : Entries → KeySet
held_keys [] = set.empty
held_keys (e ∷ es) = held_with e.0 e.1 (held_keys es)

-- these tables with other rows and other places
abbrev pub with_places : HeldState → Rows → KeySet → HeldState
with_places tables rows held = record {
  state = record tables.state { rows = rows };
  held = held;
}

-- the tables with a place for this key; a key that has a row stays as it is
abbrev pub held_also : HeldState → RowKey → HeldState
held_also tables key = if map.contains_key tables.state.rows key then tables
    else record tables { held = set.insert tables.held key }

-- the tables with this row at a key, or without the key and its place
abbrev pub with_row : HeldState → RowKey → Option (List Value) → HeldState
with_row tables key row =
    with_places tables (put tables.state.rows key row) (set.remove tables.held key)

-- whether the key has a row or a place
abbrev pub is_key_placed : HeldState → RowKey → Bool
is_key_placed tables key = map.contains_key tables.state.rows key || set.contains tables.held key

abbrev pub KeyHasPlace : HeldState → RowKey → Type 0
KeyHasPlace tables key = is_key_placed tables key ≡ true

-- the row has a value for each column of the key's table
abbrev pub FitsKey : TableState → RowKey → List Value → Type 0
FitsKey tables key row = length row ≡ length (table_flags tables.schema key.table)

-- the key can be given this row without memory; it can always lose its row
abbrev pub CanHoldRow : HeldState → RowKey × Option (List Value) → Type 0
CanHoldRow tables (key, None) = Unit {0}
CanHoldRow tables (key, Some row) = KeyHasPlace tables key × FitsKey tables.state key row
