-- Tables as values: a schema, its kept tables and their rows.
use Rattle.std.specs.Prelude.{◌≡◌, ℕ, Bool, false, List, Option, Some, None, slice_get, unwrap_or}
use Rattle.std.specs.Prelude.{if◌then◌else◌, refl}
use Rattle.std.specs.Coded.{Coded, code_by, coded×, coded_list, coded_bool}
use Rattle.std.specs.FinMap as map
use Rattle.cs_model.specs.contracts.shape.Shape as shape
use Rattle.cs_model.specs.contracts.value.Value as value
use Rattle.cs_model.specs.declared.shape.Shape.{Shape}
use Rattle.cs_model.specs.declared.row_key.RowKey.{RowKey}
use Rattle.cs_model.specs.declared.value.Value.{Value}
use Rattle.cs_model.specs.Key.{row_key_cmp, row_key_code}
use Rattle.cs_model.specs.Schema.{table_index}

-- rows by their keys: a finite map, in the order of the keys
abbrev pub Rows : Type 0
Rows = map.FinMap row_key_cmp (List Value)

-- each of these rows is one of the others, under the same key
abbrev pub AreIn : Rows → Rows → Type 0
AreIn rows others = (key : RowKey) (row : List Value) → map.get rows key ≡ Some row
    → map.get others key ≡ Some row

-- Tables: the schema, one flag for each table that says whether it is kept, and the rows.
pub record TableState : Type 0 where
  pub schema : List Shape
  pub kept : List Bool
  pub rows : Rows

-- whether the table at this index is kept
abbrev pub is_kept : List Bool → ℕ → Bool
is_kept kept table = unwrap_or (slice_get kept table) false

abbrev pub only_kept : List Bool → Option ℕ → Option ℕ
only_kept kept None = None
only_kept kept (Some table) = if is_kept kept table then Some table else None

-- The index of the compatible table: the one in the schema with this name and these key flags, if
-- it is kept.
abbrev pub compatible : List Shape → List Bool → Shape → Option ℕ
compatible schema kept shape = only_kept kept (table_index schema shape)

-- tables are stored as their three parts
abbrev pub state_code : Coded TableState
state_code =
    code_by (List Shape × (List Bool × Rows))
    (coded× (coded_list shape.the_row.coded)
    (coded× (coded_list coded_bool) (map.code row_key_code (coded_list value.the_row.coded))))
    (λ s. (s.schema, (s.kept, s.rows)))
    (λ p. record { schema = p.0; kept = p.1.0; rows = p.1.1 }) (λ _. refl)
