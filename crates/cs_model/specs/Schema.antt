-- Schemas: which lists of tables are valid, and which sections a schema refuses.
use Rattle.std.specs.Prelude.{◌≡◌, ℕ, Bool, not, ◌&&◌, List, [], ◌∷◌, length, Option, Some, None}
use Rattle.std.specs.Prelude.{◌++◌, option_map, position, slice_get, nat_eq, nat_lt, nat_le}
use Rattle.std.specs.Prelude.{if◌then◌else◌}
use Rattle.std.specs.List.{list_any, list_all}
use Rattle.std.specs.Option.{option_or}
use Rattle.std.specs.Cmp.Lexicographic.{pointwise}
use Rattle.cs_model.specs.declared.shape.Shape.{Shape}
use Rattle.cs_model.specs.Section.{Section}
use Rattle.cs_model.specs.declared.schema.TableFault.{TableFault}
use Rattle.cs_model.specs.declared.schema.TableFault.TheVariants.{DuplicateTable, BadShape}
use Rattle.cs_model.specs.declared.schema.SectionFault.{SectionFault}
use Rattle.cs_model.specs.declared.schema.SectionFault.TheVariants.{UnknownTable, ShapeDiffers}
use Rattle.cs_model.specs.declared.schema.SchemaError.{SchemaError}
use Rattle.cs_model.specs.declared.schema.SchemaError.TheVariants.{Fault, Memory}

-- whether two texts are the same
abbrev pub same_bytes : List ℕ → List ℕ → Bool
same_bytes a b = pointwise nat_eq a b

-- the same name and the same key flags
abbrev pub same_shape : Shape → Shape → Bool
same_shape a b = same_bytes a.name b.name && same_bytes a.flags b.flags

-- whether a table has this name
abbrev pub has_name : List Shape → List ℕ → Bool
has_name tables name = list_any (λ table. same_bytes table.name name) tables

-- whether a table has this name and these key flags
abbrev pub has_shape : List Shape → Shape → Bool
has_shape tables shape = list_any (λ table. same_shape table shape) tables

-- the index in the schema of the table with this name and these key flags
abbrev pub table_index : List Shape → Shape → Option ℕ
table_index tables shape = position (λ table. same_shape table shape) tables

-- The refusal of these sections: the first whose shape no table has. It is unknown if no table has
-- its name either.
abbrev pub refusal_at : List Shape → ℕ → Option Section → SectionFault
refusal_at tables i None = UnknownTable i
refusal_at tables i (Some section) =
    if has_name tables section.shape.name then ShapeDiffers i else UnknownTable i

abbrev pub first_outside : List Shape → List Section → Option ℕ
first_outside tables sections = position (λ section. not (has_shape tables section.shape)) sections

abbrev pub refusal_of : List Shape → List Section → Option SectionFault
refusal_of tables sections =
    option_map (λ i. refusal_at tables i (slice_get sections i)) (first_outside tables sections)

-- whether key flags are valid: 1 to 2,000 columns, at least one in the key
abbrev pub are_flags : List ℕ → Bool
are_flags flags = nat_lt 0 (length flags) && nat_le (length flags) 2000
    && list_any (λ flag. nat_lt 0 flag) flags

-- whether a name is valid: 1 to 1,024 bytes without a zero byte
abbrev pub is_name : List ℕ → Bool
is_name name = nat_lt 0 (length name) && nat_le (length name) 1024
    && list_all (λ byte. nat_lt 0 byte) name

-- whether a shape is valid
abbrev pub has_valid_shape : Shape → Bool
has_valid_shape shape = are_flags shape.flags && is_name shape.name

-- The refusal of a table after earlier ones: its name must be new, its shape valid, and its index
-- below 1,024.
abbrev pub table_refusal : List Shape → Shape → Option TableFault
table_refusal earlier shape =
    if has_name earlier shape.name then Some (DuplicateTable (length earlier))
    else if has_valid_shape shape && nat_lt (length earlier) 1024 then None
    else Some (BadShape (length earlier))

-- The refusal of a list of tables: the first that is refused after those before it.
abbrev pub tables_refusal : List Shape → List Shape → Option TableFault
tables_refusal earlier [] = None
tables_refusal earlier (shape ∷ shapes) =
    option_or (table_refusal earlier shape) (tables_refusal (earlier ++ shape ∷ []) shapes)

-- a schema: tables of which none is refused
abbrev pub IsSchema : List Shape → Type 0
IsSchema tables = tables_refusal [] tables ≡ None

-- an error of adding a table reports its refusal, or that memory ran out and there is none
abbrev pub ReportsRefusal : SchemaError → Option TableFault → Type 0
ReportsRefusal (Fault fault) refusal = refusal ≡ Some fault
ReportsRefusal Memory refusal = refusal ≡ None
