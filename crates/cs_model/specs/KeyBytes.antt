-- The primary key fields of a record, and their bytes.
use Rattle.std.specs.Prelude.{ℕ, ◌==◌, if◌then◌else◌, List, [], ◌∷◌}
use Rattle.std.specs.List.{flat_map}
use Rattle.cs_model.specs.declared.value.Field.{Field}
use Rattle.cs_model.specs.declared.change.Op.{Op}
use Rattle.cs_model.specs.declared.change.Op.TheVariants.{Insert, Update, Delete}
use Rattle.cs_model.specs.FieldBytes.{field_bytes}

-- the fields in key columns, in column order
abbrev pub key_fields : List ℕ → List Field → List Field
key_fields [] fields = []
key_fields (flag ∷ flags) [] = []
key_fields (flag ∷ flags) (field ∷ fields) = if flag == 0 then key_fields flags fields else field
    ∷ key_fields flags fields

-- the key's canonical bytes, joined
abbrev pub key_bytes : List ℕ → List Field → List ℕ
key_bytes flags fields = flat_map field_bytes (key_fields flags fields)

-- the record that identifies a change's row: the old one, or the new one of an INSERT
abbrev pub key_record : Op → List Field → List Field → List Field
key_record Insert before after = after
key_record Update before after = before
key_record Delete before after = before
