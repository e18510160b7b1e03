-- Borrowed fields and changes, seen as the values that they encode.
use Rattle.std.specs.Prelude.{List, map}
use Rattle.cs_model.specs.declared.value.Value.TheVariants as value
use Rattle.cs_model.specs.declared.value.Field.{Field}
use Rattle.cs_model.specs.declared.value.Field.TheVariants.{Is}
use Rattle.cs_model.specs.declared.value.Field.TheVariants as field
use Rattle.cs_model.specs.declared.change.Change.{Change}
use Rattle.cs_model.specs.declared.change_ref.ChangeRef.{ChangeRef}
use Rattle.cs_model.specs.declared.field_ref.FieldRef.{FieldRef}
use Rattle.cs_model.specs.declared.field_ref.FieldRef.TheVariants.{Undefined, Integer, Text, Blob}
use Rattle.cs_model.specs.declared.field_ref.FieldRef.TheVariants.{Null}

-- the field that is borrowed
abbrev pub field_seen : FieldRef → Field
field_seen Undefined = field.Undefined
field_seen (Integer n) = Is (value.Integer n)
field_seen (Text bytes) = Is (value.Text bytes.now)
field_seen (Blob bytes) = Is (value.Blob bytes.now)
field_seen Null = Is value.Null

-- the fields that are borrowed
abbrev pub fields_seen : List FieldRef → List Field
fields_seen fields = map field_seen fields

-- the change that is borrowed
abbrev pub change_seen : ChangeRef → Change
change_seen c = record { op = c.op; indirect = c.indirect; before = c.before; after = c.after }
