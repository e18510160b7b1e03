-- What two changes of one row come to is a change of that row; so is what one comes to alone.
use Rattle.std.proofs.Common.{◌≡◌, ◌∙◌, ℕ, Bool, true, false, cond, List, Option, Some, None, refl}
use Rattle.std.specs.Prelude.{◌&&◌}
use Rattle.std.specs.List.{list_any}
use Rattle.cs_model.specs.declared.value.Field.{Field}
use Rattle.cs_model.specs.declared.change.Op.{Op}
use Rattle.cs_model.specs.declared.change.Op.TheVariants.{Insert, Update, Delete}
use Rattle.cs_model.specs.declared.change.Change.{Change}
use Rattle.cs_model.specs.Changeset.{AreRecords}
use Rattle.cs_model.specs.KeyBytes.{key_fields, key_record}
use Rattle.cs_model.specs.PackedChanges.{change_of}
use Rattle.cs_model.specs.Rule.{is_defined}
use Rattle.cs_group.specs.Merge.{only_change, two_changes, news_changed, olds_changed, record_or, update_between}
use Rattle.cs_group.proofs.one_row.Valid.{IsOldRecord, updated_row, updated_key, old_or, old_or_key, row_is_old, deleted_row}
use Rattle.cs_group.proofs.one_row.Between.{IsPaired, olds_are_old, news_are_new, olds_key, update_pairs, rows_pair}
use Rattle.cs_group.proofs.one_row.Between.{updates_pair}

-- the change has records of its operation
abbrev pub IsValidChange : List ℕ → Change → Type 0
IsValidChange flags change = AreRecords flags change.op change.before change.after

-- the key's fields of the row that a change is about
abbrev pub key_in : List ℕ → Change → List Field
key_in flags change = key_fields flags (key_record change.op change.before change.after)

-- nothing, or a change of the row with these key fields
abbrev pub IsValidOfRow : List ℕ → List Field → Option Change → Type 0
IsValidOfRow flags key None = Unit {0}
IsValidOfRow flags key (Some change) = IsValidChange flags change × (key_in flags change ≡ key)

-- ---- an UPDATE between two records

between : (flags : List ℕ) (indirect : Bool) (before after : List Field) (some : Bool) → IsOldRecord flags before
    → IsPaired flags before after
    → IsValidOfRow flags (key_fields flags before) (cond some
    (Some (change_of Update indirect (olds_changed flags before after) (news_changed flags before after))) None)
between flags indirect before after false o n = tt
between flags indirect before after true o n =
    ((olds_are_old flags before after o n, news_are_new flags before after o n), olds_key flags before after o n)

pub between_is : (flags : List ℕ) (indirect : Bool) (before after : List Field) → IsOldRecord flags before
    → IsPaired flags before after → IsValidOfRow flags (key_fields flags before)
    (update_between flags indirect before after)
between_is flags indirect before after o n =
    between flags indirect before after (list_any is_defined (news_changed flags before after)) o n

-- ---- one change

alone_parts : (op : Op) (flags : List ℕ) (indirect : Bool) (before after : List Field)
    → AreRecords flags op before after
    → IsValidOfRow flags (key_fields flags (key_record op before after))
    (only_change flags (change_of op indirect before after))
alone_parts Insert flags indirect before after r = (r, refl)
alone_parts Update flags indirect before after r = between_is flags indirect before after r.0
    (update_pairs flags before after r.0 r.1)
alone_parts Delete flags indirect before after r = (r, refl)

pub alone_is : (flags : List ℕ) (new : Change) → IsValidChange flags new
    → IsValidOfRow flags (key_in flags new) (only_change flags new)
alone_is flags new r = alone_parts new.op flags new.indirect new.before new.after r

-- ---- two changes

other_key : (flags : List ℕ) (key other : List Field) (result : Option Change) → IsValidOfRow flags key result → key
    ≡ other
    → IsValidOfRow flags other result
other_key flags key other None is same = tt
other_key flags key other (Some change) is same = (is.0, is.1 ∙ same)

merged_parts : (op next : Op) (flags : List ℕ) (indirect then : Bool) (before after old new : List Field)
    → AreRecords flags op before after → AreRecords flags next old new
    → IsValidOfRow flags (key_fields flags (key_record op before after))
    (two_changes flags (change_of op indirect before after) (change_of next then old new))
merged_parts Insert Insert flags indirect then before after old new r s = (r, refl)
merged_parts Insert Update flags indirect then before after old new r s =
    ((refl, updated_row flags old new after s.0 s.1 r.1), updated_key flags old new after s.0 s.1 r.1)
merged_parts Insert Delete flags indirect then before after old new r s = tt
merged_parts Update Insert flags indirect then before after old new r s = (r, refl)
merged_parts Update Update flags indirect then before after old new r s =
    other_key flags (key_fields flags (record_or before old)) (key_fields flags before)
    (two_changes flags (change_of Update indirect before after) (change_of Update then old new))
    (between_is flags (indirect && then) (record_or before old) (record_or new after) (old_or flags before old r.0 s.0)
    (updates_pair flags before after old new r.0 r.1 s.0 s.1)) (old_or_key flags before old r.0 s.0)
merged_parts Update Delete flags indirect then before after old new r s =
    ((deleted_row flags before old r.0 s.0, refl), old_or_key flags before old r.0 (row_is_old flags old s.0))
merged_parts Delete Insert flags indirect then before after old new r s =
    between_is flags (indirect && then) before new (row_is_old flags before r.0) (rows_pair flags before new r.0 s.1)
merged_parts Delete Update flags indirect then before after old new r s = (r, refl)
merged_parts Delete Delete flags indirect then before after old new r s = (r, refl)

pub merged_is : (flags : List ℕ) (there new : Change) → IsValidChange flags there → IsValidChange flags new
    → IsValidOfRow flags (key_in flags there) (two_changes flags there new)
merged_is flags there new r s =
    merged_parts there.op new.op flags there.indirect new.indirect there.before there.after new.before new.after r s
