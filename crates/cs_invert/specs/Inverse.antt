-- The inverse of a changeset (*Inverse*), and a changeset's withdrawal (*Withdrawal*).
use Rattle.std.specs.Prelude.{◌≡◌, ℕ, ◌==◌, Bool, true, false, ◌&&◌, if◌then◌else◌, List}
use Rattle.std.specs.Prelude.{◌++◌, map}
use Rattle.std.specs.List.{list_any}
use Rattle.cs_model.specs.declared.value.Field.{Field}
use Rattle.cs_model.specs.declared.change.Op.{Op}
use Rattle.cs_model.specs.declared.change.Op.TheVariants.{Insert, Update, Delete}
use Rattle.cs_model.specs.declared.change.Change.{Change}
use Rattle.cs_model.specs.Packed.{packed}
use Rattle.cs_model.specs.PackedChanges.{change_of}
use Rattle.cs_model.specs.Schema.{same_bytes}
use Rattle.cs_model.specs.Section.{Section}
use Rattle.cs_group.specs.Group.{changed_row, group_of}
use Rattle.cs_group.specs.Merge.{by_column}

-- ---- one change

-- An UPDATE's old record with the new values in place of the old ones outside the key. The key's
-- values stay.
abbrev pub inverse_old : List ℕ → List Field → List Field → List Field
inverse_old flags before after =
    by_column (λ flag old new. if flag == 0 then new else old) flags before after

-- its new record with the old values in place of the new ones outside the key
abbrev pub inverse_new : List ℕ → List Field → List Field → List Field
inverse_new flags before after =
    by_column (λ flag old new. if flag == 0 then old else new) flags before after

-- the bytes of both
abbrev pub exchanged_bytes : List ℕ → List Field → List Field → List ℕ
exchanged_bytes flags before after = packed (inverse_old flags before after)
    ++ packed (inverse_new flags before after)

-- An INSERT becomes a DELETE of the same row, and a DELETE an INSERT of it. An UPDATE exchanges its
-- old and new values.
abbrev pub inverse_by : Op → List ℕ → Change → Change
inverse_by Insert flags c = change_of Delete c.indirect c.after c.before
inverse_by Update flags c = change_of Update c.indirect (inverse_old flags c.before c.after)
    (inverse_new flags c.before c.after)
inverse_by Delete flags c = change_of Insert c.indirect c.after c.before

abbrev pub inverse_change : List ℕ → Change → Change
inverse_change flags c = inverse_by c.op flags c

-- ---- changesets

abbrev pub inverse_section : Section → Section
inverse_section section =
    record {
      shape = section.shape;
      changes = map (inverse_change section.shape.flags) section.changes;
    }

-- *Inverse*: each change inverted where it stands. Sections and their order stay.
abbrev pub inverse : List Section → List Section
inverse sections = map inverse_section sections

-- *Withdrawal*: the inverse of the group of the changeset alone. Each row has one change in it, so
-- the order of changes doesn't matter.
abbrev pub withdrawal_of : List Section → List Section
withdrawal_of sections = inverse (group_of sections)

-- ---- the rows that sections are about

-- whether sections have a change of the row with this key, in a table with this name
abbrev pub names_row : List Section → List ℕ → List ℕ → Bool
names_row sections table row = list_any (λ section. same_bytes section.shape.name table
    && list_any (λ change. same_bytes (changed_row section.shape.flags change) row) section.changes)
    sections

-- no change of the others is of a row that a change of these is of
abbrev pub AreApart : List Section → List Section → Type 0
AreApart sections others = (table row : List ℕ) → names_row sections table row ≡ true
    → names_row others table row ≡ false
