-- The rows of a table.
use Rattle.cs_model.specs.Section.{Section}
use Rattle.cs_group.specs.declared.rows.Rows.{Rows}
use Rattle.cs_group.specs.Table.{slot_changes, slots_seen}

-- the rows of a table, seen as a section of their changes
abbrev pub rows_seen : Rows → Section
rows_seen rows =
    record { shape = rows.shape.now; changes = slot_changes (slots_seen rows.slots.items) }
