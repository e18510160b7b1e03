-- What comes back of a cell that is set.
use Rattle.std.specs.Prelude.{◌≡◌}
use Rattle.rb_sequence.specs.Cells.{Cells, IsOccupantOf}
use Rattle.rb_sequence.specs.Entry.{Entry}
use Rattle.rb_sequence.specs.declared.ready.AlreadySet.{AlreadySet}

-- The cell of the entry's number is set. The entry comes back, with the cell's token.
abbrev pub FindsSet : Cells → Entry → AlreadySet → Type 0
FindsSet s entry found = (found.entry ≡ entry) × IsOccupantOf s found.occupant
    × (found.occupant.number ≡ entry.number)
