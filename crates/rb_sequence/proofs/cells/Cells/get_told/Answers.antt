use Rattle.std.proofs.Common.{sym, subst}
use Rattle.rb_sequence.specs.Cells.{IsOccupantOf}
use Rattle.rb_sequence.proofs.cells.Cells.get_told.Goals as goal

pub get_occupant-requires : goal.get_occupant-requires
get_occupant-requires c =
    subst (IsOccupantOf c.args.self.now) (sym c.told.view_is)
    (record { has = c.requires.has; segment = c.requires.segment })
