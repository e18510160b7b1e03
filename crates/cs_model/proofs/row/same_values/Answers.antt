use Rattle.cs_model.proofs.packing.RowLaws.{same_rows}
use Rattle.cs_model.proofs.row.same_values.Goals as goal

pub returns : goal.returns
returns c = rw (← c.first.view_is, ← c.second.view_is)
    (same_rows _ _ _ c.first.invariant c.second.invariant c.eq.ensures)
