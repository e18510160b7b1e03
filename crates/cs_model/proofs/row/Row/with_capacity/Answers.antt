use Rattle.std.proofs.Common.{[]}
use Rattle.cs_model.proofs.packing.RowLaws.{row_made}
use Rattle.cs_model.proofs.row.Row.with_capacity.Goals as goal

pub invariant_of-result : goal.invariant_of-result
invariant_of-result c = (row_made c.in_ok-with_capacity.field-0.items [] c.in_ok-with_capacity.ensures.items tt).1

pub returns : goal.returns
returns c = (row_made c.in_ok-with_capacity.field-0.items [] c.in_ok-with_capacity.ensures.items tt).0
