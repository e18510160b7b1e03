use Rattle.cs_apply.proofs.rows_by_key.Lengths.{columns_kept}
use Rattle.cs_apply.proofs.laws.rows_keep_columns.Goals as goal

pub returns : goal.returns
returns c = columns_kept
