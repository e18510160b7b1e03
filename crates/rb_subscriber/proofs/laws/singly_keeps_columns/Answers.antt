use Rattle.rb_subscriber.proofs.runs.RunLaws.{singly_columns}
use Rattle.rb_subscriber.proofs.laws.singly_keeps_columns.Goals as goal

pub returns : goal.returns
returns c = λ old entries new. singly_columns c.rows_keep_columns.ensures old entries new
