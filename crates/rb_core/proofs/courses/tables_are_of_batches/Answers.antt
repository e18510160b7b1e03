use Rattle.rb_core.proofs.headline.Batched.{tables_of_batches}
use Rattle.rb_core.proofs.courses.tables_are_of_batches.Goals as goal

pub returns : goal.returns
returns c = λ mids new s subscriber. tables_of_batches mids new s subscriber
