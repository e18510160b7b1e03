use Rattle.rb_core.proofs.headline.Singly.{tables_are_single}
use Rattle.rb_subscriber.specs.Accept.{brought}
use Rattle.rb_core.proofs.courses.tables_apply_singly.Goals as goal

pub returns : goal.returns
returns c = λ mids new s subscriber. tables_are_single (record {
  step = (λ old sequence delivery. c.accepting_is_step.ensures old (brought sequence delivery) delivery);
  single = (λ old sequence delivery. c.accepted_apply_singly.ensures old (brought sequence delivery) delivery);
  rows = c.rows_keep_columns.ensures;
}) mids new s subscriber
