use Rattle.rb_subscriber.proofs.runs.RunLaws.{tables_singly}
use Rattle.rb_subscriber.proofs.laws.accepted_apply_singly.Goals as goal

pub returns : goal.returns
returns c = λ old entries delivery new tables.
    tables_singly c.applying_goes_on.ensures c.groups_apply.ensures.same old entries delivery new tables
