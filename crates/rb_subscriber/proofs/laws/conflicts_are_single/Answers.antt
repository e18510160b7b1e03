use Rattle.rb_subscriber.proofs.runs.ConflictLaws.{conflict_singly}
use Rattle.rb_subscriber.proofs.laws.conflicts_are_single.Goals as goal

pub returns : goal.returns
returns c = λ old entries delivery conflict.
    conflict_singly c.applying_goes_on.ensures c.groups_apply.ensures.conflicts old entries delivery conflict
