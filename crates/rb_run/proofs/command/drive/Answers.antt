use Rattle.std.proofs.lemmas.Result.{IfOk-weaker}
use Rattle.rb_run.proofs.Given.{with_option}
use Rattle.rb_run.proofs.command.drive.Goals as goal

-- the options are added one after another
pub returns : goal.returns
returns c =
    let subscribers = with_option _ _ _ _ _ c.in_ok-arg.ensures c.in_ok-command.ensures c.limit-subscribers.ensures in
    let appliers = with_option _ _ _ _ _ c.in_ok-arg-2.ensures subscribers c.limit-appliers.ensures in
    let replica = with_option _ _ _ _ _ c.in_ok-arg-3.ensures appliers c.path-replica.ensures in
    IfOk-weaker c.arg-4.result _ _ (λ command h. with_option _ _ _ _ _ h replica c.flag-progress.ensures) c.arg-4.ensures
