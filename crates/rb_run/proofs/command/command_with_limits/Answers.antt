use Rattle.std.proofs.lemmas.Result.{IfOk-weaker}
use Rattle.rb_run.proofs.Given.{with_option}
use Rattle.rb_run.proofs.command.command_with_limits.Goals as goal

-- the options are added one after another
pub returns : goal.returns
returns c =
    let batch = with_option _ _ _ _ _ c.in_ok-arg.ensures c.subcommand.ensures c.limit-batch.ensures in
    let window = with_option _ _ _ _ _ c.in_ok-arg-2.ensures batch c.limit-window.ensures in
    let timeout = with_option _ _ _ _ _ c.in_ok-arg-3.ensures window c.limit-timeout.ensures in
    let capacity = with_option _ _ _ _ _ c.in_ok-arg-4.ensures timeout c.limit-capacity.ensures in
    IfOk-weaker c.arg-5.result _ _ (λ made h. with_option _ _ _ _ _ h capacity c.limit-intake.ensures) c.arg-5.ensures
