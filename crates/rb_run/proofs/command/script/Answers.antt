use Rattle.std.proofs.lemmas.Result.{IfOk-weaker}
use Rattle.rb_run.proofs.Given.{with_option}
use Rattle.rb_run.proofs.command.script.Goals as goal

-- the options are added one after another
pub returns : goal.returns
returns c =
    let numbers = with_option _ _ _ _ _ c.in_ok-arg.ensures c.in_ok-command.ensures c.flag-numbers.ensures in
    IfOk-weaker c.arg-2.result _ _ (λ command h. with_option _ _ _ _ _ h numbers c.flag-strict.ensures) c.arg-2.ensures
