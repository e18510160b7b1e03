use Rattle.std.proofs.lemmas.Result.{IfOk-weaker}
use Rattle.rb_run.proofs.Given.{with_option}
use Rattle.rb_run.proofs.command.show.Goals as goal

pub returns : goal.returns
returns c =
    IfOk-weaker c.arg.result _ _ (λ command h. with_option _ _ _ _ _ h c.subcommand.ensures c.flag-json.ensures) c.arg.ensures
