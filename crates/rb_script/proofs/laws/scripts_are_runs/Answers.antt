use Rattle.std.proofs.Common.{[]}
use Rattle.rb_script.proofs.whole_scripts.RunLaws.{runs_behind}
use Rattle.rb_script.proofs.laws.scripts_are_runs.Goals as goal

pub returns : goal.returns
returns c = λ config lines. runs_behind config lines []
