use Rattle.rb_script.proofs.whole_scripts.LineLaws.{by_all_lines}
use Rattle.rb_script.proofs.laws.lines_are_answered.Goals as goal

pub returns : goal.returns
returns c = λ config lines last fits ends. by_all_lines config lines last fits ends
