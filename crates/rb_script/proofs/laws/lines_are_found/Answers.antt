use Rattle.rb_script.proofs.endings.PlainLaws.{lines_again}
use Rattle.rb_script.proofs.laws.lines_are_found.Goals as goal

pub returns : goal.returns
returns c = λ lines last fits ends. lines_again lines last fits ends
