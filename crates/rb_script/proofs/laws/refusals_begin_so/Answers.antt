use Rattle.rb_script.proofs.endings.RefusalLaws.{line_refuses}
use Rattle.rb_script.proofs.laws.refusals_begin_so.Goals as goal

pub returns : goal.returns
returns c = λ config stage line. line_refuses config stage line
