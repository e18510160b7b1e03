use Rattle.rb_close.proofs.HeadlineLaws.{running_headline}
use Rattle.rb_close.proofs.laws.finished_keeps_headline.Goals as goal

pub returns : goal.returns
returns c = running_headline
