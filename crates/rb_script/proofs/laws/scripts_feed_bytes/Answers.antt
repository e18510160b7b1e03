use Rattle.rb_script.proofs.whole_scripts.FeedLaws.{lines_feed}
use Rattle.rb_script.proofs.laws.scripts_feed_bytes.Goals as goal

pub returns : goal.returns
returns c = λ lines. lines_feed lines
