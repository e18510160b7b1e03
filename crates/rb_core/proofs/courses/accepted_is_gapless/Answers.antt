use Rattle.rb_core.proofs.headline.Gapless.{gapless}
use Rattle.rb_core.proofs.courses.accepted_is_gapless.Goals as goal

pub returns : goal.returns
returns c = λ mids new s subscriber. gapless mids new s subscriber
