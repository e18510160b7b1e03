use Rattle.rb_core.proofs.headline.Withdrawn.{withdrawn_at_one_place, withdrawn_is_placed}
use Rattle.rb_core.proofs.courses.withdrawn_once.Goals as goal

pub returns-clause-once : goal.returns-clause-once
returns-clause-once c = λ mids new i j n. withdrawn_at_one_place mids new i j n

pub returns-clause-placed : goal.returns-clause-placed
returns-clause-placed c = λ mids new i n. withdrawn_is_placed mids new i n
