use Rattle.rb_script.proofs.endings.PlainLaws.{plain_all, plain_whole, plain_stops}
use Rattle.rb_script.proofs.laws.plain_output_is_the_answers.Goals as goal

pub returns-clause-all : goal.returns-clause-all
returns-clause-all c = λ config input. plain_all config input

pub returns-clause-whole : goal.returns-clause-whole
returns-clause-whole c = λ config input. plain_whole config input

pub returns-clause-none : goal.returns-clause-none
returns-clause-none c = λ config lines. plain_stops config lines
