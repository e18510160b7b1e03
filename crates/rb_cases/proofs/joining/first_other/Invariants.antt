use Rattle.std.proofs.Common.{◌≡◌, drop, map}
use Rattle.rb_cases.specs.Joining.{other_than}
use Rattle.rb_cases.proofs.joining.first_other.Given as goal

-- none of the answers so far is another
abbrev pub invariant-loop-answer : goal.invariant-loop-answer
invariant-loop-answer l = other_than l.last (map (λ answer. answer.now) l.answers)
    ≡ other_than l.last (map (λ answer. answer.now) (drop l.answer-index l.answers))
