use Rattle.std.proofs.Common.{◌≡◌, ◌<◌, ◌^◌, drop}
use Rattle.rb_script.specs.Words.{value_from}
use Rattle.rb_script.proofs.words.value_of.Given as goal

-- the value so far, and the digits that are left, make the value of all
abbrev pub invariant-loop-digit : goal.invariant-loop-digit
invariant-loop-digit l = (value_from l.value (drop l.digit-index l.digits) ≡ value_from 0 l.digits) × (l.value < 2 ^ 64)
