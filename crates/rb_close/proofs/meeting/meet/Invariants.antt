use Rattle.std.proofs.Common.{ℕ, ◌<◌, ◌≤◌}
use Rattle.rb_close.specs.Meeting.{ShareEntry, token_accepted}
use Rattle.rb_close.proofs.meeting.meet.Given as goal

-- the numbers so far
abbrev pub invariant-loop-number : goal.invariant-loop-number
invariant-loop-number g l = (n : ℕ) → l.after < n → n ≤ l.number
    → ShareEntry (token_accepted l.one n) (token_accepted l.other n)
