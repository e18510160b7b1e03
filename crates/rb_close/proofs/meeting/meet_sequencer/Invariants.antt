use Rattle.std.proofs.Common.{ℕ, ◌<◌, ◌≤◌}
use Rattle.rb_close.specs.Meeting.{ShareEntry, token_accepted}
use Rattle.rb_sequencer.specs.Turns.{token_of}
use Rattle.rb_close.proofs.meeting.meet_sequencer.Given as goal

-- the numbers so far
abbrev pub invariant-loop-number : goal.invariant-loop-number
invariant-loop-number g l = (n : ℕ) → l.start < n → n ≤ l.number
    → ShareEntry (token_of l.sequencer.placed n) (token_accepted l.subscription n)
