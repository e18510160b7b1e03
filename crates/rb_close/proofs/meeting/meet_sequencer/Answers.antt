use Rattle.std.proofs.Common.{arith}
use Rattle.rb_close.proofs.MeetLaws.{accepts_part}
use Rattle.rb_close.proofs.meeting.meet_sequencer.Goals as goal

pub returns-clause-part : goal.returns-clause-part
returns-clause-part g c = λ ends.
    accepts_part c.args.sequencer.now.placed c.args.subscription.now (λ n more last.
    c.loop-number.invariant n (omega (arith, c.start-start.ensures, more))
    (omega (arith, ends, last, c.loop-number-test.false)))
