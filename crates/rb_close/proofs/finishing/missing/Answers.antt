use Rattle.std.proofs.Common.{rules}
use Rattle.rb_close.proofs.FinishLaws.{present_more}
use Rattle.rb_close.proofs.finishing.missing.Goals as goal

-- one more is given
pub loop-number-preserved : goal.loop-number-preserved
loop-number-preserved g c =
    present_more c.args.publishers.now c.loop-number.number c.loop-number.invariant (c.is_given.ensures.0 (search (rules)))
