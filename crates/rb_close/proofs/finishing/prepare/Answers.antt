use Rattle.std.proofs.Common.{◌∙◌, subst}
use Rattle.rb_close.specs.Finishing.{AreAllPresent}
use Rattle.rb_close.proofs.FinishLaws.{shown_is}
use Rattle.rb_close.proofs.finishing.prepare.Goals as goal

-- it is closed at the number placed, and all publishers are given
pub returns-in-None-room_for-clause-err : goal.returns-in-None-room_for-clause-err
returns-in-None-room_for-clause-err g c = (
  shown_is _ _ _ c.in-Some.ensures.some.0 (c.in-Some.ensures.some.1 ∙ c.placed-placed.ensures.count),
  subst (λ m. AreAllPresent m c.args.publishers.now) c.made.ensures c.in-None.ensures.none,
)
