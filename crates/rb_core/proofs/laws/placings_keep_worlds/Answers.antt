use Rattle.std.proofs.Common.{subst}
use Rattle.rb_core.specs.Placing.{PlacingEnd}
use Rattle.rb_core.specs.State.{IsWorld}
use Rattle.rb_core.proofs.whole_placings.Kept.{placing_keeps}
use Rattle.rb_core.proofs.laws.placings_keep_worlds.Goals as goal

pub returns : goal.returns
returns c = λ old p text answer new good is.
    subst (λ (x : PlacingEnd). IsWorld x.1) is (placing_keeps c.events_keep_worlds.ensures old p text good)
