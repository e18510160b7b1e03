use Rattle.rb_core.proofs.whole_placings.Kept.{refused_leaves}
use Rattle.rb_core.proofs.whole_placings.PlaceRuns.{placing_runs}
use Rattle.rb_core.proofs.laws.placings_are_runs.Goals as goal

pub returns-clause-placed : goal.returns-clause-placed
returns-clause-placed c = λ old p text number new good is.
    placing_runs c.events_keep_worlds.ensures old p text number new good is

pub returns-clause-refused : goal.returns-clause-refused
returns-clause-refused c = λ old p text refusal new is. refused_leaves old p text refusal new is
