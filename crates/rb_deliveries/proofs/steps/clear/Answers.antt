use Rattle.rb_deliveries.proofs.lists.StandLaws.{none_kept}
use Rattle.rb_deliveries.proofs.steps.clear.Goals as goal

pub returns : goal.returns
returns c = none_kept c.args.records.now c.clear.new.self _ c.requires c.clear.ensures
