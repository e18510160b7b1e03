use Rattle.std.proofs.Common.{◌∙◌}
use Rattle.rb_deliveries.proofs.lists.OutLaws.{many_out}
use Rattle.rb_deliveries.proofs.records.in_flight.Goals as goal

pub returns : goal.returns
returns c = c.requires.1 ∙ many_out c.args.records.now c.valid.ensures c.requires.0
