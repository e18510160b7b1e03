use Rattle.cs_apply.specs.Steps.{rows_in}
use Rattle.cs_apply.proofs.stored.ChangedLaws.{few_decide}
use Rattle.cs_apply.proofs.places.Places.are_in_but.Goals as goal

pub returns : goal.returns
returns c =
    few_decide (rows_in c.args.others.now) c.args.self.now.rows.entries c.args.changes.now c.len-places.ensures.unique
    c.requires c.count_lacked.result c.are_lacked_at_most.result c.count_lacked.ensures c.are_lacked_at_most.ensures
