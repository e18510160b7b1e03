use Rattle.std.specs.FinMap as map
use Rattle.cs_apply.specs.Steps.{rows_in}
use Rattle.cs_apply.proofs.stored.ChangedLaws.{lacked_by}
use Rattle.cs_apply.proofs.places.Places.lacks.Goals as goal

pub returns-in-Some : goal.returns-in-Some
returns-in-Some c =
    let there = map.get (rows_in c.args.self.now) c.args.key.now in
    rw c.in-Some.is (lacked_by there c.in-Some.row.now c.has.result c.has.ensures)
