use Rattle.std.proofs.Common.{sym, ◌∙◌}
use Rattle.cs_parse.proofs.feeding.FrontCounts.{count_whole, count_stops}
use Rattle.cs_parse.proofs.reading.Steps.{counted_pair}
use Rattle.cs_parse.proofs.change.changes_counted.Goals as goal

pub returns-in-None : goal.returns-in-None
returns-in-None c =
    let e = c.whole_changes-count.ensures in
    count_whole c.args.flags.now c.args.bytes.now (sym e.why ∙ c.in-None.is) ∙ counted_pair e.count e.rest

pub returns-in-Some : goal.returns-in-Some
returns-in-Some c = count_stops c.args.flags.now c.args.bytes.now c.in-Some.why
    (sym c.whole_changes-count.ensures.why ∙ c.in-Some.is)
