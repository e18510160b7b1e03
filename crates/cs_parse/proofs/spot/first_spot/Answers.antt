use Rattle.cs_parse.proofs.feeding.SpotLaws.{none_short, one_short, row_begun, old_begun}
use Rattle.cs_parse.proofs.feeding.StayLaws.{start_stays}
use Rattle.cs_parse.proofs.spot.first_spot.Goals as goal

pub returns-in_default : goal.returns-in_default
returns-in_default c = start_stays c.args.flags.now c.args.bytes.now
    (none_short c.args.flags.now c.args.bytes.now c.in_default.ensures.cases)

pub row_spot-requires : goal.row_spot-requires
row_spot-requires c = row_begun c.args.flags.now c.args.bytes.now c.in-Some.field-0-0.now c.in-Some.rest.now
    c.in-Some.ensures.cases.0 c.in-18-2.is c.if-is_empty.ensures

pub old_spot-requires : goal.old_spot-requires
old_spot-requires c = old_begun c.args.flags.now c.args.bytes.now c.in-Some.field-0-0.now c.in-Some.rest.now
    c.in-Some.ensures.cases.0 c.in-23.is c.if-is_empty.ensures

pub returns-in-18 : goal.returns-in-18
returns-in-18 c = start_stays c.args.flags.now c.args.bytes.now
    (one_short c.args.flags.now c.args.bytes.now c.in-Some.field-0-0.now c.in-Some.rest.now c.in-Some.ensures.cases.0
    c.in-18.is c.if-is_empty.ensures)
