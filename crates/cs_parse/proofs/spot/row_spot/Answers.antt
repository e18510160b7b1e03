use Rattle.cs_parse.proofs.feeding.StayLaws.{row_short}
use Rattle.cs_parse.proofs.spot.row_spot.Goals as goal

pub returns-then-fields-flags : goal.returns-then-fields-flags
returns-then-fields-flags c =
    row_short c.requires.0 c.args.flags.now c.args.bytes.now c.in_ok-fields.fields c.in_ok-fields.at c.requires.1
    c.if-fields-flags.true (c.in_ok-fields.ensures c.requires.0 c.requires.2)
