use Rattle.cs_model.specs.declared.change.Op.TheVariants.{Update}
use Rattle.cs_parse.proofs.feeding.SpotLaws.{new_begins}
use Rattle.cs_parse.proofs.feeding.StayLaws.{old_short}
use Rattle.cs_parse.proofs.spot.old_spot.Goals as goal

pub returns-then-fields-flags : goal.returns-then-fields-flags
returns-then-fields-flags c = old_short c.args.flags.now c.args.bytes.now c.in_ok-fields.fields c.in_ok-fields.at
    c.if-fields-flags.true (c.in_ok-fields.ensures Update c.requires)

pub new_spot-requires : goal.new_spot-requires
new_spot-requires c = new_begins c.args.flags.now c.args.bytes.now c.in_ok-fields.fields c.in_ok-fields.at
    c.if-fields-flags.false (c.in_ok-fields.ensures Update c.requires).reached
