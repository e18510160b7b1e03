use Rattle.cs_model.specs.Bytes.{AreBytes}
use Rattle.std.proofs.Common.{arith}
use Rattle.cs_parse.proofs.feeding.SpotLaws.{spot_more}
use Rattle.cs_parse.proofs.spot.still_short.Goals as goal

pub returns-in-Some-clause-spot : goal.returns-in-Some-clause-spot
returns-in-Some-clause-spot c = λ is more more_fits.
    let fits : AreBytes c.args.bytes.now = λ i. omega (arith, c.type_inv.bytes i) in
    spot_more c.args.flags.now c.args.bytes.now more c.in-Some.next fits c.in-Some.ensures.1
