use Rattle.std.proofs.Common.{arith}
use Rattle.cs_parse.proofs.refusing.FaultLaws.{by_reading}
use Rattle.cs_parse.proofs.parsing.parse_in_place.Goals as goal

pub returns : goal.returns
returns c =
    let t = by_reading c.args.text.now c.in_place.result (λ i. omega (arith, c.type_inv.text i)) c.in_place.ensures in
    record { found = t.found; only = t.only; faulty = t.faulty; the_fault = t.the_fault; exact = c.in_place.ensures }
