use Rattle.std.proofs.Common.{arith}
use Rattle.cs_parse.proofs.feeding.LackLaws.{three_or_four, integer_lacks, counted_lacks, some_lacks}
use Rattle.cs_parse.proofs.lack.value_lacks.Goals as goal

pub returns-in-1 : goal.returns-in-1
returns-in-1 c =
    let bytes = c.args.bytes.now in
    some_lacks c.missing.result c.args.byte bytes bytes 8 (λ least. integer_lacks c.args.byte bytes least c.in-1.is)
    c.missing.ensures

pub returns-in-Ok : goal.returns-in-Ok
returns-in-Ok c =
    let bytes = c.args.bytes.now in
    let value = c.in-Ok.value.now in
    some_lacks c.missing-in-3.result c.args.byte bytes value c.in-Ok.len
    (λ least. counted_lacks c.args.byte bytes c.in-Ok.len value least
    (three_or_four c.args.byte (omega arith) (omega arith)) c.in-Ok.ensures.read) c.missing-in-3.ensures
