use Rattle.cs_parse.proofs.counting.CanonicalLaws.{one_reads, one_shortest}
use Rattle.cs_parse.proofs.number.length_of.Goals as goal

pub returns-then-byte-lt128-clause-read : goal.returns-then-byte-lt128-clause-read
returns-then-byte-lt128-clause-read c =
    one_reads c.args.bytes.now c.in-Some.field-0-0.now c.from.result c.in-Some.rest.now c.in-Some.ensures.cases.0
    c.if-byte-lt128.true c.from.ensures

pub returns-then-byte-lt128-clause-canonical : goal.returns-then-byte-lt128-clause-canonical
returns-then-byte-lt128-clause-canonical c =
    λ e. one_shortest c.args.bytes.now c.in-Some.field-0-0.now c.from.result c.in-Some.rest.now
    c.in-Some.ensures.cases.0 c.if-byte-lt128.true c.from.ensures
