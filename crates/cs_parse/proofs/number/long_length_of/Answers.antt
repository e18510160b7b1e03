use Rattle.cs_parse.proofs.counting.CanonicalLaws.{length_tells}
use Rattle.cs_parse.proofs.number.long_length_of.Goals as goal

pub returns-clause-canonical : goal.returns-clause-canonical
returns-clause-canonical c =
    length_tells c.varint_strip-shortest.result (λ w. w.now) c.is_some.result c.varint_spelled.ensures c.args.bytes.now
    c.in_ok-len.len c.in_ok-len.rest.now c.in_ok-len.ensures c.varint_strip-shortest.ensures.found c.is_some.ensures
