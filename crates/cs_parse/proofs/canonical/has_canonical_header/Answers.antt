use Rattle.std.proofs.Common.{length, ap}
use Rattle.cs_model.specs.declared.shape.Shape.{Shape}
use Rattle.cs_parse.proofs.counting.CanonicalHeaders.{header_tells}
use Rattle.cs_parse.proofs.canonical.has_canonical_header.Goals as goal

pub returns-in-Some : goal.returns-in-Some
returns-in-Some c = header_tells c.varint_strip.result (λ rest. rest.now) c.is_some.result c.args.shape.now
    (length c.shape.inside.flags.now) c.in-Some.field-0-0.now c.args.bytes.now c.in-Some.counted.now
    c.args.behind.now c.in-Some.ensures.cases.0 c.requires (ap (λ (s : Shape). length s.flags) c.shape.view_is)
    c.varint_strip.ensures.found c.is_some.ensures
