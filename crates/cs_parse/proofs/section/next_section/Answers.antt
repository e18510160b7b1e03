use Rattle.std.proofs.Common.{refl, arith}
use Rattle.cs_parse.proofs.feeding.SectionFronts.{next_refused, next_read}
use Rattle.cs_parse.proofs.section.next_section.Goals as goal

pub returns-in-Err : goal.returns-in-Err
returns-in-Err c = next_refused c.args.sections.now c.args.bytes.now c.in-Err.why
    (λ i. omega (arith, c.type_inv.bytes i)) c.requires c.in-Err.ensures

pub returns : goal.returns
returns c = next_read c.args.sections.now c.add_section.new.sections
    c.args.bytes.now c.in-Ok.read.1.now c.in_ok-after.after.now c.in-Ok.read.0 _ c.in_ok-after.why
    (λ i. omega (arith, c.type_inv.bytes i)) c.in-Ok.ensures refl c.in_ok-after.ensures.rest
    c.in_ok-after.ensures.why c.in_ok-after.ensures.added
