use Rattle.cs_model.proofs.packing.PackedLaws.{unpacked_none, unpacked_first}
use Rattle.cs_model.proofs.fields.first_of.Goals as goal

pub returns-in_default : goal.returns-in_default
returns-in_default c = unpacked_none c.args.bytes.now (c.in_default.ensures).cases

pub returns : goal.returns
returns c = unpacked_first c.args.bytes.now c.in-Some.field-0-0.now c.in-Some.rest.now _ _ c.in-Some.ensures.cases.0
    c.typed_of.ensures.field c.typed_of.ensures.rest
