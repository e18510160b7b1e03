use Rattle.cs_model.proofs.packing.PackedChangeLaws.{begins_after}
use Rattle.cs_model.proofs.change_ref.records_of.Goals as goal

pub record_of-after-requires-in-Update : goal.record_of-after-requires-in-Update
record_of-after-requires-in-Update c =
    begins_after c.args.columns c.args.op c.args.bytes.now c.record_of-before.result.1.now c.requires c.in-Update.is
    c.record_of-before.ensures.rest
