use Rattle.cs_apply.proofs.rows_by_key.Columns.{starts_agree}
use Rattle.cs_apply.proofs.row.all_agree.Goals as goal

pub returns : goal.returns
returns c =
    starts_agree c.fields_first.ensures c.args.from.now c.args.row.now c.starts_with.result c.requires
    c.bytes-2.ensures.fit c.bytes.ensures.fit
    (rw (← c.bytes.ensures.bytes, ← c.bytes-2.ensures.bytes) c.starts_with.ensures.value)
