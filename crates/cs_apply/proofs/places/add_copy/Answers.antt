use Rattle.std.proofs.Common.{◌∙◌}
use Rattle.std.specs.FinMap as map
use Rattle.cs_apply.specs.Steps.{rows_of}
use Rattle.cs_apply.proofs.stored.Copied.{put_copied}
use Rattle.cs_apply.proofs.places.add_copy.Goals as goal

pub returns : goal.returns
returns c =
    let old = c.args.rows.now in
    put_copied old c.insert.new.self _ c.in_ok-row.row c.len-places.ensures.unique c.insert.ensures.unique
    c.in_ok-insert.ensures.updates.0
    ∙ (λ i. map.insert (rows_of old.entries) (c.in_ok-key.ensures i) (c.in_ok-row.ensures i))
