use Rattle.std.proofs.Common.{◌++◌, ◌∙◌}
use Rattle.std.specs.Option.{option_map}
use Rattle.cs_model.specs.Row.{values_of}
use Rattle.cs_model.specs.Seen.{field_seen}
use Rattle.cs_apply.specs.Steps.{merged}
use Rattle.cs_apply.proofs.rows_by_key.Columns.{updated_is, merged_next, seen_next}
use Rattle.cs_apply.proofs.row.updated.Goals as goal

pub loop-value-init : goal.loop-value-init
loop-value-init c =
    (λ i. c.in_ok-new.ensures i
    ++ values_of (merged (c.fields-fields.ensures i)
    ((c.into_iter-value-iterator.ensures.into_iter_gives ∙ c.fields-value-items.ensures) i)))
    ∙ updated_is c.args.from.now c.args.row.now

pub loop-value-preserved : goal.loop-value-preserved
loop-value-preserved c =
    merged_next (option_map field_seen c.next-in-loop-value.result) c.loop-value.new c.push.new.self
    (field_seen c.chosen.result) (field_seen c.in-Some.value) c.loop-value.fields c.next-in-loop-value.new.self
    c.loop-value.value-iterator c.next.new.self _
    (seen_next field_seen c.next-in-loop-value.result c.loop-value.fields c.next-in-loop-value.new.self
    c.next-in-loop-value.ensures.steps) c.in-Some.ensures.steps c.chosen.ensures c.in_ok-push.ensures.ok
    c.loop-value.invariant
