use Rattle.std.proofs.Common.{◌∙◌}
use Rattle.cs_apply.specs.Steps.{fields_agree}
use Rattle.cs_apply.proofs.rows_by_key.Columns.{rest_agrees_is, no_field, no_value}
use Rattle.cs_apply.proofs.row.rest_agrees.Goals as goal

pub loop-flag-init : goal.loop-flag-init
loop-flag-init c =
    (λ i. fields_agree c.args.flags.now (c.fields-fields.ensures i) (c.fields-values.ensures i))
    ∙ rest_agrees_is c.args.flags.now c.args.from.now c.args.row.now

pub returns-in_default : goal.returns-in_default
returns-in_default c = no_field c.args.flags.now c.loop-flag.flag-index c.loop-flag.fields c.loop-flag.values _
    c.in_default.ensures.steps.0 c.loop-flag.invariant

pub returns-in_default-next : goal.returns-in_default-next
returns-in_default-next c = no_value c.args.flags.now c.loop-flag.flag-index _ _ c.loop-flag.fields c.loop-flag.values _
    c.loop-flag-test.true c.in-Some.ensures.steps c.in_default-next.ensures.steps.0 c.loop-flag.invariant
