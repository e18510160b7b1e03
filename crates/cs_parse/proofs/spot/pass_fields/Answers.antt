use Rattle.std.proofs.Common.{map, sym, ap, ◌∙◌, arith}
use Rattle.cs_model.specs.Bytes.{AreBytes}
use Rattle.cs_parse.specs.FieldRules.{rule_of, column_rule}
use Rattle.cs_parse.specs.Reading.{field_at}
use Rattle.cs_parse.proofs.feeding.SpotLaws.{none_passed, rules_more, rules_halt, rules_end}
use Rattle.cs_parse.proofs.spot.pass_fields.Goals as goal

pub loop-passed-init : goal.loop-passed-init
loop-passed-init c = none_passed (map (column_rule (rule_of c.args.outside)) c.args.flags.now) c.args.bytes.now

pub returns-in-Err-Short : goal.returns-in-Err-Short
returns-in-Err-Short c =
    let rule = column_rule (rule_of c.args.outside) in
    let flags = c.args.flags.now in
    let i = c.loop-passed.passed in
    let rest = c.loop-passed.rest.now in
    rules_halt rule flags c.args.bytes.now i rest c.in-Err-Short.field-0 c.loop-passed-test.true
    (sym (ap (λ r. field_at r rest) c.rule_by_flag.ensures) ∙ c.in-Err-Short.ensures.read) c.in-Err-Short.field-0-is
    c.loop-passed.invariant

pub loop-passed-preserved : goal.loop-passed-preserved
loop-passed-preserved c =
    let rule = column_rule (rule_of c.args.outside) in
    let flags = c.args.flags.now in
    let i = c.loop-passed.passed in
    let rest = c.loop-passed.rest.now in
    let fits : AreBytes c.args.bytes.now = λ k. omega (arith, c.type_inv.bytes k) in
    rules_more rule flags c.args.bytes.now i rest _ c.in-Ok.after.now fits c.loop-passed-test.true
    (sym (ap (λ r. field_at r rest) c.rule_by_flag.ensures) ∙ c.in-Ok.ensures.read) c.loop-passed.invariant

pub returns : goal.returns
returns c = rules_end (column_rule (rule_of c.args.outside)) c.args.flags.now c.args.bytes.now c.loop-passed.passed
    c.loop-passed.rest.now c.loop-passed-test.false c.loop-passed.invariant
