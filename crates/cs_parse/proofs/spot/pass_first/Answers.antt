use Rattle.cs_parse.specs.FieldRules.{rule_of, column_rule}
use Rattle.cs_parse.proofs.feeding.SpotLaws.{first_passed}
use Rattle.cs_parse.proofs.spot.pass_first.Goals as goal

pub returns : goal.returns
returns c = λ op first.
    first_passed op (column_rule (rule_of c.args.outside)) c.args.flags.now c.args.bytes.now c.args.fields c.args.at
    c.split_at.result.1.now c.split_at-2.result.1.now c.in_ok-passed.passed c.in_ok-passed.rest.now
    c.split_at.ensures.back c.split_at-2.ensures.back first c.in_ok-passed.ensures
