use Rattle.cs_parse.proofs.feeding.LackLaws.{value_lacks}
use Rattle.cs_parse.proofs.lack.field_lacks.Goals as goal

pub returns-in-Some-value_lacks-clause-lacks : goal.returns-in-Some-value_lacks-clause-lacks
returns-in-Some-value_lacks-clause-lacks c =
    value_lacks c.args.bytes.now c.in-Some.field-0-0.now c.in-Some.rest.now c.in-Some-value_lacks.least
    c.in-Some.ensures.cases.0 c.in-Some-value_lacks.ensures.1
