use Rattle.std.proofs.Common.{map, drop}
use Rattle.cs_parse.specs.FieldRules.{rule_of, column_rule}
use Rattle.cs_parse.specs.Spot.{Passes}
use Rattle.cs_parse.proofs.spot.pass_fields.Given as goal

abbrev pub invariant-loop-passed : goal.invariant-loop-passed
invariant-loop-passed l =
    Passes (map (column_rule (rule_of l.outside)) l.flags)
    (map (column_rule (rule_of l.outside)) (drop l.passed l.flags)) l.bytes l.rest
