use Rattle.std.proofs.Common.{sym, ◌∙◌, arith}
use Rattle.cs_model.specs.Seen.{field_seen}
use Rattle.cs_parse.specs.FieldRules.{rule_of}
use Rattle.cs_parse.proofs.counting.CanonicalLaws.{field_tells}
use Rattle.cs_parse.proofs.field.field_in.Goals as goal

pub returns-clause-canonical : goal.returns-clause-canonical
returns-clause-canonical c =
    field_tells c.typed_of.result (λ x. (field_seen x.0, x.1.now)) (λ x. x.2) c.args.canonical (rule_of c.args.rule)
    c.args.bytes.now c.in-Some.field-0-0.now c.in-Some.rest.now (λ i. omega (arith, c.type_inv.bytes i))
    c.in-Some.ensures.cases.0
    (sym c.type_fault.ensures ∙ c.in_default-type_fault.is) c.typed_of.ensures.read c.typed_of.ensures.canonical
