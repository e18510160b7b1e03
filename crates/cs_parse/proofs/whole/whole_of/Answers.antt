use Rattle.std.proofs.Common.{Err, sym, ap, ◌∙◌, arith}
use Rattle.cs_parse.proofs.joining.PartsAnswer.{whole_read, whole_refused}
use Rattle.cs_parse.proofs.whole.whole_of.Goals as goal

pub returns-in-Ok-default-default-None-clause-ok : goal.returns-in-Ok-default-default-None-clause-ok
returns-in-Ok-default-default-None-clause-ok c =
    let x = c.in-Ok-default-default-None in
    whole_read c.args.text.now _ x.field-0-1.now x.field-0-2 (λ i. omega (arith, c.type_inv.text i))
    x.ensures x.field-0-2-is

pub returns-in-Ok-default-default-Some-clause-err : goal.returns-in-Ok-default-default-Some-clause-err
returns-in-Ok-default-default-Some-clause-err c =
    let x = c.in-Ok-default-default-Some in
    whole_refused c.args.text.now _ x.field-0-1.now x.field-0-2 x.refusal
    (λ i. omega (arith, c.type_inv.text i)) x.ensures x.field-0-2-is ∙ ap (λ f. Err f) (sym c.fault_from.ensures)
