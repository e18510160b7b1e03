use Rattle.std.proofs.Common.{Ok, Err, List, refl, sym, ap, subst, ◌∙◌}
use Rattle.std.proofs.lemmas.Result.{err_from_is_err_and}
use Rattle.cs_model.specs.Section.{Section}
use Rattle.cs_parse.specs.declared.fault.ParseError.TheVariants.{Memory}
use Rattle.cs_parse.specs.Answer.{ParseAnswers}
use Rattle.cs_parse.proofs.parsing.copied.Goals as goal

pub returns : goal.returns
returns c = c.in_ok-changeset.ensures ∙ ap (λ (s : List Section). Ok s) (sym c.in_ok-into_changeset.ensures)

pub returns-in_err-changeset : goal.returns-in_err-changeset
returns-in_err-changeset c =
    let p = err_from_is_err_and c.from_residual.result c.from_residual.ensures.1 in
    rw (p.1, p.2) c.in_err-changeset.ensures

pub returns-in_err-into_changeset : goal.returns-in_err-into_changeset
returns-in_err-into_changeset c =
    let p = err_from_is_err_and c.from_residual-in_err-into_changeset.result
    c.from_residual-in_err-into_changeset.ensures.1 in
    rw (p.1, p.2) (subst (ParseAnswers (Err Memory)) (sym c.in_ok-changeset.ensures) refl)
