use Rattle.std.proofs.Common.{refl, subst}
use Rattle.std.proofs.lemmas.Result.{err_from_is_err_and}
use Rattle.changeset_c.specs.Combining.{ReadUntil}
use Rattle.changeset_c.proofs.CombineLaws.{refusal_told, text_fault_told}
use Rattle.changeset_c.proofs.combining.combine_read.Goals as goal

pub returns-in_err-group-clause-refused : goal.returns-in_err-group-clause-refused
returns-in_err-group-clause-refused c =
    let error = err_from_is_err_and c.from_residual.result c.from_residual.ensures.1 in
    rw (error.1, error.2) (λ texts read. refusal_told texts c.args.changesets.now c.args.fault c.in_err-group.field-0.0
    read c.in_err-group.ensures.refused)

pub returns-in-Some-clause-refused : goal.returns-in-Some-clause-refused
returns-in-Some-clause-refused c = λ texts read.
    text_fault_told texts c.args.changesets.now c.in-Some.fault _ refl
    (subst (λ f. ReadUntil texts c.args.changesets.now f) c.in-Some.is read) c.in_ok-group.ensures.fits
