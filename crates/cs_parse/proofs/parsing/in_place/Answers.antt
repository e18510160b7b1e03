use Rattle.std.proofs.Common.{Ok, ap, sym, ◌∙◌, arith}
use Rattle.std.proofs.lemmas.Result.{err_from_is_err_and}
use Rattle.cs_parse.proofs.reading.TextLaws.{answer_takes}
use Rattle.cs_parse.proofs.parsing.in_place.Goals as goal

pub of-requires : goal.of-requires
of-requires c =
    (answer_takes c.args.text.now _ (λ i. omega (arith, c.type_inv.text i)) c.in_ok-sections_of.ensures.ok).is_changeset

pub returns : goal.returns
returns c = c.in_ok-sections_of.ensures.ok ∙ ap (λ s. Ok s) (sym c.of.ensures)

pub returns-in_err-sections_of : goal.returns-in_err-sections_of
returns-in_err-sections_of c =
    let p = err_from_is_err_and c.from_residual.result c.from_residual.ensures.1 in
    rw (p.1, p.2) c.in_err-sections_of.ensures.err
