use Rattle.std.proofs.Common.{ℕ, List, ap, sym, subst}
use Rattle.std.proofs.lemmas.Result.{err_from_is_err_and}
use Rattle.rb_script.specs.declared.lines.Stage.{Stage}
use Rattle.rb_script.specs.Answering.{numbered_answer}
use Rattle.rb_script.specs.Feeding.{line_at}
use Rattle.rb_script.specs.Output.{place_at}
use Rattle.rb_script.specs.Streams.{AppendsFront}
use Rattle.rb_script.proofs.endings.OutputLaws.{stops_writing_line}
use Rattle.rb_script.proofs.script.answer_line.Goals as goal

pub returns-in_err-write_answer-clause-err : goal.returns-in_err-write_answer-clause-err
returns-in_err-write_answer-clause-err g c =
    let p = err_from_is_err_and c.from_residual-in_err-write_answer.result
    c.from_residual-in_err-write_answer.ensures.1 in
    let given = rw c.deref.ensures.value at c.in_ok-given.ensures in
    let said = c.in_err-write_answer.ensures.err in
    rw (p.1, p.2) (stops_writing_line c.args.how c.args.place.number
    (line_at c.args.config (place_at c.args.place.stage c.args.place.line.items)) c.in_err-write_answer.field-0.0 _ _
    c.in_err-write_answer.ensures.faults
    (subst (λ (t : List ℕ). AppendsFront (g.W.Write.contents c.args.writer.now)
    (g.W.Write.contents c.write_answer.new.writer) (numbered_answer c.args.how c.args.place.number t))
    (sym (ap (λ (x : List ℕ × Stage). x.0) given)) said))
