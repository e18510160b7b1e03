use Rattle.std.proofs.Common.{OnErr, subst, ◌∙◌}
use Rattle.cs_write.specs.Text.{text_of}
use Rattle.rb_script.specs.Streams.{AppendsFront}
use Rattle.rb_script.specs.Texts.{bytes_word}
use Rattle.rb_script.proofs.endings.StreamLaws.{front_none, on_err}
use Rattle.rb_script.proofs.sinks.NumberLaws.{numbered_word}
use Rattle.rb_script.proofs.output.write_combined.Goals as goal

pub returns-in_err-front-clause-err : goal.returns-in_err-front-clause-err
returns-in_err-front-clause-err g c = on_err _ _ (front_none _ _)

pub returns-clause-err : goal.returns-clause-err
returns-clause-err g c =
    let word = bytes_word (text_of c.args.changeset.now) in
    let front = c.as_bytes.ensures.value ∙ c.in_ok-front.ensures.ok in
    subst (λ t. OnErr c.write_word-2.result (AppendsFront (g.W.Write.contents c.args.writer.now)
    (g.W.Write.contents c.write_word-2.new.writer) t))
    (numbered_word c.args.how c.args.number c.as_bytes.result.now word c.if-not-how.false front)
    c.write_word-2.ensures.err
