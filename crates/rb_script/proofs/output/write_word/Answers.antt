use Rattle.std.proofs.Common.{[], ◌∷◌, ◌++◌}
use Rattle.cs_write.specs.Text.{text_of}
use Rattle.rb_script.specs.Texts.{bytes_word}
use Rattle.rb_script.proofs.endings.StreamLaws.{err_later, front_later, front_longer, on_err}
use Rattle.rb_script.proofs.output.write_word.Goals as goal

pub returns-in_err-write_changeset-clause-err : goal.returns-in_err-write_changeset-clause-err
returns-in_err-write_changeset-clause-err g c =
    let word = bytes_word (text_of c.args.changeset.now) in
    on_err _ _ (front_later _ _ _ c.args.front.now (word ++ 10 ∷ []) c.in_ok-write_text.ensures.ok
    (front_longer _ _ word (10 ∷ []) c.in_err-write_changeset.ensures.err))

pub returns-clause-err : goal.returns-clause-err
returns-clause-err g c =
    let word = bytes_word (text_of c.args.changeset.now) in
    err_later c.write_text-2.result _ _ _ c.args.front.now (word ++ 10 ∷ []) c.in_ok-write_text.ensures.ok
    (err_later c.write_text-2.result _ _ _ word (10 ∷ []) c.in_ok-write_changeset.ensures.ok c.write_text-2.ensures.err)
