use Rattle.rb_script.proofs.endings.StreamLaws.{err_later}
use Rattle.rb_script.proofs.output.write_both.Goals as goal

pub returns-clause-err : goal.returns-clause-err
returns-clause-err g c = err_later c.write_text-2.result _ _ _ c.args.front.now c.args.text.now
    c.in_ok-write_text.ensures.ok c.write_text-2.ensures.err
