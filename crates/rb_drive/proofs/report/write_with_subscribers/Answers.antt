use Rattle.rb_script.proofs.endings.StreamLaws.{Appends-Keeps, Appends-trans, front_later, on_err, stream_appends_front}
use Rattle.rb_drive.proofs.report.write_with_subscribers.Goals as goal

pub returns-in_err-write_subscribers-clause-err : goal.returns-in_err-write_subscribers-clause-err
returns-in_err-write_subscribers-clause-err g c =
    on_err c.from_residual-in_err-write_subscribers.result _ (front_later _ _ _ _ _ c.in_ok-write_whole.ensures.ok
    c.in_err-write_subscribers.ensures.err)

pub returns-clause-err : goal.returns-clause-err
returns-clause-err g c =
    on_err c.flush.result _ (stream_appends_front _ _ _ (Appends-Keeps _ _ _ _
    (Appends-trans _ _ _ _ _ c.in_ok-write_whole.ensures.ok c.in_ok-write_subscribers.ensures.ok)
    c.flush.ensures))
