use Rattle.std.proofs.Common.{rules}
use Rattle.rb_script.proofs.endings.StreamLaws.{on_err}
use Rattle.rb_drive.proofs.outcomes.ReportLaws.{stops_next, subscribers_next, writes_next}
use Rattle.rb_drive.proofs.report.write_subscribers.Goals as goal

pub returns-in_err-write_subscriber-clause-err : goal.returns-in_err-write_subscriber-clause-err
returns-in_err-write_subscriber-clause-err g c =
    on_err c.from_residual.result _ (stops_next _ _ _ _ _ _ _ c.loop-one.invariant.so_far
    (subscribers_next c.loop-one.number c.loop-one.one-index c.args.all.now c.one-item.result c.loop-one-test.true
    c.one-item.is) c.in_err-write_subscriber.ensures.err)

pub loop-one-preserved : goal.loop-one-preserved
loop-one-preserved g c = record {
  same = search rules;
  so_far = writes_next _ _ _ _ _ _ _ c.loop-one.invariant.so_far
      (subscribers_next c.loop-one.number c.loop-one.one-index c.args.all.now c.one-item.result c.loop-one-test.true
      c.one-item.is) c.in_ok-write_subscriber.ensures.ok;
}
