use Rattle.rb_drive.proofs.outcomes.ConflictLaws.{shown_at}
use Rattle.rb_drive.proofs.drive.all_ended.Goals as goal

-- each of them has what shows its conflict
pub has_ended-requires : goal.has_ended-requires
has_ended-requires g c =
    shown_at g.L.StepLedger.cells c.args.accepting.now c.loop-one.one-index _ c.one-item.result c.loop-one-test.true
    c.one-item.is c.requires
