use Rattle.par_apply.proofs.commits.CommitLaws.{commit_step}
use Rattle.par_apply.proofs.staged.change_all.Goals as goal

pub loop-key-preserved : goal.loop-key-preserved
loop-key-preserved c =
    commit_step c.args.tables.now c.loop-key.tables c.change_one.new.tables c.args.changes.items
    c.loop-key.rest.items c.pop.new.self.items c.in-Some.key c.in-Some.row c.loop-key.invariant
    c.in-Some.ensures.items c.change_one.ensures
