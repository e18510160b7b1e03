use Rattle.std.proofs.Common.{vec_len}
use Rattle.par_apply.proofs.commits.CommitLaws.{CommitsSo}
use Rattle.par_apply.proofs.staged.change_all.Given as goal

abbrev pub invariant-loop-key : goal.invariant-loop-key
invariant-loop-key l = CommitsSo l.fn.tables l.tables l.fn.changes.items l.rest.items

abbrev pub decreases-loop-key : goal.decreases-loop-key
decreases-loop-key l = vec_len l.rest
