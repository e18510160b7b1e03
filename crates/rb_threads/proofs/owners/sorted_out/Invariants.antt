use Rattle.std.proofs.Common.{length}
use Rattle.rb_threads.proofs.owners.sorted_out.Given as goal

-- the owners that are left
abbrev pub decreases-loop-owner : goal.decreases-loop-owner
decreases-loop-owner g l = length l.owners.items
