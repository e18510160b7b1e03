use Rattle.std.proofs.Common.{◌≤◌, length, ◌+◌, ◌-◌, vec_len, vec_capacity}
use Rattle.rb_intake.specs.Passes.{total_sent}
use Rattle.rb_intake.proofs.DrainLaws.{Draining}
use Rattle.rb_intake.proofs.intake.Intake.drain.Given as goal

-- what was pulled is appended, and the room for the rest stays
abbrev pub invariant-loop-item : goal.invariant-loop-item
invariant-loop-item g l = Draining l.fn.pass l.pass l.fn.left.items l.left.items
    × (total_sent l.fn.pass.ended + vec_len l.left ≤ length l.pass.pulled + vec_capacity l.left)

-- what was sent and isn't pulled yet
abbrev pub decreases-loop-item : goal.decreases-loop-item
decreases-loop-item g l = total_sent l.fn.pass.ended - length l.pass.pulled
