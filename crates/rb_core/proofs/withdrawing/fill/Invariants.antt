use Rattle.std.proofs.Common.{◌≡◌, ◌≤◌, ◌-◌, length}
use Rattle.std.specs.Vec.{vec_capacity}
use Rattle.rb_core.specs.State.{with_mark}
use Rattle.rb_core.proofs.withdrawing.fill.Given as goal

-- The marks so far have the same with_mark at the place as those at the start, and are no more than it.
abbrev pub invariant-loop-marks : goal.invariant-loop-marks
invariant-loop-marks l = (with_mark l.fn.place l.marks.items ≡ with_mark l.fn.place l.initial.marks.items)
    × (length l.marks.items ≤ l.fn.place) × (vec_capacity l.marks ≡ vec_capacity l.initial.marks)

abbrev pub decreases-loop-marks : goal.decreases-loop-marks
decreases-loop-marks l = l.fn.place - length l.marks.items
