use Rattle.std.proofs.Common.{◌≡◌, ◌≤◌, ◌-◌, suc, length}
use Rattle.std.specs.Vec.{vec_capacity, vec_len}
use Rattle.rb_sequence.specs.Cells.{AreInCells}
use Rattle.rb_subscriber.proofs.shown.fetch.Given as goal

-- the tokens so far
abbrev pub invariant-loop-past : goal.invariant-loop-past
invariant-loop-past l = AreInCells l.sequence l.first l.shown.items
    × (length l.shown.items ≡ l.past)
    × (vec_len l.shown ≡ l.past)
    × (suc l.last - l.first ≤ vec_capacity l.shown)
