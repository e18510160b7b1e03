use Rattle.std.proofs.Common.{◌≡◌, length}
use Rattle.rb_subscriber.specs.AcceptShown.{IsFirstOutside}
use Rattle.rb_sequence.specs.Cells.{AreInCells}
use Rattle.rb_subscriber.proofs.look.look.Given as goal

-- what the cells so far show
abbrev pub invariant-loop-past : goal.invariant-loop-past
invariant-loop-past l = AreInCells l.sequence l.delivery.first l.sight.tokens
    × (length l.sight.tokens ≡ l.past)
    × IsFirstOutside l.schema l.sight.tokens l.outside
