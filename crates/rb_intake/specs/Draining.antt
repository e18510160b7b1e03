-- One pop of the last pass.
use Rattle.std.specs.Prelude.{◌≡◌, ℕ, ◌≤◌, [], ◌∷◌, ◌++◌, Option, Some, None}
use Rattle.rb_sequence.specs.Item.{Item}
use Rattle.rb_sequence.specs.Items.{own_of}
use Rattle.rb_intake.specs.Passes.{LastKnows, IsAllPulledAnd}
use Rattle.rb_intake.specs.Joined.{JoinedOnce}
use Rattle.rb_intake.specs.Rule.{AreBegun}

-- An item is pulled: what was pulled of each joined publisher is the front of what it sent, and
-- nothing was pulled of one that was never made. Or none waits, and all is pulled.
abbrev pub PopsLast : Option Item → LastKnows → LastKnows → Type 0
PopsLast None old new = (new ≡ old) × IsAllPulledAnd new []
    × ((p : ℕ) → new.made ≤ p → own_of p new.pulled ≡ []) × JoinedOnce new.ended
PopsLast (Some item) old new = (new ≡ record old { pulled = old.pulled ++ item ∷ [] })
    × AreBegun new.pulled new.ended
    × ((p : ℕ) → new.made ≤ p → own_of p new.pulled ≡ [])
