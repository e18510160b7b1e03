-- The publishers that were joined, each with what it sent.
use Rattle.std.specs.Prelude.{◌≡◌, ℕ, ◌⊎◌, List, [], ◌∷◌}
use Rattle.rb_sequence.specs.Item.{Item}

-- a publisher of this number was joined
abbrev pub HasEndedAs : ℕ → List (ℕ × List Item) → Type 0
HasEndedAs p [] = ⊥
HasEndedAs p (e ∷ rest) = (e.0 ≡ p) ⊎ HasEndedAs p rest

-- no publisher was joined twice
abbrev pub JoinedOnce : List (ℕ × List Item) → Type 0
JoinedOnce [] = Unit {0}
JoinedOnce (e ∷ rest) = (HasEndedAs e.0 rest → ⊥) × JoinedOnce rest
