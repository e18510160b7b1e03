-- What a writer holds after a write that stopped.
use Rattle.std.specs.Prelude.{◌≡◌, ℕ, List, ◌++◌, Option}
use Rattle.std.specs.Io.KnownBytes.{Appends}

-- a prefix of bs is appended to the known bytes
abbrev pub AppendsFront : Option (List ℕ) → Option (List ℕ) → List ℕ → Type 0
AppendsFront old new bs = (front : List ℕ) × (more : List ℕ) × (bs ≡ front ++ more)
    × Appends old new front
