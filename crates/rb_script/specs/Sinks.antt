-- What a writer holds while pieces of a text are written to it in hexadecimal.
use Rattle.std.specs.Prelude.{◌≡◌, ℕ, ◌-◌, Bool, true, false, List, [], ◌∷◌, ◌++◌, length, take}
use Rattle.std.specs.Prelude.{Option, Some, None, IfSome}
use Rattle.std.specs.List.{concat}
use Rattle.hex.specs.Hex.{encode_lower}
use mathlib.Core.Path.{refl}
use Rattle.rb_script.specs.declared.fault.ScriptError.{ScriptError}
use Rattle.rb_script.specs.declared.fault.ScriptError.TheVariants.{Read, Write, Endless, Memory}
use Rattle.rb_script.specs.declared.fault.ScriptError.TheVariants.{Refused}
use Rattle.rb_script.specs.Ends.{IsOfAnswers}

-- pieces, one after another, in hexadecimal
abbrev pub hex_of_pieces : List (List ℕ) → List ℕ
hex_of_pieces pieces = encode_lower (concat pieces)

-- whether there are no pieces
abbrev pub has_none : List (List ℕ) → Bool
has_none [] = true
has_none (piece ∷ more) = false

-- the number of known bytes
abbrev pub known_length : Option (List ℕ) → ℕ
known_length None = 0
known_length (Some xs) = length xs

-- bs is appended to the known bytes (*Appends*, as an equation, which a ghost field may say)
abbrev pub GainsAll : Option (List ℕ) → Option (List ℕ) → List ℕ → Type 0
GainsAll old new bs = IfSome old (λ xs. new ≡ Some (xs ++ bs))

-- a prefix of bs is appended to the known bytes (*AppendsFront*, in the same way)
abbrev pub GainsFront : Option (List ℕ) → Option (List ℕ) → List ℕ → Type 0
GainsFront old new bs =
    IfSome old (λ xs. new ≡ Some (xs ++ take (known_length new - length xs) bs))

-- There is one proof at most that a fault is one of answers, so a ghost field may say it.
pub IsOfAnswers-prop : (fault : ScriptError) → IsProp (IsOfAnswers fault)
IsOfAnswers-prop (Read why) = λ x y. absurd x
IsOfAnswers-prop (Write why) = λ x y. refl
IsOfAnswers-prop Endless = λ x y. absurd x
IsOfAnswers-prop Memory = λ x y. refl
IsOfAnswers-prop (Refused line) = λ x y. absurd x
