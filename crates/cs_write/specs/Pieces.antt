-- A text in pieces, and what a sink takes of it.
use Rattle.std.specs.Prelude.{◌≡◌, ℕ, ◌<◌, ◌≤◌, List, [], ◌∷◌, ◌++◌, length, Result, Ok, Err}
use Rattle.cs_write.specs.declared.pieces.WriteError.{WriteError}
use Rattle.cs_write.specs.declared.pieces.WriteError.TheVariants.{Sink, Memory}

-- A text cut into pieces of `max` bytes, the last one with the rest. No piece is empty.
abbrev pub IsCut : ℕ → List ℕ → List (List ℕ) → Type 0
IsCut max text [] = text ≡ []
IsCut max text (piece ∷ []) = (text ≡ piece) × (0 < length piece) × (length piece ≤ max)
IsCut max text (piece ∷ next ∷ more) =
    (length piece ≡ max) × ((rest : List ℕ) × (text ≡ piece ++ rest) × IsCut max rest (next ∷ more))

-- All pieces of a text are taken, after those taken before.
pub record TakesAll (max : ℕ) (text : List ℕ)
    (taken_old taken_new failed_old failed_new : List (List ℕ)) : Type 0 where
  pub pieces : List (List ℕ)
  pub cut : IsCut max text pieces
  pub taken : taken_new ≡ taken_old ++ pieces
  pub failed : failed_new ≡ failed_old

-- One piece of a text fails: the sink took those before it, and gets none after it.
pub record FailsAt (max : ℕ) (text : List ℕ)
    (taken_old taken_new failed_old failed_new : List (List ℕ)) : Type 0 where
  pub front : List (List ℕ)
  pub piece : List ℕ
  pub back : List (List ℕ)
  pub cut : IsCut max text (front ++ piece ∷ back)
  pub taken : taken_new ≡ taken_old ++ front
  pub failed : failed_new ≡ failed_old ++ piece ∷ []

-- What the sink of `write_pieces` took and failed to take, by the result of the call.
abbrev pub Puts : Result (Unit {0}) WriteError → ℕ → List ℕ → List (List ℕ) → List (List ℕ)
    → List (List ℕ) → List (List ℕ) → Type 0
Puts (Ok _) max text taken_old taken_new failed_old failed_new =
    TakesAll max text taken_old taken_new failed_old failed_new
Puts (Err Sink) max text taken_old taken_new failed_old failed_new =
    FailsAt max text taken_old taken_new failed_old failed_new
Puts (Err Memory) max text taken_old taken_new failed_old failed_new = (taken_new ≡ taken_old)
    × (failed_new ≡ failed_old)
