-- Where the columns of a table's key stand, by its key flags.
use Rattle.std.specs.Prelude.{◌≡◌, ◌<◌, ℕ, zero, suc, List, [], ◌∷◌, length, get_or, Option, Some}
use Rattle.std.specs.Prelude.{None}
use Rattle.cs_model.specs.declared.key_run.KeyColumns.{KeyColumns}

-- `first` columns outside the key, then `count` of the key, and then none of it
abbrev pub IsKeyRun : List ℕ → ℕ → ℕ → Type 0
IsKeyRun [] zero zero = Unit {0}
IsKeyRun [] zero (suc count) = ⊥
IsKeyRun [] (suc first) count = ⊥
IsKeyRun (flag ∷ flags) zero zero = (flag ≡ 0) × IsKeyRun flags zero zero
IsKeyRun (flag ∷ flags) zero (suc count) = (0 < flag) × IsKeyRun flags zero count
IsKeyRun (flag ∷ flags) (suc first) count = (flag ≡ 0) × IsKeyRun flags first count

-- a column outside the key stands between two of it
pub record IsKeySplit (flags : List ℕ) : Type 0 where
  pub one : ℕ
  pub outside : ℕ
  pub other : ℕ
  pub rise : (one < outside) × (outside < other) × (other < length flags)
  pub keys : (0 < get_or flags one 0) × (0 < get_or flags other 0)
  pub gap : get_or flags outside 0 ≡ 0

-- where the key columns stand; or None, if they are apart
abbrev pub TellsKey : List ℕ → Option KeyColumns → Type 0
TellsKey flags None = IsKeySplit flags
TellsKey flags (Some at) = IsKeyRun flags at.first at.count
