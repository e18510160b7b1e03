-- The number of changes that a text encodes.
use Rattle.std.specs.Prelude.{◌≡◌, ℕ, List, length, Result, Ok, Err}
use Rattle.cs_model.specs.Section.{Section}
use Rattle.cs_model.specs.Changeset.{all_changes}
use Rattle.cs_model.specs.Text.{Spells}
use Rattle.cs_parse.specs.declared.fault.ParseFault.{ParseFault}
use Rattle.cs_parse.specs.declared.stop.ParseRefusal.{ParseRefusal}
use Rattle.cs_parse.specs.Reading.{◌>>=◌}

-- the number of changes in a changeset
abbrev pub changes_in : List Section → ℕ
changes_in sections = length (all_changes sections)

-- the text encodes a changeset of `count` changes
pub record HasChangeCount (text : List ℕ) (count : ℕ) : Type 0 where
  pub changeset : List Section
  pub spelled : Spells text changeset
  pub is_count : count ≡ changes_in changeset

-- a result with the number of changes in place of the changeset
abbrev pub counted_answer : Result (List Section) ParseFault → Result ℕ ParseFault
counted_answer (Ok sections) = Ok (changes_in sections)
counted_answer (Err fault) = Err fault

-- what reading gives, with a count of the value in place of the value
abbrev pub counted : {A : Type 0} → (A → ℕ) → Result (A × List ℕ) ParseRefusal
    → Result (ℕ × List ℕ) ParseRefusal
counted count read = read >>= λ x. Ok (count x.0, x.1)

-- the bytes after what is read
abbrev pub bytes_after : {A : Type 0} → Result (A × List ℕ) ParseRefusal
    → Result (List ℕ) ParseRefusal
bytes_after read = read >>= λ x. Ok x.1
