-- What the results of the exports say of a text. A result is 0 or more, -1 (`negsuc 0`) or -2
-- (`negsuc 1`).
use Rattle.std.specs.Prelude.{◌≡◌, ℕ, suc, zero, ℤ, pos, negsuc, List, length}
use Rattle.cs_model.specs.Section.{Section}
use Rattle.cs_model.specs.Text.{Spells}
use Rattle.cs_parse.specs.declared.fault.ParseFault.{ParseFault}
use Rattle.cs_parse.specs.Fault.{IsFault}
use Rattle.cs_write.specs.Text.{text_of}
use Rattle.cs_parse.specs.Answer.{IsSpelled}
use Rattle.cs_parse.specs.Count.{HasChangeCount}
use Rattle.cs_write.specs.Buffer.{given}
use Rattle.cs_invert.specs.Inverse.{inverse}
use Rattle.cs_parse.specs.FaultNumber.{kind_number}

-- the text has a fault at this place, of the kind with this number
pub record HasFaultAt (text : List ℕ) (at kind : ℕ) : Type 0 where
  pub fault : ParseFault
  pub is_fault : IsFault text fault
  pub is_place : at ≡ fault.at
  pub is_kind : kind ≡ kind_number fault.kind

-- what the result of `changeset_check` says of a text, with the outputs `at` and `kind`
abbrev pub CheckSays : ℤ → ℕ → ℕ → List ℕ → Type 0
CheckSays (pos n) at kind text = HasChangeCount text n
CheckSays (negsuc zero) at kind text = HasFaultAt text at kind
CheckSays (negsuc (suc n)) at kind text = ⊥

-- The text spells a changeset, for which a text is made. It has length n; the buffer holds it if
-- there was room (*given*).
pub record IsWritten (made : List Section → List ℕ) (text : List ℕ) (n : ℕ)
    (before after : List ℕ) : Type 0 where
  pub changeset : List Section
  pub spelled : Spells text changeset
  pub is_length : n ≡ length (made changeset)
  pub is_given : after ≡ given (made changeset) before

-- the text has a fault, and the buffer does not change
pub record IsRefused (text before after : List ℕ) : Type 0 where
  pub fault : ParseFault
  pub is_fault : IsFault text fault
  pub same : after ≡ before

-- What the result of an export says of a text, from which it makes another one into the buffer
-- `before` and `after`.
abbrev pub WriteSays : (List Section → List ℕ) → ℤ → List ℕ → List ℕ → List ℕ → Type 0
WriteSays made (pos n) before after text = IsWritten made text n before after
WriteSays made (negsuc zero) before after text = IsRefused text before after
WriteSays made (negsuc (suc zero)) before after text = IsSpelled text × (after ≡ before)
WriteSays made (negsuc (suc (suc n))) before after text = ⊥

-- what the result of `changeset_canonical` says
abbrev pub CanonicalSays : ℤ → List ℕ → List ℕ → List ℕ → Type 0
CanonicalSays answer before after text = WriteSays text_of answer before after text

-- the canonical text of the inverse of a changeset
abbrev pub inverse_text : List Section → List ℕ
inverse_text changeset = text_of (inverse changeset)

-- what the result of `changeset_invert` says
abbrev pub InvertSays : ℤ → List ℕ → List ℕ → List ℕ → Type 0
InvertSays answer before after text = WriteSays inverse_text answer before after text

-- the result is this number, or says that memory ran out
abbrev pub IsNumber : ℤ → ℕ → Type 0
IsNumber (pos found) n = found ≡ n
IsNumber (negsuc zero) n = ⊥
IsNumber (negsuc (suc m)) n = m ≡ 0

-- a value that does not change unless the result is -1
abbrev pub KeptBut : ℤ → ℕ → ℕ → Type 0
KeptBut (negsuc zero) before after = Unit {0}
KeptBut (negsuc (suc n)) before after = after ≡ before
KeptBut (pos n) before after = after ≡ before

-- the result for a text with this fault
abbrev pub IsFaultAt : ℤ → ℕ → ℕ → ParseFault → Type 0
IsFaultAt answer at kind fault = (answer ≡ negsuc 0) × (at ≡ fault.at)
    × (kind ≡ kind_number fault.kind)
