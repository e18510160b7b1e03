-- Lists of numbers that are bytes, and buffers that bytes are appended to.
use Rattle.std.specs.Prelude.{◌≡◌, ℕ, ◌<◌, List, ◌++◌, get_or, Result, OnOk}
use Rattle.std.specs.Global.{Vec}

-- The numbers of the list are bytes: a list in a clause has no such bound of its own.
abbrev pub AreBytes : List ℕ → Type 0
AreBytes bytes = (i : ℕ) → get_or bytes i 0 < 256

-- after `Ok`, these bytes are appended to the buffer
abbrev pub AddsBytes : {A E : Type 0} → Result A E → Vec ℕ → Vec ℕ → List ℕ → Type 0
AddsBytes result old new bytes = OnOk result (new.items ≡ old.items ++ bytes)
