-- How `show` ends: what is read and what is written by then.
use Rattle.std.specs.Prelude.{◌≡◌, ℕ, List, Option, Some, None, Result, Ok, Err}
use Rattle.std.specs.Io.KnownBytes.{Appends, Consumes, IsAtEnd, Keeps}
use Rattle.rb_show.specs.declared.row_form.RowForm.{RowForm}
use Rattle.rb_show.specs.declared.show_fault.ShowError.{ShowError}
use Rattle.rb_show.specs.declared.show_fault.ShowError.TheVariants.{Read, Write, Row, Memory}
use Rattle.rb_show.specs.Shown.{rows_shown}
use Rattle.rb_script.specs.Streams.{AppendsFront}

-- All that these lines show is written, and this is the number of the first row that can't be read.
abbrev pub IsShown : List ℕ × Option ℕ → Option ℕ → Option (List ℕ) → Option (List ℕ) → Type 0
IsShown given bad w0 w = (given.1 ≡ bad) × Appends w0 w given.0

-- The input is read to its end, all that it shows is written, and this is the number of the first
-- row that can't be read.
abbrev pub IsShownWhole : RowForm → Option ℕ → Option (List ℕ) → Option (List ℕ) → Option (List ℕ)
    → Option (List ℕ) → Type 0
IsShownWhole form bad r0 r w0 w =
    (input : List ℕ) × Consumes r0 r input × IsAtEnd r × IsShown (rows_shown form input) bad w0 w

-- Some input is read, and nothing is written.
abbrev pub IsUnread : Option (List ℕ) → Option (List ℕ) → Option (List ℕ) → Option (List ℕ)
    → Type 0
IsUnread r0 r w0 w = (input : List ℕ) × Consumes r0 r input × Keeps w0 w

-- Some input is read, and a prefix of what it shows is written.
abbrev pub IsShownInPart : RowForm → Option (List ℕ) → Option (List ℕ) → Option (List ℕ)
    → Option (List ℕ) → Type 0
IsShownInPart form r0 r w0 w =
    (input : List ℕ) × Consumes r0 r input × AppendsFront w0 w (rows_shown form input).0

-- How `show` ends, by its result. The reader had r0 left and has r; the writer held w0 and holds w.
-- Ok: the input is read to its end, and all that it shows is written. `Row`: the same up to the
-- first row that can't be read. `Read`: nothing is written. `Write`: the input is read to its end,
-- and a prefix of what it shows is written. `Memory`: a prefix of what the input so far shows is
-- written.
abbrev pub ShowEnds : {A : Type 0} → RowForm → Result A ShowError → Option (List ℕ)
    → Option (List ℕ) → Option (List ℕ) → Option (List ℕ) → Type 0
ShowEnds form (Ok done) r0 r w0 w = IsShownWhole form None r0 r w0 w
ShowEnds form (Err (Read why)) r0 r w0 w = IsUnread r0 r w0 w
ShowEnds form (Err (Write why)) r0 r w0 w = IsAtEnd r × IsShownInPart form r0 r w0 w
ShowEnds form (Err (Row n)) r0 r w0 w = IsShownWhole form (Some n) r0 r w0 w
ShowEnds form (Err Memory) r0 r w0 w = IsShownInPart form r0 r w0 w

-- How lines that are read already are shown, by the result.
abbrev pub ShowsLines : {A : Type 0} → Result A ShowError → List ℕ × Option ℕ → Option (List ℕ)
    → Option (List ℕ) → Type 0
ShowsLines (Ok done) given w0 w = IsShown given None w0 w
ShowsLines (Err (Read why)) given w0 w = ⊥
ShowsLines (Err (Write why)) given w0 w = AppendsFront w0 w given.0
ShowsLines (Err (Row n)) given w0 w = IsShown given (Some n) w0 w
ShowsLines (Err Memory) given w0 w = AppendsFront w0 w given.0
