-- How the program ends, what it says then, and its exit statuses.
use Rattle.std.specs.Prelude.{ℕ, zero, suc, List, ◌++◌, Option, Result, Ok, Err, codes}
use Rattle.std.specs.Io.KnownBytes.{Appends, Keeps}
use Rattle.std.specs.declared.io.ErrorKind.{ErrorKind}
use Rattle.std.specs.declared.io.ErrorKind.TheVariants.{InvalidData}
use Rattle.rb_drive.specs.declared.fault.DriveError.{DriveError}
use Rattle.rb_script.specs.declared.fault.ScriptError.{ScriptError}
use Rattle.rb_script.specs.declared.fault.ScriptError.TheVariants as fault
use Rattle.rb_show.specs.declared.show_fault.ShowError.{ShowError}
use Rattle.rb_run.specs.declared.ending.Ending.{Ending}
use Rattle.rb_run.specs.declared.ending.Ending.TheVariants.{Done, Stopped, Refused, Unshown}
use Rattle.rb_run.specs.declared.ending.Ending.TheVariants.{Conflicting, Undriven}
use Rattle.rb_run.specs.declared.ending.Ending.TheVariants.{Misused, OutOfRange, NotText}
use Rattle.rb_run.specs.Options.{fault_text}

-- the ending for this result of a script
abbrev pub ending_of : {A : Type 0} → Result A ScriptError → Ending
ending_of (Ok done) = Done
ending_of (Err (fault.Refused line)) = Refused line
ending_of (Err why) = Stopped why

-- the ending for this result of showing rows
abbrev pub ending_of_show : {A : Type 0} → Result A ShowError → Ending
ending_of_show (Ok done) = Done
ending_of_show (Err why) = Unshown why

-- the ending for this result of a drive
abbrev pub ending_of_drive : Result ℕ DriveError → Ending
ending_of_drive (Ok zero) = Done
ending_of_drive (Ok (suc n)) = Conflicting
ending_of_drive (Err why) = Undriven why

-- the ending for words that can't be had: one of them isn't UTF-8, or memory ran out
abbrev pub ending_of_words : ErrorKind → Ending
ending_of_words InvalidData = NotText
ending_of_words kind = Stopped fault.Memory

-- the exit status: 0, 1, 2 or 3
abbrev pub status_of : Ending → ℕ
status_of Done = 0
status_of (Stopped why) = 1
status_of (Unshown why) = 1
status_of (Undriven why) = 1
status_of (Misused why) = 2
status_of (OutOfRange fault) = 2
status_of NotText = 2
status_of (Refused line) = 3
status_of Conflicting = 3

-- a message: a line that begins with the program's name
abbrev pub message : List ℕ → List ℕ
message text = codes "rb_run: " ++ (text ++ codes "\n")

-- What is said of an ending is appended to the known bytes. Texts that no contract knows are left
-- out: those of faults, of a refused line, and of the parser of command lines.
abbrev pub IsReported : Ending → Option (List ℕ) → Option (List ℕ) → Type 0
IsReported Done old new = Keeps old new
IsReported Conflicting old new = Keeps old new
IsReported (OutOfRange fault) old new = Appends old new (message (fault_text fault))
IsReported NotText old new = Appends old new (message (codes "an argument isn't UTF-8"))
IsReported ending old new = Unit {0}
