-- How a drive ends: what is read and written by then, and what it comes to.
use Rattle.std.specs.Prelude.{◌≡◌, ◌<◌, ℕ, ◌⊎◌, List, [], ◌∷◌, length, map, Option, Result, Ok, Err}
use Rattle.std.specs.Io.KnownBytes.{Appends, Consumes, IsAtEnd, Keeps}
use Rattle.cs_model.specs.declared.shape.Shape.{Shape}
use Rattle.rb_desk.specs.Limits.{Limits}
use Rattle.rb_script.specs.Streams.{AppendsFront}
use Rattle.rb_sequence.specs.Cells.{Cells}
use Rattle.rb_drive.specs.declared.ending.SubscriberEnd.{SubscriberEnd}
use Rattle.rb_drive.specs.declared.ending.SubscriberEnd.TheVariants.{Conflict}
use Rattle.rb_drive.specs.declared.fault.DriveError.{DriveError}
use Rattle.rb_drive.specs.declared.fault.DriveError.TheVariants as fault
use Rattle.rb_drive.specs.declared.input.Given.{Given}
use Rattle.rb_drive.specs.Input.{AreBytesOf, HasBadLine, HasNoBadLine, IsInput}
use Rattle.rb_drive.specs.Outcome.{DriveOutcome, IsDriven}
use Rattle.rb_drive.specs.Published.{AreByPublisher}
use Rattle.rb_drive.specs.Report.{report_text}

-- a subscriber ended by a conflict
abbrev pub HasConflict : List SubscriberEnd → Type 0
HasConflict [] = ⊥
HasConflict (Conflict conflict shown ∷ rest) = Unit {0}
HasConflict (ending ∷ rest) = HasConflict rest

-- the status of a drive: 3 if a subscriber ended by a conflict, and 0 if none did
abbrev pub IsStatus : List SubscriberEnd → ℕ → Type 0
IsStatus endings status = ((status ≡ 3) × HasConflict endings)
    ⊎ ((status ≡ 0) × (HasConflict endings → ⊥))

abbrev pub endings_of : DriveOutcome → List SubscriberEnd
endings_of outcome = map (λ one. one.ending) outcome.subscribers

-- a fault of the threads: they were stopped, the durable store failed, or memory ran out
abbrev pub IsOfThreads : DriveError → Type 0
IsOfThreads fault.Stopped = Unit {0}
IsOfThreads fault.Store = Unit {0}
IsOfThreads fault.Memory = Unit {0}
IsOfThreads why = ⊥

-- the reader is read to its end, and what it had is an input with these tables and changesets
abbrev pub ReadsInput : List Shape → List Given → Option (List ℕ) → Option (List ℕ) → Type 0
ReadsInput tables givens r0 r = (bytes : List ℕ) × (lines : List (List ℕ)) × Consumes r0 r bytes
    × IsAtEnd r × AreBytesOf lines bytes × IsInput lines tables givens

-- A broker with this capacity, of these tables, was driven with these changesets and so many
-- subscribers, and came to this.
abbrev pub ComesTo : Limits → ℕ → List Shape → List Given → DriveOutcome → Type 0
ComesTo limits subscribers tables givens outcome = (cells : Cells) × (lines : List (List Given))
    × (cells.capacity ≡ limits.capacity) × AreByPublisher givens lines
    × (length outcome.subscribers ≡ subscribers) × IsDriven cells tables lines outcome

-- How a drive ends, under these limits and with so many subscribers. The reader had r0 left and has
-- r; the writer held w0 and holds w. It ends at a line exactly where that is the first bad one, and
-- before it reads anything where a broker never has so many subscribers. Its status is that of an
-- outcome, and the report of that outcome is written, or a prefix of it where the writer fails. No
-- other error writes anything.
abbrev pub DriveEnds : Limits → ℕ → Result ℕ DriveError → Option (List ℕ) → Option (List ℕ)
    → Option (List ℕ) → Option (List ℕ) → Type 0
DriveEnds limits n (Ok status) r0 r w0 w =
    (tables : List Shape) × (givens : List Given) × (outcome : DriveOutcome)
    × ReadsInput tables givens r0 r × ComesTo limits n tables givens outcome
    × Appends w0 w (report_text outcome) × IsStatus (endings_of outcome) status
DriveEnds limits n (Err (fault.Write why)) r0 r w0 w =
    (tables : List Shape) × (givens : List Given) × (outcome : DriveOutcome)
    × ReadsInput tables givens r0 r × ComesTo limits n tables givens outcome
    × AppendsFront w0 w (report_text outcome)
DriveEnds limits n (Err (fault.Line line)) r0 r w0 w =
    ((bytes : List ℕ) × Consumes r0 r bytes × HasBadLine bytes (IsAtEnd r) line) × Keeps w0 w
DriveEnds limits n (Err (fault.Read why)) r0 r w0 w =
    ((bytes : List ℕ) × Consumes r0 r bytes × HasNoBadLine bytes) × Keeps w0 w
DriveEnds limits n (Err fault.Memory) r0 r w0 w =
    ((bytes : List ℕ) × Consumes r0 r bytes) × Keeps w0 w
DriveEnds limits n (Err fault.Subscribers) r0 r w0 w = (1024 < n) × Keeps r0 r × Keeps w0 w
DriveEnds limits n (Err fault.Stopped) r0 r w0 w =
    ((tables : List Shape) × (givens : List Given) × ReadsInput tables givens r0 r) × Keeps w0 w
DriveEnds limits n (Err fault.Store) r0 r w0 w =
    ((tables : List Shape) × (givens : List Given) × ReadsInput tables givens r0 r) × Keeps w0 w

-- The same of a drive whose input was read: it was driven with the lines of each publisher, in a
-- sequence with these cells.
abbrev pub ReportEnds : Cells → ℕ → List Shape → List (List Given) → Result ℕ DriveError
    → Option (List ℕ) → Option (List ℕ) → Type 0
ReportEnds cells n tables lines (Ok status) w0 w = (outcome : DriveOutcome)
    × (length outcome.subscribers ≡ n) × IsDriven cells tables lines outcome
    × Appends w0 w (report_text outcome) × IsStatus (endings_of outcome) status
ReportEnds cells n tables lines (Err (fault.Write why)) w0 w = (outcome : DriveOutcome)
    × (length outcome.subscribers ≡ n) × IsDriven cells tables lines outcome
    × AppendsFront w0 w (report_text outcome)
ReportEnds cells n tables lines (Err fault.Stopped) w0 w = Keeps w0 w
ReportEnds cells n tables lines (Err fault.Store) w0 w = Keeps w0 w
ReportEnds cells n tables lines (Err fault.Memory) w0 w = Keeps w0 w
ReportEnds cells n tables lines (Err why) w0 w = ⊥
