-- A drive whose input was read ends as its report says.
use Rattle.std.proofs.Common.{◌≡◌, ℕ, List, [], ◌∷◌, map, IfOk, Option, None, Some, Result, Ok, Err, ap, refl, subst}
use Rattle.std.specs.Io.KnownBytes.{Keeps}
use Rattle.cs_model.specs.declared.shape.Shape.{Shape}
use Rattle.rb_desk.specs.Limits.{Limits}
use Rattle.rb_sequence.specs.Cells.{Cells}
use Rattle.rb_drive.specs.declared.accepting.EndedSubscriber.{EndedSubscriber}
use Rattle.rb_drive.specs.declared.fault.DriveError.{DriveError}
use Rattle.rb_drive.specs.declared.fault.DriveError.TheVariants as fault
use Rattle.rb_drive.specs.declared.input.Given.{Given}
use Rattle.rb_drive.specs.Outcome.{subscriber_of}
use Rattle.rb_drive.specs.Published.{AreByPublisher}
use Rattle.rb_drive.specs.Run.{DriveEnds, IsOfThreads, ReadsInput, ReportEnds}

-- a result that is right is right in another way, too
pub ok_then : {T E : Type 0} (r : Result T E) (P Q : T → Type 0) → ((x : T) → P x → Q x) → IfOk r P → IfOk r Q
ok_then (Ok x) P Q f h = f x h
ok_then (Err e) P Q f h = tt

pub endings_same : {L : Type 0} (all : List (EndedSubscriber L))
    → map (λ one. one.ending) (map subscriber_of all) ≡ map (λ one. one.ending) all
endings_same [] = refl
endings_same (a ∷ all) = ap (λ xs. a.ending ∷ xs) (endings_same all)

drive_ends_by : (limits : Limits) (n : ℕ) (result : Result ℕ DriveError) (tables : List Shape) (givens : List Given)
    (cells : Cells) (lines : List (List Given)) (r0 r w0 w : Option (List ℕ)) → ReadsInput tables givens r0 r
    → cells.capacity ≡ limits.capacity → AreByPublisher givens lines → ReportEnds cells n tables lines result w0 w
    → DriveEnds limits n result r0 r w0 w
drive_ends_by limits n (Ok status) tables givens cells lines r0 r w0 w reads cap own h =
    (tables, givens, h.0, reads, (cells, lines, cap, own, h.1, h.2), h.3, h.4)
drive_ends_by limits n (Err (fault.Write why)) tables givens cells lines r0 r w0 w reads cap own h =
    (tables, givens, h.0, reads, (cells, lines, cap, own, h.1, h.2), h.3)
drive_ends_by limits n (Err fault.Stopped) tables givens cells lines r0 r w0 w reads cap own h =
    ((tables, givens, reads), h)
drive_ends_by limits n (Err fault.Store) tables givens cells lines r0 r w0 w reads cap own h =
    ((tables, givens, reads), h)
drive_ends_by limits n (Err fault.Memory) tables givens cells lines r0 r w0 w reads cap own h =
    ((reads.0, reads.2), h)
drive_ends_by limits n (Err fault.Subscribers) tables givens cells lines r0 r w0 w reads cap own h = absurd h
drive_ends_by limits n (Err (fault.Line line)) tables givens cells lines r0 r w0 w reads cap own h = absurd h
drive_ends_by limits n (Err (fault.Read why)) tables givens cells lines r0 r w0 w reads cap own h = absurd h

pub ends_as_reported : (limits : Limits) (n : ℕ) (result : Result ℕ DriveError) (tables copied : List Shape)
    (givens : List Given) (cells : Cells) (lines : List (List Given)) (r0 r w0 w : Option (List ℕ))
    → ReadsInput tables givens r0 r → copied ≡ tables → cells.capacity ≡ limits.capacity
    → AreByPublisher givens lines → ReportEnds cells n copied lines result w0 w → DriveEnds limits n result r0 r w0 w
ends_as_reported limits n result tables copied givens cells lines r0 r w0 w reads same cap own h =
    drive_ends_by limits n result tables givens cells lines r0 r w0 w reads cap own
    (subst (λ s. ReportEnds cells n s lines result w0 w) same h)

keeps_itself : (w : Option (List ℕ)) → Keeps w w
keeps_itself None = tt
keeps_itself (Some bytes) = refl

-- where the input is read and nothing is written, a drive ends by a fault of the threads
pub ends_unreported : (limits : Limits) (n : ℕ) (why : DriveError) (tables : List Shape) (givens : List Given)
    (r0 r w : Option (List ℕ)) → ReadsInput tables givens r0 r → IsOfThreads why → DriveEnds limits n (Err why) r0 r w w
ends_unreported limits n fault.Stopped tables givens r0 r w reads is = ((tables, givens, reads), keeps_itself w)
ends_unreported limits n fault.Store tables givens r0 r w reads is = ((tables, givens, reads), keeps_itself w)
ends_unreported limits n fault.Memory tables givens r0 r w reads is = ((reads.0, reads.2), keeps_itself w)
ends_unreported limits n fault.Subscribers tables givens r0 r w reads is = absurd is
ends_unreported limits n (fault.Line line) tables givens r0 r w reads is = absurd is
ends_unreported limits n (fault.Read why) tables givens r0 r w reads is = absurd is
ends_unreported limits n (fault.Write why) tables givens r0 r w reads is = absurd is
