-- The pending bytes after sections.
use Rattle.std.proofs.Common.{◌≡◌, refl, Bool, true, suc, ℕ, ◌+◌, ◌-◌, cond, ◌<◌, ◌≤◌, length, false, List, [], ◌∷◌}
use Rattle.std.proofs.Common.{◌++◌, Option, Some, None, Err, sym, ap, subst, ◌∙◌, append_assoc, arith}
use Rattle.std.specs.Prelude.{◌==◌, IsTrue}
use Rattle.std.proofs.lemmas.Bool.{le-ltb, ne_eqb}
use Rattle.std.proofs.lemmas.List.{append-nil, length-append, take_all}
use Rattle.cs_model.specs.Bytes.{AreBytes}
use Rattle.cs_model.specs.Changeset.{most_bytes}
use Rattle.cs_model.specs.Section.{Section}
use Rattle.cs_parse.specs.declared.fault.FaultKind.TheVariants.{TooLong}
use Rattle.cs_parse.specs.declared.fault.ParseFault.{ParseFault}
use Rattle.cs_parse.specs.declared.spot.Spot.{Spot}
use Rattle.cs_parse.specs.declared.spot.Spot.TheVariants.{Start, Row, Old, New, Name}
use Rattle.cs_parse.specs.declared.stop.ParseRefusal.TheVariants.{Short}
use Rattle.cs_parse.specs.Front.{Waits, KeepsSpot}
use Rattle.cs_parse.specs.Lack.{HasNoZero, LacksInHeader, WaitsFor, IsPaused}
use Rattle.cs_parse.specs.Progress.{Progress, Reached, broken, last_flags, parts_at, read_on, arrived, piece_within}
use Rattle.cs_parse.specs.Progress.{advance, advanced}
use Rattle.cs_parse.specs.Reading.{◌>>=◌, change_at, ends_section}
use Rattle.cs_parse.specs.Spot.{IsSpot, IsHeaderSpot}
use Rattle.cs_parse.proofs.refusing.Exact.{are_bytes-append}
use Rattle.cs_parse.proofs.feeding.FrontParts.{change_part, front_parts_changed}
use Rattle.cs_parse.proofs.feeding.NameLaws.{none_behind, header_waits}
use Rattle.cs_parse.proofs.joining.PartLaws.{part_refused}
use Rattle.cs_parse.proofs.reading.Steps.{bytes_from, bytes_to}

-- of the start nothing is said
start_waits : (flags : Option (List ℕ)) (bytes : List ℕ) → Waits flags bytes Start
start_waits None bytes = tt
start_waits (Some flags) bytes = tt

pub keeps_start : (flags : Option (List ℕ)) (bytes : List ℕ) → KeepsSpot flags bytes Start
keeps_start flags bytes more fits = start_waits flags (bytes ++ more)

-- what is known of a header's spot
pub header_waiting : (flags : Option (List ℕ)) (bytes : List ℕ) (spot : Spot) → Waits flags bytes spot
    → IsHeaderSpot bytes spot
header_waiting None bytes spot is = is
header_waiting (Some flags) bytes Start is = tt
header_waiting (Some flags) bytes (Row fields place) is = tt
header_waiting (Some flags) bytes (Old fields place) is = tt
header_waiting (Some flags) bytes (New fields place old) is = tt
header_waiting (Some flags) bytes (Name place letters) is = is

-- a spot that is right whatever table stands before it
pub any_waits : (flags : Option (List ℕ)) (bytes : List ℕ) (spot : Spot) → ((keys : List ℕ) → IsSpot keys bytes spot)
    → Waits flags bytes spot
any_waits None bytes spot is = header_waiting (Some []) bytes spot (is [])
any_waits (Some flags) bytes spot is = is flags

-- bytes that came
pub keeps_more : (flags : Option (List ℕ)) (bytes piece : List ℕ) (spot : Spot) → AreBytes piece
    → KeepsSpot flags bytes spot → KeepsSpot flags (bytes ++ piece) spot
keeps_more flags bytes piece spot fits keeps more others =
    subst (λ w. Waits flags w spot) (sym (append_assoc bytes piece more))
    (keeps (piece ++ more) (bytes_from (piece ++ more)
    (are_bytes-append piece more (bytes_to piece fits) (bytes_to more others))))

-- a change that ends too early is the part that isn't read
pub short_waits : (sections : List Section) (flags bytes : List ℕ) → last_flags sections ≡ Some flags
    → ends_section bytes ≡ false → change_at flags bytes ≡ Err Short
    → read_on sections bytes ≡ record { sections = sections; rest = bytes; why = Some Short }
short_waits sections flags [] last more short = absurd cc
short_waits sections flags (byte ∷ bytes) last more short =
    part_refused sections byte bytes Short
    (change_part sections flags (byte ∷ bytes) last more ∙ ap (λ r. r >>= front_parts_changed sections) short)

-- ---- with fewer bytes than are lacking

-- what is read where the part that begins there ends too early
abbrev waiting : List Section → List ℕ → Reached
waiting sections bytes = record { sections = sections; rest = bytes; why = Some Short }

pub waits_now : (sections : List Section) (bytes : List ℕ) (header : Bool) (least : ℕ)
    → WaitsFor sections bytes header least → 0 < least → read_on sections bytes ≡ waiting sections bytes
waits_now sections bytes header least lacks some =
    subst (λ w. read_on sections w ≡ waiting sections w) (append-nil bytes) (lacks [] some (λ _. refl))

pub waits_less : (sections : List Section) (bytes : List ℕ) (header : Bool) (least other : ℕ) → other ≤ least
    → WaitsFor sections bytes header least → WaitsFor sections bytes header other
waits_less sections bytes header least other le lacks more less none = lacks more (omega (arith, le, less)) none

waits_behind : (sections : List Section) (bytes piece : List ℕ) (header : Bool) (least : ℕ)
    → (IsTrue header → HasNoZero piece) → WaitsFor sections bytes header least
    → WaitsFor sections (bytes ++ piece) header (least - length piece)
waits_behind sections bytes piece header least none lacks more less others =
    let all : IsTrue header → HasNoZero (piece ++ more) = λ is. none_behind piece more (none is) (others is) in
    subst (λ w. read_on sections w ≡ waiting sections w) (sym (append_assoc bytes piece more))
    (lacks (piece ++ more) (omega (arith, less, length-append piece more)) all)

pub header_lacks : (sections : List Section) (bytes : List ℕ) (least : ℕ) → (length bytes == 0) ≡ false
    → ends_section bytes ≡ true → LacksInHeader bytes least → WaitsFor sections bytes true least
header_lacks sections [] least some over lacks more less none = absurd (cc some)
header_lacks sections (byte ∷ bytes) least some over lacks more less none =
    header_waits sections (byte ∷ (bytes ++ more)) (ne_eqb (suc (length (bytes ++ more))) 0 (λ z. absurd cc)) over
    (lacks more less (none refl))

-- a change stays one
ends_longer : (bytes more : List ℕ) → ends_section bytes ≡ false → ends_section (bytes ++ more) ≡ false
ends_longer [] more e = absurd cc
ends_longer (byte ∷ bytes) more e = e

pub change_lacks : (sections : List Section) (flags bytes : List ℕ) (least : ℕ) → last_flags sections ≡ Some flags
    → ends_section bytes ≡ false
    → ((more : List ℕ) → length more < least → change_at flags (bytes ++ more) ≡ Err Short)
    → WaitsFor sections bytes false least
change_lacks sections flags bytes least last over short more less none =
    short_waits sections flags (bytes ++ more) last (ends_longer bytes more over) (short more less)

-- ---- what a parser keeps of it

-- where so many are lacking some are there
some_waits : (sections : List Section) (bytes : List ℕ) (header : Bool) (least : ℕ)
    → WaitsFor sections bytes header least → 0 < least → 0 < length bytes
unfolding parts_at
some_waits sections [] header least lacks some =
    let none = ap (λ r. r.why) (lacks [] some (λ _. refl)) in
    absurd cc
some_waits sections (byte ∷ bytes) header least lacks some = omega arith

pub paused : (fault : Option ParseFault) (sections : List Section) (bytes : List ℕ) (header : Bool) (least : ℕ) → fault
    ≡ None → WaitsFor sections bytes header least → IsPaused fault sections bytes header least
paused fault sections bytes header least no_fault lacks =
    record { no_fault = λ _. no_fault; some = some_waits sections bytes header least lacks; lacks = lacks }

pub paused_behind : (fault : Option ParseFault) (sections : List Section) (bytes piece : List ℕ) (header : Bool)
    (least : ℕ) → length piece < least → (IsTrue header → HasNoZero piece) → IsPaused fault sections bytes header least
    → IsPaused fault sections (bytes ++ piece) header (least - length piece)
paused_behind fault sections bytes piece header least less none p =
    paused fault sections (bytes ++ piece) header (least - length piece) (p.no_fault (omega (arith, less)))
    (waits_behind sections bytes piece header least none p.lacks)

pub keeps_as : (flags others : Option (List ℕ)) (bytes same : List ℕ) (spot : Spot) → flags ≡ others → bytes ≡ same
    → KeepsSpot flags bytes spot → KeepsSpot others same spot
keeps_as flags others bytes same spot e f keeps =
    subst (λ w. KeepsSpot others w spot) f (subst (λ o. KeepsSpot o bytes spot) e keeps)

-- ---- the progress behind bytes that aren't looked at

abbrev wait_behind : Progress → List ℕ → Progress
wait_behind old piece = record {
  sections = old.sections;
  pending = old.pending ++ piece;
  offset = old.offset
      + length piece;
  fault = None;
}

advance_paused : (old : Progress) (piece : List ℕ) → old.offset + length piece ≤ most_bytes
    → read_on old.sections (old.pending ++ piece) ≡ waiting old.sections (old.pending ++ piece) → advance None old piece
    ≡ wait_behind old piece
advance_paused old piece room waits =
    let len = old.offset + length piece in
    let all : piece_within old piece ≡ piece = take_all (most_bytes - old.offset) piece (omega (arith, room)) in
    ap (λ w. arrived len (old.offset + length w) (read_on old.sections (old.pending ++ w))) all
    ∙ ap (λ r. arrived len len r) waits
    ∙ ap (λ b. cond b (broken (record { at = most_bytes; kind = TooLong })) (wait_behind old piece))
    (le-ltb most_bytes len room)

pub paused_fed : (old new : Progress) (piece : List ℕ) (header : Bool) (least : ℕ) → old.offset + least ≤ most_bytes
    → length piece < least → (IsTrue header → HasNoZero piece)
    → IsPaused old.fault old.sections old.pending header least
    → new ≡ record {
      sections = old.sections;
      pending = old.pending ++ piece;
      offset = old.offset
          + length piece;
      fault = old.fault;
    } → ((advanced old piece).fault ≡ None) × (new ≡ advanced old piece)
unfolding advanced
paused_fed old new piece header least room less none p new_is =
    let no_fault = p.no_fault (omega (arith, less)) in
    let whole : advanced old piece ≡ wait_behind old piece = ap (λ o. advance o old piece) no_fault
    ∙ advance_paused old piece (omega (arith, room, less)) (p.lacks piece less none) in (
      ap (λ (q : Progress). q.fault) whole,
      new_is ∙ ap
          (λ o. record {
            sections = old.sections;
            pending = old.pending ++ piece;
            offset = old.offset
                + length piece;
            fault = o;
          }) no_fault ∙ sym whole,
    )
