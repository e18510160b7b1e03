-- Where all is read that is there, an empty piece changes nothing.
use Rattle.std.proofs.Common.{◌≡◌, ℕ, ◌+◌, ◌-◌, ◌<◌, ◌≤◌, cond, List, [], ◌++◌, length, take, Option, Some, None, sym, ap, ◌∙◌}
use Rattle.std.proofs.Common.{refl, subst, arith, Err}
use Rattle.std.proofs.lemmas.Bool.{le-ltb, lt-ltb}
use Rattle.std.proofs.lemmas.List.{append-nil, take_all}
use Rattle.cs_model.specs.Bytes.{AreBytes}
use Rattle.cs_model.specs.Changeset.{most_bytes}
use Rattle.cs_model.specs.Section.{Section}
use Rattle.cs_parse.specs.declared.fault.FaultKind.TheVariants.{TooLong}
use Rattle.cs_parse.specs.declared.fault.ParseFault.{ParseFault}
use Rattle.cs_parse.specs.declared.stop.ParseRefusal.{ParseRefusal}
use Rattle.cs_parse.specs.declared.stop.ParseRefusal.TheVariants.{Short, Bad}
use Rattle.cs_parse.specs.Front.{fault_by, IsReadOut, Grown}
use Rattle.cs_parse.specs.Progress.{Progress, Reached, broken, read_on, arrived, stopped, so_far, advance, advanced}
use Rattle.cs_parse.specs.Progress.{FeedAnswers}
use Rattle.cs_parse.specs.declared.fault.ParseError.{ParseError}
use Rattle.cs_parse.specs.declared.fault.ParseError.TheVariants.{Fault}
use Rattle.cs_parse.specs.Progress.{piece_within, parts_at}
use Rattle.cs_parse.proofs.joining.PartMore.{MoreBy, read_more}

-- ---- an empty piece

abbrev rest_kept : ℕ → Reached → Progress
rest_kept taken reached =
    record { sections = reached.sections; pending = reached.rest; offset = taken; fault = None }

rest_within : (len : ℕ) (reached : Reached) → len ≤ most_bytes → so_far len len reached ≡ rest_kept len reached
rest_within len reached few =
    ap (λ b. cond b (broken (record { at = most_bytes; kind = TooLong })) (rest_kept len reached))
    (le-ltb most_bytes len few)

no_rest_fault : (fault : ParseFault) → Some fault ≡ None → ⊥
no_rest_fault fault e = cc

rest_stopped : (len : ℕ) (reached : Reached) (why : Option ParseRefusal) → len ≤ most_bytes → fault_by len why ≡ None
    → stopped len len reached why ≡ rest_kept len reached
rest_stopped len reached None few none = rest_within len reached few
rest_stopped len reached (Some Short) few none = rest_within len reached few
rest_stopped len reached (Some (Bad left kind)) few none =
    absurd (no_rest_fault (record { at = len - left; kind = kind }) none)

rest_advanced : (old : Progress) → old.offset ≤ most_bytes → IsReadOut old.sections old.pending
    → advance None old [] ≡ record old { fault = None }
rest_advanced old few out =
    let none : piece_within old [] ≡ [] = take_all (most_bytes - old.offset) [] (omega arith) in
    let reached = read_on old.sections old.pending in
    let len : old.offset + 0 ≡ old.offset = omega arith in
    ap (λ w. arrived (old.offset + 0) (old.offset + length w) (read_on old.sections (old.pending ++ w))) none
    ∙ ap (λ w. arrived (old.offset + 0) (old.offset + 0) (read_on old.sections w)) (append-nil old.pending)
    ∙ ap (λ n. arrived n n reached) len
    ∙ rest_stopped old.offset reached reached.why few (out.no_fault old.offset)
    ∙ (λ i. record { sections = out.same i; pending = out.rest i; offset = old.offset; fault = None })

pub rested : (old : Progress) → old.offset ≤ most_bytes → IsReadOut old.sections old.pending → old.fault ≡ None
    → ((advanced old []).fault ≡ None) × (old ≡ advanced old [])
unfolding advanced
rested old few out none =
    let whole : advanced old [] ≡ record old { fault = None } = ap (λ o. advance o old []) none
    ∙ rest_advanced old few out in (
      ap (λ (p : Progress). p.fault) whole,
      ap (λ o. record old { fault = o }) none ∙ sym whole,
    )

-- ---- what is read

rest_reached : (sections : List Section) (bytes : List ℕ) (reached : Reached) → reached ≡ read_on sections bytes
    → reached.sections ≡ sections → reached.rest ≡ bytes → ((taken : ℕ) → fault_by taken reached.why ≡ None)
    → IsReadOut sections bytes
rest_reached sections bytes reached e same rest none = record {
  same = ap (λ (r : Reached). r.sections) (sym e) ∙ same;
  rest = ap (λ (r : Reached). r.rest) (sym e) ∙ rest;
  no_fault = λ taken. ap (λ (r : Reached). fault_by taken r.why) (sym e) ∙ none taken;
}

-- where the next item ends too early all is read
pub out_short : (sections : List Section) (bytes : List ℕ)
    → read_on sections bytes ≡ record { sections = sections; rest = bytes; why = Some Short }
    → IsReadOut sections bytes
out_short sections bytes e =
    rest_reached sections bytes (record { sections = sections; rest = bytes; why = Some Short }) (sym e) refl refl
    (λ taken. refl)

rest_again : (whole reached : Reached) → whole ≡ read_on reached.sections (reached.rest ++ []) → reached ≡ whole
    → reached ≡ read_on reached.sections reached.rest
rest_again whole reached e same = same ∙ e ∙ ap (read_on reached.sections) (append-nil reached.rest)

out_by : (taken : ℕ) (why : Option ParseRefusal) (whole reached : Reached) → reached ≡ whole → reached.why ≡ why
    → MoreBy whole [] reached why → stopped 0 taken reached why ≡ so_far 0 taken reached
    → IsReadOut reached.sections reached.rest
out_by taken None whole reached same why more none =
    rest_reached reached.sections reached.rest reached (rest_again whole reached more same) refl refl
    (λ n. ap (fault_by n) why)
out_by taken (Some Short) whole reached same why more none =
    rest_reached reached.sections reached.rest reached (rest_again whole reached more same) refl refl
    (λ n. ap (fault_by n) why)
out_by taken (Some (Bad left kind)) whole reached same why more none =
    absurd (no_rest_fault (record { at = taken - left; kind = kind })
    (ap (λ (p : Progress). p.fault)
    (none ∙ ap (λ b. cond b (broken (record { at = most_bytes; kind = TooLong })) (rest_kept taken reached))
    (le-ltb most_bytes 0 (omega arith)))))

-- what is left of bytes of which none is wrong
pub out_read : (taken : ℕ) (sections : List Section) (bytes : List ℕ) → AreBytes bytes
    → ((n : ℕ) → arrived n taken (read_on sections bytes) ≡ so_far n taken (read_on sections bytes))
    → IsReadOut (read_on sections bytes).sections (read_on sections bytes).rest
out_read taken sections bytes fits none =
    let reached = read_on sections bytes in
    let all : bytes ++ [] ≡ bytes = append-nil bytes in
    out_by taken reached.why (read_on sections (bytes ++ [])) reached (ap (read_on sections) (sym all)) refl
    (read_more sections bytes [] (subst (λ w. AreBytes w) (sym all) fits)) (none 0)

-- before any byte
pub out_nothing : IsReadOut [] []
unfolding parts_at
out_nothing = record { same = refl; rest = refl; no_fault = λ taken. refl }

pub out_empty : (text : List Section × List ℕ) → text ≡ ([], []) → IsReadOut text.0 text.1
out_empty text e = subst (λ (t : List Section × List ℕ). IsReadOut t.0 t.1) (sym e) out_nothing

-- what a parser has where nothing of its next item was looked at
pub out_grown : (taken : ℕ) (old new : List Section × List ℕ) → AreBytes old.1 → Grown taken old new
    → IsReadOut new.0 new.1
out_grown taken old new fits grown =
    subst (λ bytes. IsReadOut new.0 bytes) (sym grown.rest)
    (subst (λ sections. IsReadOut sections (read_on old.0 old.1).rest) (sym grown.sections)
    (out_read taken old.0 old.1 fits grown.no_fault))

-- ---- a full text

full_within : (len taken : ℕ) (reached : Reached) → most_bytes < len
    → so_far len taken reached ≡ broken (record { at = most_bytes; kind = TooLong })
full_within len taken reached many =
    ap (λ b. cond b (broken (record { at = most_bytes; kind = TooLong })) (rest_kept taken reached))
    (lt-ltb most_bytes len many)

full_stopped : (len taken : ℕ) (reached : Reached) (why : Option ParseRefusal) → most_bytes < len
    → fault_by taken why ≡ None
    → stopped len taken reached why ≡ broken (record { at = most_bytes; kind = TooLong })
full_stopped len taken reached None many none = full_within len taken reached many
full_stopped len taken reached (Some Short) many none = full_within len taken reached many
full_stopped len taken reached (Some (Bad left kind)) many none =
    absurd (no_rest_fault (record { at = taken - left; kind = kind }) none)

full_advanced : (old : Progress) (piece : List ℕ) → old.offset ≡ most_bytes → 0 < length piece
    → IsReadOut old.sections old.pending
    → advance None old piece ≡ broken (record { at = most_bytes; kind = TooLong })
full_advanced old piece full some out =
    let room : most_bytes - old.offset ≡ 0 = omega (arith, full) in
    let none : piece_within old piece ≡ [] = ap (λ n. take n piece) room in
    let reached = read_on old.sections old.pending in
    ap (λ w. arrived (old.offset + length piece) (old.offset + length w) (read_on old.sections (old.pending ++ w))) none
    ∙ ap (λ w. arrived (old.offset + length piece) (old.offset + 0) (read_on old.sections w)) (append-nil old.pending)
    ∙ full_stopped (old.offset + length piece) (old.offset + 0) reached reached.why (omega (arith, full, some))
    (out.no_fault (old.offset + 0))

-- more bytes after a full text, of which none is wrong, break it
pub too_full : (old : Progress) (piece : List ℕ) → old.offset ≡ most_bytes → 0 < length piece
    → IsReadOut old.sections old.pending → old.fault ≡ None
    → advanced old piece ≡ broken (record { at = most_bytes; kind = TooLong })
unfolding advanced
too_full old piece full some out none = ap (λ o. advance o old piece) none ∙ full_advanced old piece full some out

pub full_answers : (error : ParseError) (old : Progress) (piece : List ℕ) (new : Progress)
    → error ≡ Fault (record { at = most_bytes; kind = TooLong })
    → new ≡ broken (record { at = most_bytes; kind = TooLong })
    → old.offset ≡ most_bytes → 0 < length piece → IsReadOut old.sections old.pending → old.fault ≡ None
    → FeedAnswers {A = Unit {0}} (Err error) old piece new
full_answers error old piece new told new_is full some out none =
    let whole = too_full old piece full some out none in
    subst (λ e. FeedAnswers {A = Unit {0}} (Err e) old piece new) (sym told)
    (ap (λ (p : Progress). p.fault) whole, new_is ∙ sym whole)
