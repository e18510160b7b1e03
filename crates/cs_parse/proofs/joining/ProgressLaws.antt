-- The progress of a text does not depend on the pieces that it comes in.
use Rattle.std.proofs.Common.{◌≡◌, ℕ, ◌+◌, ◌-◌, ◌<◌, ◌≤◌, ◌⊎◌, inl, inr, cond, ltb, List, [], ◌++◌}
use Rattle.std.proofs.Common.{length, take, Option, Some, None, refl, sym, ap, subst, ◌∙◌, arith}
use Rattle.std.proofs.lemmas.Bool.{cases_lt, lt-ltb, le-ltb}
use Rattle.std.proofs.lemmas.List.{length-append, take-append-le, take_all}
use Rattle.std.proofs.Math.Seq.{take-append-add}
use Rattle.cs_model.specs.Changeset.{most_bytes}
use Rattle.cs_model.specs.Bytes.{AreBytes}
use Rattle.cs_parse.specs.declared.fault.FaultKind.{FaultKind}
use Rattle.cs_parse.specs.declared.fault.FaultKind.TheVariants.{TooLong}
use Rattle.cs_parse.specs.declared.fault.ParseFault.{ParseFault}
use Rattle.cs_parse.specs.declared.stop.ParseRefusal.{ParseRefusal}
use Rattle.cs_parse.specs.declared.stop.ParseRefusal.TheVariants.{Short, Bad}
use Rattle.cs_parse.specs.Progress.{Progress, nothing, broken, Reached, parts_at, read_on, advanced, progress_of}
use Rattle.cs_parse.proofs.reading.NumberLaws.{number_front_fits}
use Rattle.cs_parse.proofs.joining.PartMore.{MoreBy, read_more}

-- ---- the same over any limit, whose number is then not computed

abbrev whole_so_far : ℕ → Reached → Progress
whole_so_far taken reached =
    record { sections = reached.sections; pending = reached.rest; offset = taken; fault = None }

abbrev progress_too_long : ℕ → ParseFault
progress_too_long most = record { at = most; kind = TooLong }

abbrev progress_bad_at : ℕ → ℕ → FaultKind → ParseFault
progress_bad_at taken left kind = record { at = taken - left; kind = kind }

abbrev so_far_by : ℕ → ℕ → ℕ → Reached → Progress
so_far_by most len taken reached = cond (ltb most len) (broken (progress_too_long most)) (whole_so_far taken reached)

abbrev stopped_by : ℕ → ℕ → ℕ → Reached → Option ParseRefusal → Progress
stopped_by most len taken reached None = so_far_by most len taken reached
stopped_by most len taken reached (Some Short) = so_far_by most len taken reached
stopped_by most len taken reached (Some (Bad left kind)) = broken (progress_bad_at taken left kind)

abbrev arrived_by : ℕ → ℕ → ℕ → Reached → Progress
arrived_by most len taken reached = stopped_by most len taken reached reached.why

abbrev advance_by : ℕ → Option ParseFault → Progress → List ℕ → Progress
advance_by most (Some fault) old piece = old
advance_by most None old piece =
    arrived_by most (old.offset + length piece) (old.offset + length (take (most - old.offset) piece))
    (read_on old.sections (old.pending ++ take (most - old.offset) piece))

abbrev advanced_by : ℕ → Progress → List ℕ → Progress
advanced_by most old piece = advance_by most old.fault old piece

abbrev progress_by : ℕ → List ℕ → Progress
progress_by most text = arrived_by most (length text) (length (take most text)) (read_on [] (take most text))

advanced_is : (old : Progress) (piece : List ℕ) → advanced old piece ≡ advanced_by most_bytes old piece
unfolding advanced
advanced_is old piece = refl

starts : (most : ℕ) (text : List ℕ) → advanced_by most nothing text ≡ progress_by most text
starts most text =
    let same : most - 0 ≡ most = omega arith in
    let len : 0 + length text ≡ length text = omega arith in
    let taken : 0 + length (take most text) ≡ length (take most text) = omega arith in
    ap (λ n. arrived_by most (0 + length text) (0 + length (take n text)) (read_on [] (take n text))) same
    ∙ ap (λ n. arrived_by most n (0 + length (take most text)) (read_on [] (take most text))) len
    ∙ ap (λ n. arrived_by most (length text) n (read_on [] (take most text))) taken

progress_is_read : (text : List ℕ) → progress_of text ≡ progress_by most_bytes text
progress_is_read text = advanced_is nothing text ∙ starts most_bytes text

-- ---- a text that is too long

abbrev fault_past : ℕ → ℕ → Option ParseRefusal → ParseFault
fault_past most taken None = progress_too_long most
fault_past most taken (Some Short) = progress_too_long most
fault_past most taken (Some (Bad left kind)) = progress_bad_at taken left kind

past_limit : (most len taken : ℕ) (reached : Reached) (why : Option ParseRefusal) → most < len
    → stopped_by most len taken reached why ≡ broken (fault_past most taken why)
past_limit most len taken reached None long =
    ap (λ b. cond b (broken (progress_too_long most)) (whole_so_far taken reached)) (lt-ltb most len long)
past_limit most len taken reached (Some Short) long =
    ap (λ b. cond b (broken (progress_too_long most)) (whole_so_far taken reached)) (lt-ltb most len long)
past_limit most len taken reached (Some (Bad left kind)) long = refl

long_more : (most : ℕ) (text piece : List ℕ) → most < length text → progress_by most (text ++ piece)
    ≡ advanced_by most (progress_by most text) piece
long_more most text piece long =
    let front : take most (text ++ piece) ≡ take most text = take-append-le most text piece (omega (arith, long)) in
    let taken = length (take most text) in
    let reached = read_on [] (take most text) in
    let longer : most < length (text ++ piece) = omega (arith, long, length-append text piece) in
    ap (λ w. arrived_by most (length (text ++ piece)) (length w) (read_on [] w)) front
    ∙ past_limit most (length (text ++ piece)) taken reached reached.why longer
    ∙ sym (ap (λ p. advanced_by most p piece) (past_limit most (length text) taken reached reached.why long))

-- ---- a text within the limit

within_is : (most : ℕ) (len taken : ℕ) (reached : Reached) → len ≤ most → so_far_by most len taken reached
    ≡ whole_so_far taken reached
within_is most len taken reached le =
    ap (λ b. cond b (broken (progress_too_long most)) (whole_so_far taken reached)) (le-ltb most len le)

progress_continues : (most : ℕ) (text piece : List ℕ) (reached whole : Reached) → length text ≤ most → whole
    ≡ read_on reached.sections (reached.rest ++ take (most - length text) piece)
    → arrived_by most (length (text ++ piece)) (length (text ++ take (most - length text) piece)) whole
    ≡ advanced_by most (so_far_by most (length text) (length text) reached) piece
progress_continues most text piece reached whole le e =
    let more = take (most - length text) piece in
    ap (λ n. arrived_by most n (length (text ++ more)) whole) (length-append text piece)
    ∙ ap (λ n. arrived_by most (length text + length piece) n whole) (length-append text more)
    ∙ ap (arrived_by most (length text + length piece) (length text + length more)) e
    ∙ sym (ap (λ p. advanced_by most p piece) (within_is most (length text) (length text) reached le))

by_why : (most : ℕ) (text piece : List ℕ) (reached whole : Reached) (why : Option ParseRefusal) → length text ≤ most
    → MoreBy whole (take (most - length text) piece) reached why
    → arrived_by most (length (text ++ piece)) (length (text ++ take (most - length text) piece)) whole
    ≡ advanced_by most (stopped_by most (length text) (length text) reached why) piece
by_why most text piece reached whole None le h = progress_continues most text piece reached whole le h
by_why most text piece reached whole (Some Short) le h = progress_continues most text piece reached whole le h
by_why most text piece reached whole (Some (Bad left kind)) le h =
    let more = take (most - length text) piece in
    let taken = length (text ++ more) in
    let place : taken - (left + length more) ≡ length text - left = omega (arith, length-append text more) in
    ap (stopped_by most (length (text ++ piece)) taken whole) h
    ∙ ap (λ n. broken (record { at = n; kind = kind })) place

-- the bytes of both that are within the limit
front_of_both : (most : ℕ) (text piece : List ℕ) → length text ≤ most → take most (text ++ piece) ≡ text
    ++ take (most - length text) piece
front_of_both most text piece le =
    let sum : most ≡ length text + (most - length text) = omega (arith, le) in
    ap (λ n. take n (text ++ piece)) sum ∙ take-append-add text piece (most - length text)

within_more : (most : ℕ) (text piece : List ℕ) → AreBytes (text ++ piece) → length text ≤ most
    → progress_by most (text ++ piece) ≡ advanced_by most (progress_by most text) piece
within_more most text piece fits le =
    let more = take (most - length text) piece in
    let both = front_of_both most text piece le in
    let all : take most text ≡ text = take_all most text le in
    let bytes : AreBytes (text ++ more) = subst (λ w. AreBytes w) both (some_front most (text ++ piece) fits) in
    let reached = read_on [] text in
    ap (λ w. arrived_by most (length (text ++ piece)) (length w) (read_on [] w)) both
    ∙ by_why most text piece reached (read_on [] (text ++ more)) reached.why le (read_more [] text more bytes)
    ∙ sym (ap (λ w. advanced_by most (arrived_by most (length text) (length w) (read_on [] w)) piece) all)
  where
    some_front : (n : ℕ) (bytes : List ℕ) → AreBytes bytes → AreBytes (take n bytes)
    some_front n bytes fits = elim (cases_lt n (length bytes)) as (λ w. AreBytes (take n bytes)) [
      | inl less ↦ number_front_fits n bytes (omega (arith, less)) fits
      | inr all ↦ subst (λ w. AreBytes w) (sym (take_all n bytes all)) fits
    ]

progress_more_by : (most : ℕ) (text piece : List ℕ) → AreBytes (text ++ piece) → progress_by most (text ++ piece)
    ≡ advanced_by most (progress_by most text) piece
progress_more_by most text piece fits =
    elim (cases_lt most (length text)) as
    (λ w. progress_by most (text ++ piece) ≡ advanced_by most (progress_by most text) piece) [
      | inl long ↦ long_more most text piece long
      | inr le ↦ within_more most text piece fits le
    ]

-- A piece more: how far the whole text is read.
pub progress_more : (text piece : List ℕ) → AreBytes (text ++ piece) → progress_of (text ++ piece)
    ≡ advanced (progress_of text) piece
progress_more text piece fits =
    progress_is_read (text ++ piece) ∙ progress_more_by most_bytes text piece fits
    ∙ sym (ap (λ p. advanced_by most_bytes p piece) (progress_is_read text))
    ∙ sym (advanced_is (progress_of text) piece)

-- ---- what is known of progress

-- What is known where there is no fault: all of the text is within the limit and taken.
pub record Unbroken (text : List ℕ) : Type 0 where
  pub within_limit : length text ≤ most_bytes
  pub is_read : progress_of text
      ≡ record {
        sections = (read_on [] text).sections;
        pending = (read_on [] text).rest;
        offset = length text;
        fault = None;
      }
  pub why_is : ((read_on [] text).why ≡ None) ⊎ ((read_on [] text).why ≡ Some Short)

abbrev UnbrokenBy : ℕ → List ℕ → Progress → Option ParseRefusal → Type 0
UnbrokenBy most text progress why = (length text ≤ most) × (progress ≡ whole_so_far (length text) (read_on [] text))
    × ((why ≡ None) ⊎ (why ≡ Some Short))

some_fault : (fault : ParseFault) → Some fault ≡ None → ⊥
some_fault fault e = cc

abbrev progress_fault_of : Progress → Option ParseFault
progress_fault_of progress = progress.fault

stopped_unbroken : (most : ℕ) (text : List ℕ) (why : Option ParseRefusal) → length text ≤ most
    → (stopped_by most (length text) (length text) (read_on [] text) why).fault ≡ None
    → UnbrokenBy most text (stopped_by most (length text) (length text) (read_on [] text) why) why
stopped_unbroken most text None le e = (le, within_is most (length text) (length text) (read_on [] text) le, inl refl)
stopped_unbroken most text (Some Short) le e =
    (le, within_is most (length text) (length text) (read_on [] text) le, inr refl)
stopped_unbroken most text (Some (Bad left kind)) le e = absurd (some_fault (progress_bad_at (length text) left kind) e)

abbrev Sound : ℕ → List ℕ → Progress → Type 0
Sound most text progress = progress.fault ≡ None → UnbrokenBy most text progress (read_on [] text).why

unbroken_by : (most : ℕ) (text : List ℕ) → Sound most text (progress_by most text)
unbroken_by most text e =
    elim (cases_lt most (length text)) as (λ w. UnbrokenBy most text (progress_by most text) (read_on [] text).why) [
      | inl long ↦
          let reached = read_on [] (take most text) in
          let taken = length (take most text) in
          absurd (some_fault (fault_past most taken reached.why)
          (sym (ap progress_fault_of (past_limit most (length text) taken reached reached.why long)) ∙ e))
      | inr le ↦ subst (Sound most text)
          (sym (ap (λ w. arrived_by most (length text) (length w) (read_on [] w)) (take_all most text le)))
          (λ none. stopped_unbroken most text (read_on [] text).why le none) e
    ]

pub unbroken : (text : List ℕ) → (progress_of text).fault ≡ None → Unbroken text
unbroken text e =
    let u = subst (Sound most_bytes text) (sym (progress_is_read text)) (unbroken_by most_bytes text) e in
    record { within_limit = u.0; is_read = u.1; why_is = u.2 }

-- no bytes are read as far as nothing
pub progress_begins : progress_of [] ≡ nothing
unfolding advanced parts_at
progress_begins = refl
