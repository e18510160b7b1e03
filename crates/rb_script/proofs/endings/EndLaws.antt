-- How a script ends: what is read and written by then.
use Rattle.std.specs.Prelude.{IfErr}
use Rattle.std.proofs.Common.{◌≡◌, ℕ, ◌+◌, ◌-◌, ◌<◌, ◌≤◌, List, [], ◌∷◌, ◌++◌, length, take, drop, Option, Some, None}
use Rattle.std.proofs.Common.{Result, Ok, Err, refl, sym, ap, subst, ◌∙◌, append_assoc, arith, length-append, inl, inr}
use Rattle.std.proofs.Common.{Bool, cond, false, length-take, length-drop}
use Rattle.std.proofs.lemmas.List.{append-nil, take_all}
use Rattle.std.proofs.Math.Seq.{take-append_seam, take-add}
use Rattle.std.specs.Io.KnownBytes.{Appends, Consumes, Keeps, IsAtEnd}
use Rattle.rb_desk.specs.Limits.{Limits}
use Rattle.rb_script.specs.declared.answering.Answering.{Answering}
use Rattle.rb_script.specs.declared.answering.RefusedLine.{RefusedLine}
use Rattle.rb_script.specs.declared.fault.ScriptError.{ScriptError}
use Rattle.rb_script.specs.declared.fault.ScriptError.TheVariants.{Read, Write, Endless, Memory, Refused}
use Rattle.rb_script.specs.Answering.{AnsweredLine, stops_after, numbered_answer, output_for, refused_line, first_stop}
use Rattle.rb_script.specs.Answering.{answered_lines, script_output, script_stop}
use Rattle.rb_script.specs.declared.lines.Stage.TheVariants.{Tables}
use Rattle.rb_script.specs.Feeding.{AreFed, StopsIn, fed_lines, line_at}
use Rattle.rb_script.specs.Lines.{line_answer}
use Rattle.rb_script.specs.Output.{ScriptPlace, first_place}
use Rattle.rb_script.specs.Script.{lines_of, whole_lines}
use Rattle.rb_script.specs.Streams.{AppendsFront}
use Rattle.rb_script.specs.Ends.{AreAnswered, IsAnswered, IsReadInPart, IsOverrun, HoldsOfLines, StopsAmong, IsCutOff}
use Rattle.rb_script.specs.Ends.{IsStoppedAt, ScriptEnds, IsOfAnswers}
use Rattle.rb_script.proofs.endings.StreamLaws.{Appends-trans, Appends-Keeps, Consumes-none, Consumes-trans}
use Rattle.rb_script.proofs.endings.StreamLaws.{Consumes-Keeps}
use Rattle.rb_script.proofs.endings.StreamLaws.{stream_appends_front}
use Rattle.rb_script.proofs.endings.OutputLaws.{output-cons, output-append, stop-append, stops_later}
use Rattle.rb_script.proofs.whole_scripts.FedLaws.{fed-append, fed_none, fed_after_fed, fed_short}
use Rattle.rb_script.proofs.whole_scripts.WholeLaws.{whole_is, all_is}

-- ---- a piece, cut at the limit

pub length-front : (k : ℕ) (piece : List ℕ) → k ≤ length piece → length (take k piece) ≡ k
length-front k piece le = omega (arith, length-take k piece)

-- the part of a piece of n bytes that stays within the limit, and the part that is past it
abbrev within_limit : ℕ → List ℕ → List ℕ
within_limit count piece = take (16777216 - count) piece

abbrev over_limit : ℕ → ℕ → List ℕ → List ℕ
over_limit count n piece = take (n - (16777216 - count)) (drop (16777216 - count) piece)

record IsCutAtLimit (count n : ℕ) (piece : List ℕ) : Type 0 where
  pieces : take n piece ≡ within_limit count piece ++ over_limit count n piece
  full : count + length (within_limit count piece) ≡ 16777216
  more : 0 < length (over_limit count n piece)

cut_piece : (k n : ℕ) (piece : List ℕ) → k ≤ n → take n piece ≡ take k piece ++ take (n - k) (drop k piece)
cut_piece k n piece le =
    let e : n ≡ k + (n - k) = omega arith in
    ap (λ (m : ℕ). take m piece) e ∙ take-add k (n - k) piece

length-back : (k n : ℕ) (piece : List ℕ) → k < n → n ≤ length piece → 0 < length (take (n - k) (drop k piece))
length-back k n piece lt le = omega (arith, length-take (n - k) (drop k piece), length-drop k piece)

cut_at_limit : (count n : ℕ) (piece : List ℕ) → count ≤ 16777216 → 16777216 - count < n → n ≤ length piece
    → IsCutAtLimit count n piece
cut_at_limit count n piece within past le = record {
  pieces = cut_piece (16777216 - count) n piece (omega (arith, past));
  full = omega (arith, within, length-front (16777216 - count) piece (omega (arith, past, le)));
  more = length-back (16777216 - count) n piece past le;
}

-- ---- pieces of an input

-- so far this input is read, its whole lines are answered, and the script is at the place after it
pub record EndProgress (how : Answering) (config : Limits) (r0 r w0 w : Option (List ℕ)) (number : ℕ)
    (now : ScriptPlace) (count : ℕ) : Type 0 where
  pub input : List ℕ
  pub read : Consumes r0 r input
  pub fed : AreFed how config 1 first_place input w0 w number now
  pub counted : length input ≡ count

pub end_begins : (how : Answering) (config : Limits) (r w : Option (List ℕ))
    → EndProgress how config r r w w 1 first_place 0
end_begins how config r w = record {
  input = [];
  read = Consumes-none r;
  fed = fed_none how config 1 first_place w;
  counted = refl;
}

end_goes_on : (how : Answering) (config : Limits) (r0 r r' w0 w w' : Option (List ℕ)) (number number' : ℕ)
    (now next : ScriptPlace) (count : ℕ) (piece : List ℕ) → EndProgress how config r0 r w0 w number now count
    → Consumes r r' piece → AreFed how config number now piece w w' number' next
    → EndProgress how config r0 r' w0 w' number' next (count + length piece)
end_goes_on how config r0 r r' w0 w w' number number' now next count piece so_far read fed = record {
  input = so_far.input ++ piece;
  read = Consumes-trans r0 r r' so_far.input piece so_far.read read;
  fed = fed_after_fed how config 1 number number' first_place now next so_far.input piece w0 w w' so_far.fed fed;
  counted = length-append so_far.input piece ∙ ap (λ (n : ℕ). n + length piece) so_far.counted;
}

-- a flush changes nothing that is known
pub goes_on_flushed : {how : Answering} {config : Limits} {r0 r w0 w w' : Option (List ℕ)} {number : ℕ}
    {now : ScriptPlace} {count : ℕ} → EndProgress how config r0 r w0 w number now count → Keeps w w'
    → EndProgress how config r0 r w0 w' number now count
goes_on_flushed {how} {config} {w0} {w} {w'} so_far keeps = record {
  input = so_far.input;
  read = so_far.read;
  fed = record {
    goes_on = so_far.fed.goes_on;
    said = Appends-Keeps w0 w w' (output_for how 1 (fed_lines config first_place so_far.input)) so_far.fed.said keeps;
    stands = so_far.fed.stands;
    counted = so_far.fed.counted;
  };
  counted = so_far.counted;
}

-- the next line's number is at most one more than the bytes that are read
pub number_small : {how : Answering} {config : Limits} {r0 r w0 w : Option (List ℕ)} {number : ℕ} {now : ScriptPlace}
    {count : ℕ} → EndProgress how config r0 r w0 w number now count → number ≤ count + 1
number_small {config} so_far =
    omega (arith, so_far.counted, so_far.fed.counted, fed_short config first_place so_far.input)

-- ---- the ways to end

pub ends_by_answers : (how : Answering) (config : Limits) (e : ScriptError) (r0 r w0 w : Option (List ℕ))
    → IsOfAnswers e → IsCutOff how config r0 r w0 w → ScriptEnds {A = Unit {0}} how config (Err e) r0 r w0 w
ends_by_answers how config (Read why) r0 r w0 w is h = absurd is
ends_by_answers how config (Write why) r0 r w0 w is h = h
ends_by_answers how config Endless r0 r w0 w is h = absurd is
ends_by_answers how config Memory r0 r w0 w is h = h
ends_by_answers how config (Refused line) r0 r w0 w is h = absurd is

-- what holds among lines, said of them by another property
among_by : (P Q : List (List ℕ) → Type 0) (r0 r : Option (List ℕ)) → ((lines : List (List ℕ)) → P lines → Q lines)
    → StopsAmong P r0 r → StopsAmong Q r0 r
among_by P Q r0 r leads h = (h.0, h.1, by h.2)
  where
    by : HoldsOfLines P h.0 r → HoldsOfLines Q h.0 r
    by (inl p) = inl (leads (whole_lines (take 16777216 h.0)) p)
    by (inr p) = inr (p.0, p.1, leads (lines_of h.0) p.2)

-- lines among which answering stops with this fault
abbrev StopsAt : Answering → Limits → ScriptError → Option (List ℕ) → Option (List ℕ) → List (List ℕ) → Type 0
StopsAt how config e w0 w lines = StopsIn how 1 (answered_lines config (Tables []) lines) e w0 w

ends_by_stop : (how : Answering) (config : Limits) (e : ScriptError) (r0 r w0 w : Option (List ℕ))
    → StopsAmong (StopsAt how config e w0 w) r0 r → ScriptEnds {A = Unit {0}} how config (Err e) r0 r w0 w
ends_by_stop how config (Read why) r0 r w0 w h = absurd (nowhere h.2)
  where
    nowhere : HoldsOfLines (λ lines. ⊥) h.0 r → ⊥
    nowhere (inl p) = p
    nowhere (inr p) = p.2
ends_by_stop how config (Write why) r0 r w0 w h = h
ends_by_stop how config Endless r0 r w0 w h = absurd (nowhere h.2)
  where
    nowhere : HoldsOfLines (λ lines. ⊥) h.0 r → ⊥
    nowhere (inl p) = p
    nowhere (inr p) = p.2
ends_by_stop how config Memory r0 r w0 w h = h
ends_by_stop how config (Refused line) r0 r w0 w h = h

front_kept : (w0 w w' : Option (List ℕ)) (bs : List ℕ) → AppendsFront w0 w bs → Keeps w w' → AppendsFront w0 w' bs
front_kept w0 w w' bs h keeps = (h.0, h.1, h.2, Appends-Keeps w0 w w' h.0 h.3 keeps)

cut_kept : (how : Answering) (config : Limits) (r0 r w0 w w' : Option (List ℕ)) → IsCutOff how config r0 r w0 w
    → Keeps w w' → IsCutOff how config r0 r w0 w'
cut_kept how config r0 r w0 w w' h keeps =
    among_by (λ lines. AppendsFront w0 w (script_output how config lines))
    (λ lines. AppendsFront w0 w' (script_output how config lines)) r0 r
    (λ lines p. front_kept w0 w w' (script_output how config lines) p keeps) h

-- a flush after a fault changes nothing that is known
pub fault_kept : (how : Answering) (config : Limits) (e : ScriptError) (r0 r w0 w w' : Option (List ℕ))
    → ScriptEnds {A = Unit {0}} how config (Err e) r0 r w0 w → Keeps w w'
    → ScriptEnds {A = Unit {0}} how config (Err e) r0 r w0 w'
fault_kept how config (Read why) r0 r w0 w w' h keeps =
    (h.0, h.1, h.2, (h.3.0, Appends-Keeps w0 w w' (script_output how config (whole_lines h.0)) h.3.1 keeps))
fault_kept how config (Write why) r0 r w0 w w' h keeps = cut_kept how config r0 r w0 w w' h keeps
fault_kept how config Endless r0 r w0 w w' h keeps = (
  h.0,
  h.1,
  h.2,
  (
    h.3.0,
    Appends-Keeps w0 w w' (script_output how config (whole_lines (take 16777216 h.0))) h.3.1 keeps,
  ),
)
fault_kept how config Memory r0 r w0 w w' h keeps = cut_kept how config r0 r w0 w w' h keeps
fault_kept how config (Refused line) r0 r w0 w w' h keeps =
    among_by (λ lines. (script_stop how config lines ≡ Some line) × Appends w0 w (script_output how config lines))
    (λ lines. (script_stop how config lines ≡ Some line) × Appends w0 w' (script_output how config lines)) r0 r
    (λ lines p. (p.0, Appends-Keeps w0 w w' (script_output how config lines) p.1 keeps)) h

-- the flush after a refused line fails
pub refused_unflushed : (how : Answering) (config : Limits) (line : RefusedLine) (e : ScriptError)
    (r0 r w0 w w' : Option (List ℕ)) → IsStoppedAt how config line r0 r w0 w → Keeps w w' → IsOfAnswers e
    → ScriptEnds {A = Unit {0}} how config (Err e) r0 r w0 w'
refused_unflushed how config line e r0 r w0 w w' h keeps is =
    ends_by_answers how config e r0 r w0 w' is
    (among_by (λ lines. (script_stop how config lines ≡ Some line) × Appends w0 w (script_output how config lines))
    (λ lines. AppendsFront w0 w' (script_output how config lines)) r0 r
    (λ lines p. front_kept w0 w w' (script_output how config lines)
    (stream_appends_front w0 w (script_output how config lines) p.1) keeps) h)

-- at the end of the input the flush may fail
pub answered_kept : (how : Answering) (config : Limits) (result : Result (Unit {0}) ScriptError)
    (r0 r w0 w w' : Option (List ℕ)) → IsAnswered how config r0 r w0 w → Keeps w w' → IfErr result IsOfAnswers
    → ScriptEnds how config result r0 r w0 w'
answered_kept how config (Ok done) r0 r w0 w w' h keeps is =
    (h.0, h.1, h.2, h.3, (h.4.0, Appends-Keeps w0 w w' (script_output how config (lines_of h.0)) h.4.1 keeps))
answered_kept how config (Err e) r0 r w0 w w' h keeps is =
    let all : List ℕ = script_output how config (lines_of h.0) in
    ends_by_answers how config e r0 r w0 w' is
    (h.0, h.1, inr (h.2, h.3, front_kept w0 w w' all (stream_appends_front w0 w all h.4.1) keeps))

-- ---- what is read so far

-- the whole lines of an input are answered
whole_answered : (how : Answering) (config : Limits) (input : List ℕ) (w0 w : Option (List ℕ)) (number : ℕ)
    (now : ScriptPlace) → AreFed how config 1 first_place input w0 w number now
    → AreAnswered how config (whole_lines input) w0 w
whole_answered how config input w0 w number now fed = (
  subst (λ (early : List AnsweredLine). first_stop how 1 early ≡ None) (whole_is config input) fed.goes_on,
  subst (λ (early : List AnsweredLine). Appends w0 w (output_for how 1 early)) (whole_is config input) fed.said,
)

pub cut_between : {how : Answering} {config : Limits} {r0 r w0 w : Option (List ℕ)} {number : ℕ} {now : ScriptPlace}
    {count : ℕ} → EndProgress how config r0 r w0 w number now count → count ≤ 16777216 → IsCutOff how config r0 r w0 w
cut_between {how} {config} {r0} {r} {w0} {w} {number} {now} so_far within =
    let input : List ℕ = so_far.input in
    let whole : take 16777216 input ≡ input = take_all 16777216 input (omega (arith, so_far.counted)) in
    let said = (whole_answered how config input w0 w number now so_far.fed).1 in (
      input,
      so_far.read,
      inl (rw whole (stream_appends_front w0 w (script_output how config (whole_lines input)) said)),
    )

pub read_in_part : (r' : Option (List ℕ)) {how : Answering} {config : Limits} {r0 r w0 w : Option (List ℕ)}
    {number : ℕ} {now : ScriptPlace} {count : ℕ} → EndProgress how config r0 r w0 w number now count → count ≤ 16777216
    → Keeps r r' → IsReadInPart how config r0 r' w0 w
read_in_part r' {how} {config} {r0} {r} {w0} {w} {number} {now} so_far within keeps =
    let answered = whole_answered how config so_far.input w0 w number now so_far.fed in (
      so_far.input,
      Consumes-Keeps r0 r r' so_far.input so_far.read keeps,
      omega (arith, so_far.counted),
      answered,
    )

-- answering stops in a piece, or in its part within the limit
stop_in_piece : (how : Answering) (config : Limits) (e : ScriptError) (r0 r r' w0 w w' : Option (List ℕ)) (number : ℕ)
    (now : ScriptPlace) (count : ℕ) (piece more : List ℕ) → EndProgress how config r0 r w0 w number now count
    → Consumes r r' (piece ++ more) → StopsIn how number (fed_lines config now piece) e w w'
    → ((xs : List ℕ) → length xs ≡ count + length piece → take 16777216 (xs ++ more) ≡ xs)
    → ScriptEnds {A = Unit {0}} how config (Err e) r0 r' w0 w'
stop_in_piece how config e r0 r r' w0 w w' number now count piece more so_far read stops cut =
    let input : List ℕ = so_far.input in
    let early : List AnsweredLine = fed_lines config first_place input in
    let len : length (input ++ piece) ≡ count + length piece = length-append input piece
    ∙ ap (λ (n : ℕ). n + length piece) so_far.counted in
    let all : fed_lines config first_place (input ++ piece) ≡ early ++ fed_lines config now piece =
    fed-append config first_place input piece
    ∙ ap (λ (p : ScriptPlace). early ++ fed_lines config p piece) (sym so_far.fed.stands) in
    let here : StopsIn how 1 (early ++ fed_lines config now piece) e w0 w' =
    stops_later how 1 number early (fed_lines config now piece) e w0 w w' so_far.fed.goes_on so_far.fed.said
    so_far.fed.counted stops in
    ends_by_stop how config e r0 r' w0 w' (
      (input ++ piece) ++ more,
      rw (append_assoc input piece more) (Consumes-trans r0 r r' input (piece ++ more) so_far.read read),
      inl (rw (cut (input ++ piece) len)
          (subst (λ (t : List AnsweredLine). StopsIn how 1 t e w0 w')
          (sym all ∙ whole_is config (input ++ piece)) here)),
    )

pub stop_within : (r' w' : Option (List ℕ)) {how : Answering} {config : Limits} (e : ScriptError)
    {r0 r w0 w : Option (List ℕ)} {number : ℕ} {now : ScriptPlace} {count : ℕ} (n : ℕ) (piece : List ℕ)
    → EndProgress how config r0 r w0 w number now count → Consumes r r' (take n piece) → n ≤ length piece
    → StopsIn how number (fed_lines config now (take n piece)) e w w' → count + n ≤ 16777216
    → ScriptEnds {A = Unit {0}} how config (Err e) r0 r' w0 w'
stop_within r' w' {how} {config} e {r0} {r} {w0} {w} {number} {now} {count} n piece so_far read le stops within =
    let front : List ℕ = take n piece in
    let len : length front ≡ n = length-front n piece le in
    stop_in_piece how config e r0 r r' w0 w w' number now count front [] so_far (rw (append-nil front) read) stops
    (λ xs whole. ap (λ (t : List ℕ). take 16777216 t) (append-nil xs)
    ∙ take_all 16777216 xs (omega (arith, whole, len, within)))

pub stop_at_limit : (r' w' : Option (List ℕ)) {how : Answering} {config : Limits} (e : ScriptError)
    {r0 r w0 w : Option (List ℕ)} {number : ℕ} {now : ScriptPlace} {count : ℕ} (n : ℕ) (piece : List ℕ)
    → EndProgress how config r0 r w0 w number now count → Consumes r r' (take n piece) → n ≤ length piece
    → StopsIn how number (fed_lines config now (take (16777216 - count) piece)) e w w' → count ≤ 16777216
    → 16777216 - count < n → ScriptEnds {A = Unit {0}} how config (Err e) r0 r' w0 w'
stop_at_limit r' w' {how} {config} e {r0} {r} {w0} {w} {number} {now} {count} n piece so_far read le stops within
    past =
    let cut = cut_at_limit count n piece within past le in
    stop_in_piece how config e r0 r r' w0 w w' number now count (within_limit count piece) (over_limit count n piece)
    so_far (subst (λ (xs : List ℕ). Consumes r r' xs) cut.pieces read) stops
    (λ xs len. ap (λ (m : ℕ). take m (xs ++ over_limit count n piece)) (sym (len ∙ cut.full))
    ∙ take-append_seam xs (over_limit count n piece))

-- answering stops at the last line
pub stop_at_end : (r' w' : Option (List ℕ)) {how : Answering} {config : Limits} (e : ScriptError)
    {r0 r w0 w : Option (List ℕ)} {number : ℕ} {now : ScriptPlace} {count : ℕ}
    → EndProgress how config r0 r w0 w number now count
    → Consumes r r' [] → IsAtEnd r' → count ≤ 16777216 → StopsIn how number (line_at config now ∷ []) e w w'
    → ScriptEnds {A = Unit {0}} how config (Err e) r0 r' w0 w'
stop_at_end r' w' {how} {config} e {r0} {r} {w0} {w} {number} {now} so_far read end within stops =
    let input : List ℕ = so_far.input in
    let early : List AnsweredLine = fed_lines config first_place input in
    let here : StopsIn how 1 (early ++ line_at config now ∷ []) e w0 w' =
    stops_later how 1 number early (line_at config now ∷ []) e w0 w w' so_far.fed.goes_on so_far.fed.said
    so_far.fed.counted stops in
    let all : early ++ line_at config now ∷ [] ≡ answered_lines config (Tables []) (lines_of input) =
    ap (λ (p : ScriptPlace). early ++ line_at config p ∷ []) so_far.fed.stands ∙ all_is config input in
    ends_by_stop how config e r0 r' w0 w' (
      input,
      subst (λ (t : List ℕ). Consumes r0 r' t) (append-nil input) (Consumes-trans r0 r r' input [] so_far.read read),
      inr (end, omega (arith, so_far.counted), subst (λ (t : List AnsweredLine). StopsIn how 1 t e w0 w') all here),
    )

-- the last line is answered
pub all_answered : (r' w' : Option (List ℕ)) {how : Answering} {config : Limits} {r0 r w0 w : Option (List ℕ)}
    {number : ℕ} {now : ScriptPlace} {count : ℕ} → EndProgress how config r0 r w0 w number now count
    → Consumes r r' [] → IsAtEnd r' → count ≤ 16777216 → stops_after how (line_at config now) ≡ false
    → Appends w w' (numbered_answer how number (line_answer config now.stage now.line).0)
    → IsAnswered how config r0 r' w0 w'
all_answered r' w' {how} {config} {r0} {r} {w0} {w} {number} {now} so_far read end within quiet said =
    let input : List ℕ = so_far.input in
    let early : List AnsweredLine = fed_lines config first_place input in
    let x : AnsweredLine = line_at config now in
    let all : early ++ x ∷ [] ≡ answered_lines config (Tables []) (lines_of input) =
    ap (λ (p : ScriptPlace). early ++ line_at config p ∷ []) so_far.fed.stands ∙ all_is config input in
    let none : first_stop how 1 (early ++ x ∷ []) ≡ None = stop-append how 1 early (x ∷ []) so_far.fed.goes_on
    ∙ ap (λ (t : Bool). cond t (Some (refused_line (1 + length early) x)) None) quiet in
    let text : output_for how 1 (early ++ x ∷ []) ≡ output_for how 1 early ++ numbered_answer how number x.answer =
    output-append how 1 early (x ∷ []) so_far.fed.goes_on
    ∙ ap (λ (n : ℕ). output_for how 1 early ++ output_for how n (x ∷ [])) (sym so_far.fed.counted)
    ∙ ap (λ (t : List ℕ). output_for how 1 early ++ t)
    (output-cons how number x [] quiet ∙ append-nil (numbered_answer how number x.answer)) in
    let whole : Appends w0 w' (output_for how 1 (early ++ x ∷ [])) =
    rw text (Appends-trans w0 w w' (output_for how 1 early) (numbered_answer how number x.answer) so_far.fed.said said)
    in (
      input,
      subst (λ (t : List ℕ). Consumes r0 r' t) (append-nil input) (Consumes-trans r0 r r' input [] so_far.read read),
      end,
      omega (arith, so_far.counted),
      (
        subst (λ (t : List AnsweredLine). first_stop how 1 t ≡ None) all none,
        subst (λ (t : List AnsweredLine). Appends w0 w' (output_for how 1 t)) all whole,
      ),
    )

pub overruns : (r' : Option (List ℕ)) {how : Answering} {config : Limits} {r0 r w0 w w' : Option (List ℕ)}
    {number number' : ℕ} {now next : ScriptPlace} {count : ℕ} (n : ℕ) (bytes : List ℕ)
    → EndProgress how config r0 r w0 w number now count
    → Consumes r r' (take n bytes) → n ≤ length bytes
    → AreFed how config number now (take (16777216 - count) bytes) w w' number' next → count ≤ 16777216
    → 16777216 - count < n → IsOverrun how config r0 r' w0 w'
overruns r' {how} {config} {r0} {r} {w0} {w} {w'} {number} {number'} {now} {next} {count} n bytes so_far read le fed
    within past =
    let parts = cut_at_limit count n bytes within past le in
    let piece : List ℕ = within_limit count bytes in
    let more : List ℕ = over_limit count n bytes in
    let input : List ℕ = so_far.input in
    let all : List ℕ = (input ++ piece) ++ more in
    let both : AreFed how config 1 first_place (input ++ piece) w0 w' number' next =
    fed_after_fed how config 1 number number' first_place now next input piece w0 w w' so_far.fed fed in
    let answered = whole_answered how config (input ++ piece) w0 w' number' next both in
    let len : length (input ++ piece) ≡ 16777216 = length-append input piece
    ∙ ap (λ (n : ℕ). n + length piece) so_far.counted ∙ parts.full in
    let cut : take 16777216 all ≡ input ++ piece = ap (λ (n : ℕ). take n all) (sym len)
    ∙ take-append_seam (input ++ piece) more in (
      all,
      rw (append_assoc input piece more) (Consumes-trans r0 r r' input (piece ++ more) so_far.read
          (subst (λ (xs : List ℕ). Consumes r r' xs) parts.pieces read)),
      omega (arith, length-append (input ++ piece) more, len, parts.more),
      (rw cut answered.0, rw cut answered.1),
    )

-- ---- the turns of the loop over the pieces

pub goes_on_by : {how : Answering} {config : Limits} {r0 r r' w0 w w' : Option (List ℕ)} {number number' : ℕ}
    {now next : ScriptPlace} {count : ℕ} (n : ℕ) (piece : List ℕ) → EndProgress how config r0 r w0 w number now count
    → Consumes r r' (take n piece) → n ≤ length piece
    → AreFed how config number now (take n piece) w w' number' next
    → EndProgress how config r0 r' w0 w' number' next (count + n)
goes_on_by {how} {config} {r0} {r} {r'} {w0} {w} {w'} {number} {number'} {now} {next} {count} n piece so_far read le
    fed =
    subst (λ (m : ℕ). EndProgress how config r0 r' w0 w' number' next (count + m)) (length-front n piece le)
    (end_goes_on how config r0 r r' w0 w w' number number' now next count (take n piece) so_far read fed)
