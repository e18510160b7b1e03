-- The lines that end in bytes: more bytes, a line's end, a byte of a line.
use Rattle.std.proofs.Common.{◌≡◌, ℕ, ◌+◌, ◌<◌, ◌≤◌, suc, Bool, true, false, cond, eqb, List, [], ◌∷◌, ◌++◌, length}
use Rattle.std.proofs.Common.{take, drop}
use Rattle.std.proofs.Common.{Option, Some, None, refl, sym, ap, subst, ◌∙◌, append_assoc, arith, length-append, ◌≢◌}
use Rattle.std.proofs.Common.{inl, inr, get_or, drop-cons, take-append-drop, length-take}
use Rattle.std.proofs.lemmas.Bool.Decides.{eqb_tells}
use Rattle.std.proofs.lemmas.List.{append-nil, take_more}
use Rattle.std.specs.Io.KnownBytes.{Appends}
use Rattle.rb_desk.specs.Limits.{Limits}
use Rattle.rb_script.specs.declared.answering.Answering.{Answering}
use Rattle.rb_script.specs.declared.fault.ScriptError.{ScriptError}
use Rattle.rb_script.specs.declared.fault.ScriptError.TheVariants.{Memory}
use Rattle.rb_script.specs.declared.lines.Stage.{Stage}
use Rattle.rb_script.specs.Answering.{AnsweredLine, stops_after, numbered_answer, output_for, refused_line, first_stop}
use Rattle.rb_script.specs.Feeding.{AreFed, StopsIn, fed_lines, line_at, line_ending}
use Rattle.rb_script.specs.Lines.{line_answer}
use Rattle.rb_script.specs.Output.{ScriptPlace, place_at, longer, byte_answer, place_after}
use Rattle.rb_script.proofs.endings.StreamLaws.{Appends-none, Appends-trans, stream_appends_front}
use Rattle.rb_script.proofs.endings.OutputLaws.{output-cons, output-append, stop-append, stops_longer, stops_later}
use Rattle.rb_script.proofs.whole_scripts.ScriptLaws.{after-append, after-one, byte_answer-end, byte_answer-other}

pub fed-append : (config : Limits) (place : ScriptPlace) (xs ys : List ℕ) → fed_lines config place (xs ++ ys)
    ≡ fed_lines config place xs ++ fed_lines config (place_after config place xs) ys
unfolding fed_lines place_after
fed-append config place [] ys = refl
fed-append config place (x ∷ xs) ys =
    let next : ScriptPlace = (byte_answer config place x).1 in
    ap (λ (t : List AnsweredLine). line_ending config place x ++ t) (fed-append config next xs ys)
    ∙ sym (append_assoc (line_ending config place x) (fed_lines config next xs)
    (fed_lines config (place_after config next xs) ys))

fed-of_one : (config : Limits) (place : ScriptPlace) (x : ℕ) → fed_lines config place (x ∷ [])
    ≡ line_ending config place x
unfolding fed_lines
fed-of_one config place x = append-nil (line_ending config place x)

pub ending-end : (config : Limits) (place : ScriptPlace) (b : ℕ) → b ≡ 10 → line_ending config place b
    ≡ line_at config place ∷ []
ending-end config place b is =
    elim (eqb_tells b 10) as (λ _. line_ending config place b ≡ line_at config place ∷ []) [
      | inl p ↦ ap (λ (t : Bool). cond t (line_at config place ∷ []) []) p.0
      | inr q ↦ absurd (q.1 is)
    ]

pub ending-other : (config : Limits) (place : ScriptPlace) (b : ℕ) → b ≢ 10 → line_ending config place b ≡ []
ending-other config place b isnt =
    elim (eqb_tells b 10) as (λ _. line_ending config place b ≡ []) [
      | inl p ↦ absurd (isnt p.1)
      | inr q ↦ ap (λ (t : Bool). cond t (line_at config place ∷ []) []) q.0
    ]

-- no more lines end than there are bytes
ending_short : (config : Limits) (place : ScriptPlace) (t : Bool) → length (cond t (line_at config place ∷ []) []) ≤ 1
ending_short config place true = omega arith
ending_short config place false = omega arith

pub fed_short : (config : Limits) (place : ScriptPlace) (bytes : List ℕ) → length (fed_lines config place bytes)
    ≤ length bytes
unfolding fed_lines
fed_short config place [] = omega arith
fed_short config place (b ∷ bs) =
    let next : ScriptPlace = (byte_answer config place b).1 in
    omega (
      arith,
      length-append (line_ending config place b) (fed_lines config next bs),
      ending_short config place (eqb b 10),
      fed_short config next bs,
    )

-- ---- bytes so far

pub fed_none : (how : Answering) (config : Limits) (n : ℕ) (place : ScriptPlace) (w : Option (List ℕ))
    → AreFed how config n place [] w w n place
unfolding fed_lines place_after
fed_none how config n place w = record { goes_on = refl; said = Appends-none w; stands = refl; counted = omega arith }

-- bytes after others
pub fed_after_fed : (how : Answering) (config : Limits) (n m k : ℕ) (place now next : ScriptPlace) (xs ys : List ℕ)
    (w0 w w' : Option (List ℕ)) → AreFed how config n place xs w0 w m now → AreFed how config m now ys w w' k next
    → AreFed how config n place (xs ++ ys) w0 w' k next
fed_after_fed how config n m k place now next xs ys w0 w w' first second =
    let early : List AnsweredLine = fed_lines config place xs in
    let bs : List AnsweredLine = fed_lines config now ys in
    let all : fed_lines config place (xs ++ ys) ≡ early ++ bs = fed-append config place xs ys
    ∙ ap (λ (p : ScriptPlace). early ++ fed_lines config p ys) (sym first.stands) in
    let text : output_for how n (early ++ bs) ≡ output_for how n early ++ output_for how m bs =
    output-append how n early bs first.goes_on
    ∙ ap (λ (i : ℕ). output_for how n early ++ output_for how i bs) (sym first.counted) in
    record {
      goes_on = rw all (stop-append how n early bs first.goes_on
          ∙ ap (λ (i : ℕ). first_stop how i bs) (sym first.counted) ∙ second.goes_on);
      said = rw (all, text)
          (Appends-trans w0 w w' (output_for how n early) (output_for how m bs) first.said second.said);
      stands = second.stands ∙ ap (λ (p : ScriptPlace). place_after config p ys) first.stands
          ∙ sym (after-append config place xs ys);
      counted = rw all (omega (arith, first.counted, second.counted, length-append early bs));
    }

-- one byte: a line's end
fed_end : (how : Answering) (config : Limits) (n m : ℕ) (now next : ScriptPlace) (b : ℕ) (w w' : Option (List ℕ))
    → b ≡ 10 → stops_after how (line_at config now) ≡ false
    → Appends w w' (numbered_answer how n (line_answer config now.stage now.line).0)
    → next ≡ place_at (line_answer config now.stage now.line).1 [] → m ≡ n + 1
    → AreFed how config n now (b ∷ []) w w' m next
fed_end how config n m now next b w w' is quiet said stands counts =
    let x : AnsweredLine = line_at config now in
    let all : fed_lines config now (b ∷ []) ≡ x ∷ [] = fed-of_one config now b ∙ ending-end config now b is in
    let text : output_for how n (x ∷ []) ≡ numbered_answer how n x.answer = output-cons how n x [] quiet
    ∙ append-nil (numbered_answer how n x.answer) in
    record {
      goes_on = rw all (ap (λ (t : Bool). cond t (Some (refused_line n x)) None) quiet);
      said = rw (all, text) said;
      stands = stands ∙ ap (λ (g : List ℕ × ScriptPlace). g.1) (sym (byte_answer-end config now b is))
          ∙ sym (after-one config now b);
      counted = rw all (omega (arith, counts));
    }

-- one byte of a line
fed_byte : (how : Answering) (config : Limits) (n : ℕ) (stage : Stage) (line longer_line : List ℕ) (b : ℕ)
    (w : Option (List ℕ)) → b ≢ 10 → longer_line ≡ longer line b
    → AreFed how config n (place_at stage line) (b ∷ []) w w n (place_at stage longer_line)
fed_byte how config n stage line longer_line b w isnt grown =
    let now : ScriptPlace = place_at stage line in
    let all : fed_lines config now (b ∷ []) ≡ [] = fed-of_one config now b ∙ ending-other config now b isnt in
    record {
      goes_on = rw all refl;
      said = rw all (Appends-none w);
      stands = ap (λ (l : List ℕ). place_at stage l) grown
          ∙ ap (λ (g : List ℕ × ScriptPlace). g.1) (sym (byte_answer-other config now b isnt))
          ∙ sym (after-one config now b);
      counted = rw all (omega arith);
    }

-- ---- the turns of the loop over the bytes

pub line_taken : (how : Answering) (config : Limits) (n m k : ℕ) (place now next : ScriptPlace) (bytes : List ℕ) (i : ℕ)
    (w0 w w' : Option (List ℕ)) → i < length bytes
    → AreFed how config n place (take i bytes) w0 w m now → get_or bytes i 0 ≡ 10
    → stops_after how (line_at config now) ≡ false
    → Appends w w' (numbered_answer how m (line_answer config now.stage now.line).0)
    → next ≡ place_at (line_answer config now.stage now.line).1 [] → k ≡ m + 1
    → AreFed how config n place (take (i + 1) bytes) w0 w' k next
line_taken how config n m k place now next bytes i w0 w w' lt fed is quiet said stands counts =
    rw (take_more bytes i 0 lt)
    (fed_after_fed how config n m k place now next (take i bytes) (get_or bytes i 0 ∷ []) w0 w w' fed
    (fed_end how config m k now next (get_or bytes i 0) w w' is quiet said stands counts))

pub byte_taken : (how : Answering) (config : Limits) (n m : ℕ) (place : ScriptPlace) (bytes : List ℕ) (i : ℕ)
    (stage : Stage) (line line' : List ℕ) (w0 w : Option (List ℕ)) → i < length bytes
    → AreFed how config n place (take i bytes) w0 w m (place_at stage line) → get_or bytes i 0 ≢ 10
    → line' ≡ longer line (get_or bytes i 0)
    → AreFed how config n place (take (i + 1) bytes) w0 w m (place_at stage line')
byte_taken how config n m place bytes i stage line line' w0 w lt fed isnt grown =
    rw (take_more bytes i 0 lt)
    (fed_after_fed how config n m m place (place_at stage line) (place_at stage line') (take i bytes)
    (get_or bytes i 0 ∷ []) w0 w w fed (fed_byte how config m stage line line' (get_or bytes i 0) w isnt grown))

split_at_byte : (bytes : List ℕ) (i : ℕ) → i < length bytes → take i bytes ++ get_or bytes i 0 ∷ drop (suc i) bytes
    ≡ bytes
split_at_byte bytes i lt = ap (λ (t : List ℕ). take i bytes ++ t) (sym (drop-cons bytes i 0 lt))
    ∙ take-append-drop i bytes

-- answering stops at a line
pub line_stops : (how : Answering) (config : Limits) (n m : ℕ) (place now : ScriptPlace) (bytes : List ℕ) (i : ℕ)
    (e : ScriptError) (w0 w w' : Option (List ℕ)) → i < length bytes
    → AreFed how config n place (take i bytes) w0 w m now → get_or bytes i 0 ≡ 10
    → StopsIn how m (line_at config now ∷ []) e w w' → StopsIn how n (fed_lines config place bytes) e w0 w'
line_stops how config n m place now bytes i e w0 w w' lt fed is stops =
    let b : ℕ = get_or bytes i 0 in
    let before : List ℕ = take i bytes in
    let rest : List ℕ = drop (suc i) bytes in
    let early : List AnsweredLine = fed_lines config place before in
    let x : AnsweredLine = line_at config now in
    let later : List AnsweredLine = fed_lines config (place_after config now (b ∷ [])) rest in
    let parts : fed_lines config now (b ∷ rest) ≡ x ∷ later = fed-append config now (b ∷ []) rest
    ∙ ap (λ (t : List AnsweredLine). t ++ later) (fed-of_one config now b ∙ ending-end config now b is) in
    let all : fed_lines config place bytes ≡ early ++ x ∷ later =
    ap (fed_lines config place) (sym (split_at_byte bytes i lt)) ∙ fed-append config place before (b ∷ rest)
    ∙ ap (λ (p : ScriptPlace). early ++ fed_lines config p (b ∷ rest)) (sym fed.stands)
    ∙ ap (λ (t : List AnsweredLine). early ++ t) parts in
    subst (λ (t : List AnsweredLine). StopsIn how n t e w0 w') (sym all)
    (stops_later how n m early (x ∷ later) e w0 w w' fed.goes_on fed.said fed.counted
    (stops_longer how m (x ∷ []) later e w w' stops))

-- memory runs out between two lines
pub byte_stops : (how : Answering) (config : Limits) (n m : ℕ) (place now : ScriptPlace) (bytes : List ℕ) (i : ℕ)
    (w0 w : Option (List ℕ)) → AreFed how config n place (take i bytes) w0 w m now
    → StopsIn how n (fed_lines config place bytes) Memory w0 w
byte_stops how config n m place now bytes i w0 w fed =
    let before : List ℕ = take i bytes in
    let early : List AnsweredLine = fed_lines config place before in
    let later : List AnsweredLine = fed_lines config (place_after config place before) (drop i bytes) in
    let all : fed_lines config place bytes ≡ early ++ later =
    ap (fed_lines config place) (sym (take-append-drop i bytes)) ∙ fed-append config place before (drop i bytes) in
    subst (λ (t : List AnsweredLine). StopsIn how n t Memory w0 w) (sym all)
    (stops_longer how n early later Memory w0 w (stream_appends_front w0 w (output_for how n early) fed.said))

-- the number of the next line is small enough
pub number_bounded : (how : Answering) (config : Limits) (n m : ℕ) (place now : ScriptPlace) (bytes : List ℕ) (i : ℕ)
    (w0 w : Option (List ℕ)) → i ≤ length bytes → AreFed how config n place (take i bytes) w0 w m now → m ≤ n + i
number_bounded how config n m place now bytes i w0 w le fed =
    omega (arith, fed.counted, fed_short config place (take i bytes), length-take i bytes)
