-- The lines that end in an input, byte by byte, are its lines with line ends; with what comes after them they are all.
use Rattle.std.proofs.Common.{◌≡◌, ◌≢◌, ℕ, ◌<◌, ◌≤◌, suc, Bool, true, false, cond, eqb, ltb, List, [], ◌∷◌, ◌++◌}
use Rattle.std.proofs.Common.{length}
use Rattle.std.proofs.Common.{refl, sym, ap, ◌∙◌, append_assoc, arith, length-append, ◌⊎◌, inl, inr, length-take}
use Rattle.std.specs.List.{onto_first}
use Rattle.std.proofs.lemmas.Bool.{lt-ltb, le-ltb, ltb-true, ltb-false}
use Rattle.std.proofs.lemmas.Bool.Decides.{eqb_tells}
use Rattle.std.proofs.lemmas.List.{append-nil, take_all, take-append-le}
use Rattle.std.proofs.lemmas.List.Splits.{slice_split-cons_yes, slice_split-cons_no}
use Rattle.rb_desk.specs.Limits.{Limits}
use Rattle.rb_script.specs.declared.lines.Stage.{Stage}
use Rattle.rb_script.specs.declared.lines.Stage.TheVariants.{Tables}
use Rattle.rb_script.specs.Answering.{AnsweredLine, line_with_answer, answered_lines, kept_of_line}
use Rattle.rb_script.specs.Feeding.{fed_lines, line_at, line_ending}
use Rattle.rb_script.specs.Lines.{line_answer, most_of_line}
use Rattle.rb_script.specs.Output.{ScriptPlace, place_at, first_place, longer, byte_answer, place_after}
use Rattle.rb_script.specs.Script.{lines_of, whole_lines, without_last}
use Rattle.rb_script.proofs.whole_scripts.FedLaws.{ending-end, ending-other}
use Rattle.rb_script.proofs.whole_scripts.LineLaws.{LineIsKept, kept_answer, longer-yes, longer-not}
use Rattle.rb_script.proofs.whole_scripts.ScriptLaws.{byte_answer-end, byte_answer-other}

-- ---- what is kept of a line

kept_short : (line : List ℕ) → length line ≤ suc most_of_line → kept_of_line line ≡ line
kept_short line le = take_all (suc most_of_line) line le

line_is_long : (line : List ℕ) → (most_of_line < length line) ⊎ (length line ≤ most_of_line)
line_is_long line = by (ltb most_of_line (length line)) refl
  where
    by : (t : Bool) → ltb most_of_line (length line) ≡ t → (most_of_line < length line) ⊎ (length line ≤ most_of_line)
    by true e = inl (ltb-true most_of_line (length line) e)
    by false e = inr (ltb-false most_of_line (length line) e)

kept_is : (line : List ℕ) → LineIsKept (kept_of_line line) line
kept_is line = elim (line_is_long line) as (λ _. LineIsKept (kept_of_line line) line) [
  | inl lt ↦ inr (omega (arith, lt, length-take (suc most_of_line) line), lt)
  | inr le ↦ inl (kept_short line (omega (arith, le)))
]

-- a byte more of a line
kept_longer : (line : List ℕ) (b : ℕ) → longer (kept_of_line line) b ≡ kept_of_line (line ++ b ∷ [])
kept_longer line b = elim (line_is_long line) as (λ _. longer (kept_of_line line) b ≡ kept_of_line (line ++ b ∷ [])) [
  | inl lt ↦ longer-yes (kept_of_line line) b (lt-ltb most_of_line (length (kept_of_line line))
      (omega (arith, lt, length-take (suc most_of_line) line)))
      ∙ sym (take-append-le (suc most_of_line) line (b ∷ []) lt)
  | inr le ↦ ap (λ (k : List ℕ). longer k b) (kept_short line (omega (arith, le)))
      ∙ longer-not line b (le-ltb most_of_line (length line) le)
      ∙ sym (kept_short (line ++ b ∷ []) (omega (arith, le, length-append line (b ∷ []))))
]

-- a line is answered as what is kept of it
answered_kept_line : (config : Limits) (stage : Stage) (line : List ℕ)
    → line_answer config stage (kept_of_line line) ≡ line_answer config stage line
answered_kept_line config stage line = kept_answer config stage (kept_of_line line) line (kept_is line)

line_at_kept : (config : Limits) (stage : Stage) (line : List ℕ)
    → line_at config (place_at stage (kept_of_line line)) ≡ line_with_answer config stage line
line_at_kept config stage line =
    ap (λ (g : List ℕ × Stage). record { line = kept_of_line line; answer = g.0 }) (answered_kept_line config stage
    line)

-- ---- lines after the start of one

-- the lines with a text before the first
abbrev onto : List ℕ → List (List ℕ) → List (List ℕ)
onto front [] = front ∷ []
onto front (line ∷ lines) = (front ++ line) ∷ lines

onto_byte : (front : List ℕ) (b : ℕ) (lines : List (List ℕ)) → onto (front ++ b ∷ []) lines
    ≡ onto front (onto_first b lines)
onto_byte front b [] = refl
onto_byte front b (line ∷ lines) = ap (λ (l : List ℕ). l ∷ lines) (append_assoc front (b ∷ []) line)

onto_none : (text : List ℕ) → onto [] (lines_of text) ≡ lines_of text
onto_none [] = refl
onto_none (b ∷ bs) = by (eqb b 10) (lines_of bs)
  where
    by : (t : Bool) (lines : List (List ℕ)) → onto [] (cond t ([] ∷ lines) (onto_first b lines))
        ≡ cond t ([] ∷ lines) (onto_first b lines)
    by true lines = refl
    by false [] = refl
    by false (line ∷ lines) = refl

-- a line before others, of which there is one at least
without_last_more : (line front : List ℕ) (lines : List (List ℕ)) → without_last (line ∷ onto front lines)
    ≡ line ∷ without_last (onto front lines)
without_last_more line front [] = refl
without_last_more line front (next ∷ lines) = refl

-- of bytes after the start of a line: the lines that end, and all
record AreLines (config : Limits) (stage : Stage) (front bytes : List ℕ) : Type 0 where
  whole : fed_lines config (place_at stage (kept_of_line front)) bytes
      ≡ answered_lines config stage (without_last (onto front (lines_of bytes)))
  all : fed_lines config (place_at stage (kept_of_line front)) bytes
      ++ line_at config (place_after config (place_at stage (kept_of_line front)) bytes) ∷ []
      ≡ answered_lines config stage (onto front (lines_of bytes))

lines_none : (config : Limits) (stage : Stage) (front : List ℕ) → AreLines config stage front []
unfolding fed_lines place_after
lines_none config stage front = record {
  whole = refl;
  all = ap (λ (a : AnsweredLine). a ∷ []) (line_at_kept config stage front)
      ∙ ap (λ (l : List ℕ). line_with_answer config stage l ∷ []) (sym (append-nil front));
}

fed-cons : (config : Limits) (place : ScriptPlace) (b : ℕ) (bs : List ℕ) → fed_lines config place (b ∷ bs)
    ≡ line_ending config place b ++ fed_lines config (byte_answer config place b).1 bs
unfolding fed_lines
fed-cons config place b bs = refl

after-cons : (config : Limits) (place : ScriptPlace) (b : ℕ) (bs : List ℕ) → place_after config place (b ∷ bs)
    ≡ place_after config (byte_answer config place b).1 bs
unfolding place_after
after-cons config place b bs = refl

-- a line ends
lines_end : (config : Limits) (stage : Stage) (front : List ℕ) (b : ℕ) (bs : List ℕ) → b ≡ 10 → eqb b 10 ≡ true
    → AreLines config (line_answer config stage front).1 [] bs → AreLines config stage front (b ∷ bs)
lines_end config stage front b bs is test later =
    let now : ScriptPlace = place_at stage (kept_of_line front) in
    let next : ScriptPlace = place_at (line_answer config stage front).1 [] in
    let this : AnsweredLine = line_with_answer config stage front in
    let stands : (byte_answer config now b).1 ≡ next =
    ap (λ (g : List ℕ × ScriptPlace). g.1) (byte_answer-end config now b is)
    ∙ ap (λ (g : List ℕ × Stage). place_at g.1 []) (answered_kept_line config stage front) in
    let ends : line_ending config now b ≡ this ∷ [] = ending-end config now b is
    ∙ ap (λ (a : AnsweredLine). a ∷ []) (line_at_kept config stage front) in
    let fed : fed_lines config now (b ∷ bs) ≡ this ∷ fed_lines config next bs = fed-cons config now b bs
    ∙ ap (λ (t : List AnsweredLine). t ++ fed_lines config (byte_answer config now b).1 bs) ends
    ∙ ap (λ (p : ScriptPlace). this ∷ fed_lines config p bs) stands in
    let after : place_after config now (b ∷ bs) ≡ place_after config next bs = after-cons config now b bs
    ∙ ap (λ (p : ScriptPlace). place_after config p bs) stands in
    let lines : onto front (lines_of (b ∷ bs)) ≡ front ∷ onto [] (lines_of bs) =
    ap (onto front) (slice_split-cons_yes (λ byte. eqb byte 10) b bs test)
    ∙ ap (λ (l : List ℕ). l ∷ lines_of bs) (append-nil front)
    ∙ ap (λ (ls : List (List ℕ)). front ∷ ls) (sym (onto_none bs)) in
    record {
      whole = fed ∙ ap (λ (t : List AnsweredLine). this ∷ t) later.whole
          ∙ sym (ap (answered_lines config stage) (ap without_last lines ∙ without_last_more front [] (lines_of bs)));
      all = ap (λ (t : List AnsweredLine). t ++ line_at config (place_after config now (b ∷ bs)) ∷ []) fed
          ∙ ap (λ (p : ScriptPlace). this ∷ (fed_lines config next bs ++ line_at config p ∷ [])) after
          ∙ ap (λ (t : List AnsweredLine). this ∷ t) later.all ∙ sym (ap (answered_lines config stage) lines);
    }

-- a line goes on
lines_go_on : (config : Limits) (stage : Stage) (front : List ℕ) (b : ℕ) (bs : List ℕ) → b ≢ 10 → eqb b 10 ≡ false
    → AreLines config stage (front ++ b ∷ []) bs → AreLines config stage front (b ∷ bs)
lines_go_on config stage front b bs isnt test later =
    let now : ScriptPlace = place_at stage (kept_of_line front) in
    let next : ScriptPlace = place_at stage (kept_of_line (front ++ b ∷ [])) in
    let stands : (byte_answer config now b).1 ≡ next =
    ap (λ (g : List ℕ × ScriptPlace). g.1) (byte_answer-other config now b isnt)
    ∙ ap (λ (l : List ℕ). place_at stage l) (kept_longer front b) in
    let fed : fed_lines config now (b ∷ bs) ≡ fed_lines config next bs = fed-cons config now b bs
    ∙ ap (λ (t : List AnsweredLine). t ++ fed_lines config (byte_answer config now b).1 bs) (ending-other config now b
    isnt)
    ∙ ap (λ (p : ScriptPlace). fed_lines config p bs) stands in
    let after : place_after config now (b ∷ bs) ≡ place_after config next bs = after-cons config now b bs
    ∙ ap (λ (p : ScriptPlace). place_after config p bs) stands in
    let lines : onto front (lines_of (b ∷ bs)) ≡ onto (front ++ b ∷ []) (lines_of bs) =
    ap (onto front) (slice_split-cons_no (λ byte. eqb byte 10) b bs test) ∙ sym (onto_byte front b (lines_of bs)) in
    record {
      whole = fed ∙ later.whole
          ∙ sym (ap (λ (ls : List (List ℕ)). answered_lines config stage (without_last ls)) lines);
      all = ap (λ (t : List AnsweredLine). t ++ line_at config (place_after config now (b ∷ bs)) ∷ []) fed
          ∙ ap (λ (p : ScriptPlace). fed_lines config next bs ++ line_at config p ∷ []) after
          ∙ later.all ∙ sym (ap (answered_lines config stage) lines);
    }

fed_are_lines : (config : Limits) (stage : Stage) (front bytes : List ℕ) → AreLines config stage front bytes
fed_are_lines config stage front [] = lines_none config stage front
fed_are_lines config stage front (b ∷ bs) =
    by (λ s f. fed_are_lines config s f bs) (eqb_tells b 10)
  where
    by : ((s : Stage) (f : List ℕ) → AreLines config s f bs)
        → ((eqb b 10 ≡ true) × (b ≡ 10)) ⊎ ((eqb b 10 ≡ false) × (b ≢ 10)) → AreLines config stage front (b ∷ bs)
    by later (inl same) = lines_end config stage front b bs same.1 same.0 (later (line_answer config stage front).1 [])
    by later (inr other) = lines_go_on config stage front b bs other.1 other.0 (later stage (front ++ b ∷ []))

-- the lines that end in an input, and all its lines
pub whole_is : (config : Limits) (input : List ℕ) → fed_lines config first_place input
    ≡ answered_lines config (Tables []) (whole_lines input)
whole_is config input = (fed_are_lines config (Tables []) [] input).whole
    ∙ ap (λ (ls : List (List ℕ)). answered_lines config (Tables []) (without_last ls)) (onto_none input)

pub all_is : (config : Limits) (input : List ℕ) → fed_lines config first_place input
    ++ line_at config (place_after config first_place input) ∷ []
    ≡ answered_lines config (Tables []) (lines_of input)
all_is config input = (fed_are_lines config (Tables []) [] input).all
    ∙ ap (answered_lines config (Tables [])) (onto_none input)
