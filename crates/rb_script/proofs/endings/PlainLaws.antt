-- Answers without numbers, to every line, are those of `answers` and `written`; and where a script's lines stand in it.
use Rattle.std.proofs.Common.{◌≡◌, ℕ, suc, Bool, true, false, cond, eqb, List, [], ◌∷◌, ◌++◌, None}
use Rattle.std.proofs.Common.{refl, sym, ap, ◌∙◌, append_assoc, inl, inr}
use Rattle.std.specs.List.{AllByRecursion, onto_first}
use Rattle.std.proofs.lemmas.Bool.Decides.{eqb_tells}
use Rattle.std.proofs.lemmas.List.{append-nil}
use Rattle.std.proofs.lemmas.List.Splits.{slice_split-cons_yes, slice_split-cons_no}
use Rattle.rb_desk.specs.Limits.{Limits}
use Rattle.rb_script.specs.declared.answering.Answering.{Answering}
use Rattle.rb_script.specs.declared.lines.Stage.{Stage}
use Rattle.rb_script.specs.declared.lines.Stage.TheVariants.{Tables}
use Rattle.rb_script.specs.Answering.{AnsweredLine, plainly, line_with_answer, answered_lines, stops_after, up_to_stop}
use Rattle.rb_script.specs.Answering.{numbered_answer, numbered_answers, output_for, first_stop, script_output}
use Rattle.rb_script.specs.Answering.{script_stop}
use Rattle.rb_script.specs.Answering.{lines_reached}
use Rattle.rb_script.specs.Feeding.{fed_lines, line_at, line_ending}
use Rattle.rb_script.specs.Lines.{line_answer}
use Rattle.rb_script.specs.Output.{ScriptPlace, first_place, longer, ends_line, byte_answer, written, place_after}
use Rattle.rb_script.specs.Output.{last_answer, answers}
use Rattle.rb_script.specs.Script.{IsLine, ended_lines, lines_of, whole_lines}
use Rattle.rb_script.proofs.whole_scripts.WholeLaws.{whole_is, all_is}

-- ---- plainly

plain_answer : (n : ℕ) (answer : List ℕ) → numbered_answer plainly n answer ≡ answer
plain_answer n [] = refl
plain_answer n (b ∷ bs) = refl

-- the answers alone
abbrev answers_alone : List AnsweredLine → List ℕ
answers_alone [] = []
answers_alone (a ∷ xs) = a.answer ++ answers_alone xs

plain_output : (n : ℕ) (xs : List AnsweredLine) → output_for plainly n xs ≡ answers_alone xs
plain_output n [] = refl
plain_output n (a ∷ xs) = ap (λ (t : List ℕ). t ++ output_for plainly (suc n) xs) (plain_answer n a.answer)
    ∙ ap (λ (t : List ℕ). a.answer ++ t) (plain_output (suc n) xs)

plain_stop : (n : ℕ) (xs : List AnsweredLine) → first_stop plainly n xs ≡ None
plain_stop n [] = refl
plain_stop n (a ∷ xs) = plain_stop (suc n) xs

alone-append : (xs bs : List AnsweredLine) → answers_alone (xs ++ bs) ≡ answers_alone xs ++ answers_alone bs
alone-append [] bs = refl
alone-append (a ∷ xs) bs = ap (λ (t : List ℕ). a.answer ++ t) (alone-append xs bs)
    ∙ sym (append_assoc a.answer (answers_alone xs) (answers_alone bs))

-- a byte's answer is that of the line that ends with it
byte_alone : (config : Limits) (place : ScriptPlace) (b : ℕ) → answers_alone (line_ending config place b)
    ≡ (byte_answer config place b).0
byte_alone config place b = by (eqb b 10)
  where
    by : (t : Bool) → answers_alone (cond t (line_at config place ∷ []) [])
        ≡ (cond t (ends_line (line_answer config place.stage place.line))
        ([], record place { line = longer place.line b })).0
    by true = append-nil (line_answer config place.stage place.line).0
    by false = refl

fed_alone : (config : Limits) (place : ScriptPlace) (bytes : List ℕ) → answers_alone (fed_lines config place bytes)
    ≡ written config place bytes
unfolding fed_lines written
fed_alone config place [] = refl
fed_alone config place (b ∷ bs) =
    let next : ScriptPlace = (byte_answer config place b).1 in
    alone-append (line_ending config place b) (fed_lines config next bs)
    ∙ ap (λ (t : List ℕ). t ++ answers_alone (fed_lines config next bs)) (byte_alone config place b)
    ∙ ap (λ (t : List ℕ). (byte_answer config place b).0 ++ t) (fed_alone config next bs)

pub plain_whole : (config : Limits) (input : List ℕ) → script_output plainly config (whole_lines input)
    ≡ written config first_place input
plain_whole config input = ap (output_for plainly 1) (sym (whole_is config input))
    ∙ plain_output 1 (fed_lines config first_place input) ∙ fed_alone config first_place input

pub plain_all : (config : Limits) (input : List ℕ) → script_output plainly config (lines_of input)
    ≡ answers config input
plain_all config input =
    let xs : List AnsweredLine = fed_lines config first_place input in
    let last : AnsweredLine = line_at config (place_after config first_place input) in
    ap (output_for plainly 1) (sym (all_is config input)) ∙ plain_output 1 (xs ++ last ∷ [])
    ∙ alone-append xs (last ∷ []) ∙ ap (λ (t : List ℕ). answers_alone xs ++ t) (append-nil last.answer)
    ∙ ap (λ (t : List ℕ). t ++ last_answer config (place_after config first_place input))
    (fed_alone config first_place input)

pub plain_stops : (config : Limits) (lines : List (List ℕ)) → script_stop plainly config lines ≡ None
plain_stops config lines = plain_stop 1 (answered_lines config (Tables []) lines)

-- ---- the lines of a script

one_line : (line : List ℕ) → IsLine line → lines_of line ≡ line ∷ []
one_line [] fits = refl
one_line (b ∷ bs) fits = elim (eqb_tells b 10) as (λ _. lines_of (b ∷ bs) ≡ (b ∷ bs) ∷ []) [
  | inl same ↦ absurd (fits.0 same.1)
  | inr other ↦ slice_split-cons_no (λ byte. eqb byte 10) b bs other.0 ∙ ap (onto_first b) (one_line bs fits.1)
]

line_before : (line text : List ℕ) → IsLine line → lines_of (line ++ 10 ∷ text) ≡ line ∷ lines_of text
line_before [] text fits = slice_split-cons_yes (λ byte. eqb byte 10) 10 text refl
line_before (b ∷ bs) text fits = elim (eqb_tells b 10)
    as (λ _. lines_of ((b ∷ bs) ++ 10 ∷ text) ≡ (b ∷ bs) ∷ lines_of text) [
      | inl same ↦ absurd (fits.0 same.1)
      | inr other ↦ slice_split-cons_no (λ byte. eqb byte 10) b (bs ++ 10 ∷ text) other.0
          ∙ ap (onto_first b) (line_before bs text fits.1)
    ]

pub lines_again : (lines : List (List ℕ)) (last : List ℕ) → AllByRecursion IsLine lines → IsLine last
    → lines_of (ended_lines lines ++ last) ≡ lines ++ last ∷ []
lines_again [] last fits ends = one_line last ends
lines_again (line ∷ lines) last fits ends =
    ap lines_of (append_assoc line (10 ∷ ended_lines lines) last)
    ∙ line_before line (ended_lines lines ++ last) fits.0
    ∙ ap (λ (ls : List (List ℕ)). line ∷ ls) (lines_again lines last fits.1 ends)

-- ---- the lines up to the one at which a script stops

reached_are : (how : Answering) (config : Limits) (stage : Stage) (lines : List (List ℕ))
    → up_to_stop how (answered_lines config stage lines)
    ≡ answered_lines config stage (lines_reached how config stage lines)
reached_are how config stage [] = refl
reached_are how config stage (line ∷ lines) =
    by (stops_after how (line_with_answer config stage line)) (reached_are how config (line_answer config stage line).1
    lines)
  where
    next : Stage
    next = (line_answer config stage line).1

    by : (t : Bool)
        → up_to_stop how (answered_lines config next lines)
        ≡ answered_lines config next (lines_reached how config next lines)
        → cond t (line_with_answer config stage line ∷ [])
        (line_with_answer config stage line ∷ up_to_stop how (answered_lines config next lines))
        ≡ answered_lines config stage (cond t (line ∷ []) (line ∷ lines_reached how config next lines))
    by true later = refl
    by false later = ap (λ (t : List AnsweredLine). line_with_answer config stage line ∷ t) later

pub reached_output : (how : Answering) (config : Limits) (lines : List (List ℕ)) → script_output how config lines
    ≡ numbered_answers how 1 (answered_lines config (Tables []) (lines_reached how config (Tables []) lines))
reached_output how config lines = ap (numbered_answers how 1) (reached_are how config (Tables []) lines)
