-- The answers to a script are those to its lines, one after another.
use Rattle.std.proofs.Common.{◌≡◌, ℕ, ◌<◌, Bool, true, false, cond, ltb, List, [], ◌∷◌, ◌++◌, length, refl, sym, ap}
use Rattle.std.proofs.Common.{subst, ◌∙◌, append_assoc, arith, length-append, ◌⊎◌, inl, inr, codes}
use Rattle.std.specs.List.{AllByRecursion}
use Rattle.std.proofs.lemmas.List.{append-nil}
use Rattle.std.proofs.lemmas.Bool.{lt-ltb, ltb-true}
use Rattle.rb_desk.specs.Limits.{Limits}
use Rattle.rb_script.specs.declared.lines.Stage.{Stage}
use Rattle.rb_script.specs.declared.lines.Stage.TheVariants.{Tables}
use Rattle.rb_script.specs.Forms.{form_of}
use Rattle.rb_script.specs.Lines.{most_of_line, line_of, line_answer, form_answer}
use Rattle.rb_script.specs.Output.{ScriptPlace, place_at, longer, byte_answer, ends_line, written, place_after}
use Rattle.rb_script.specs.Output.{last_answer, answers}
use Rattle.rb_script.specs.Script.{IsLine, ended_lines, lines_answers}
use Rattle.rb_script.proofs.whole_scripts.ScriptLaws.{written-append, after-append, byte_answer-end, byte_answer-other}

-- what is kept of a line behind what was kept before
abbrev line_grown : List ℕ → List ℕ → List ℕ
line_grown kept [] = kept
line_grown kept (b ∷ bs) = line_grown (longer kept b) bs

-- the bytes of a line write nothing, and lengthen what is kept
line_stays : (config : Limits) (stage : Stage) (kept line : List ℕ) → IsLine line
    → (written config (place_at stage kept) line ≡ [])
    × (place_after config (place_at stage kept) line ≡ place_at stage (line_grown kept line))
unfolding written place_after
line_stays config stage kept [] fits = (refl, refl)
line_stays config stage kept (b ∷ bs) fits =
    let e = byte_answer-other config (place_at stage kept) b fits.0 in
    let rest = line_stays config stage (longer kept b) bs fits.1 in (
      ap (λ (g : List ℕ × ScriptPlace). g.0 ++ written config g.1 bs) e
          ∙ rest.0,
      ap (λ (g : List ℕ × ScriptPlace). place_after config g.1 bs) e ∙ rest.1,
    )

-- what is kept is the line, or both are too long
abbrev pub LineIsKept : List ℕ → List ℕ → Type 0
LineIsKept kept line = (kept ≡ line) ⊎ ((most_of_line < length kept) × (most_of_line < length line))

pub longer-yes : (kept : List ℕ) (b : ℕ) → ltb most_of_line (length kept) ≡ true → longer kept b ≡ kept
longer-yes kept b e = ap (λ (t : Bool). cond t kept (kept ++ b ∷ [])) e

pub longer-not : (kept : List ℕ) (b : ℕ) → ltb most_of_line (length kept) ≡ false → longer kept b ≡ kept ++ b ∷ []
longer-not kept b e = ap (λ (t : Bool). cond t kept (kept ++ b ∷ [])) e

grown-long : (kept line : List ℕ) → most_of_line < length kept → line_grown kept line ≡ kept
grown-long kept [] long = refl
grown-long kept (b ∷ bs) long =
    let e = longer-yes kept b (lt-ltb _ _ long) in
    ap (λ (k : List ℕ). line_grown k bs) e ∙ grown-long kept bs long

grown-kept : (kept line : List ℕ) → LineIsKept (line_grown kept line) (kept ++ line)
grown-kept kept [] = inl (sym (append-nil kept))
grown-kept kept (b ∷ bs) = by (λ k. grown-kept k bs) (ltb most_of_line (length kept)) refl
  where
    by : (later : (k : List ℕ) → LineIsKept (line_grown k bs) (k ++ bs)) (t : Bool) → ltb most_of_line (length kept) ≡ t
        → LineIsKept (line_grown (longer kept b) bs) (kept ++ b ∷ bs)
    by later true e =
        let long : most_of_line < length kept = ltb-true _ _ e in
        let same : line_grown (longer kept b) bs ≡ kept = ap (λ (k : List ℕ). line_grown k bs) (longer-yes kept b e)
        ∙ grown-long kept bs long in
        inr (rw same long, omega (arith, long, length-append kept (b ∷ bs)))
    by later false e =
        subst (λ (k : List ℕ). LineIsKept (line_grown k bs) (kept ++ b ∷ bs)) (sym (longer-not kept b e))
        (subst (λ (l : List ℕ). LineIsKept (line_grown (kept ++ b ∷ []) bs) l) (append_assoc kept (b ∷ []) bs)
        (later (kept ++ b ∷ [])))

line_too_long : (config : Limits) (stage : Stage) (line : List ℕ) → most_of_line < length line
    → line_answer config stage line ≡ (line_of (codes "refused LineTooLong"), stage)
line_too_long config stage [] long = absurd (omega arith)
line_too_long config stage (b ∷ bs) long =
    ap (λ (t : Bool). cond t (line_of (codes "refused LineTooLong"), stage)
    (form_answer config stage (form_of (b ∷ bs)))) (lt-ltb _ _ long)

pub kept_answer : (config : Limits) (stage : Stage) (kept line : List ℕ) → LineIsKept kept line
    → line_answer config stage kept ≡ line_answer config stage line
kept_answer config stage kept line (inl e) = ap (line_answer config stage) e
kept_answer config stage kept line (inr long) = line_too_long config stage kept long.0
    ∙ sym (line_too_long config stage line long.1)

-- a line is answered by what is kept of it
line_kept : (config : Limits) (stage : Stage) (line : List ℕ) → line_answer config stage (line_grown [] line)
    ≡ line_answer config stage line
line_kept config stage line = kept_answer config stage (line_grown [] line) line (grown-kept [] line)

-- a line and its end
line_ended : (config : Limits) (stage : Stage) (line : List ℕ) → IsLine line
    → (written config (place_at stage []) (line ++ 10 ∷ []) ≡ (line_answer config stage line).0)
    × (place_after config (place_at stage []) (line ++ 10 ∷ []) ≡ place_at (line_answer config stage line).1 [])
unfolding written place_after
line_ended config stage line fits =
    let stays = line_stays config stage [] line fits in
    let here : ScriptPlace = place_at stage (line_grown [] line) in
    let e : byte_answer config here 10 ≡ ends_line (line_answer config stage line) = byte_answer-end config here 10 refl
    ∙ ap ends_line (line_kept config stage line) in (
      written-append config (place_at stage []) line (10 ∷ [])
          ∙ ap (λ (t : List ℕ). t ++ written config (place_after config (place_at stage []) line) (10 ∷ [])) stays.0
          ∙ ap (λ (p : ScriptPlace). written config p (10 ∷ [])) stays.1 ∙ append-nil (byte_answer config here 10).0
          ∙ ap (λ (g : List ℕ × ScriptPlace). g.0) e,
      after-append config (place_at stage []) line (10 ∷ [])
          ∙ ap (λ (p : ScriptPlace). place_after config p (10 ∷ [])) stays.1 ∙ ap (λ (g : List ℕ × ScriptPlace). g.1) e,
    )

-- what bytes write, and what the last line is answered
abbrev line_all_from : Limits → ScriptPlace → List ℕ → List ℕ
line_all_from config place bytes = written config place bytes ++ last_answer config (place_after config place bytes)

all_from-append : (config : Limits) (place : ScriptPlace) (xs ys : List ℕ) → line_all_from config place (xs ++ ys)
    ≡ written config place xs ++ line_all_from config (place_after config place xs) ys
all_from-append config place xs ys =
    ap (λ (t : List ℕ). t ++ last_answer config (place_after config place (xs ++ ys)))
    (written-append config place xs ys)
    ∙ append_assoc (written config place xs) (written config (place_after config place xs) ys)
    (last_answer config (place_after config place (xs ++ ys)))
    ∙ ap (λ (p : ScriptPlace). written config place xs
    ++ (written config (place_after config place xs) ys ++ last_answer config p)) (after-append config place xs ys)

by_lines : (config : Limits) (stage : Stage) (lines : List (List ℕ)) (last : List ℕ) → AllByRecursion IsLine lines
    → IsLine last
    → line_all_from config (place_at stage []) (ended_lines lines ++ last)
    ≡ lines_answers config stage (lines ++ last ∷ [])
by_lines config stage [] last fits ends =
    let stays = line_stays config stage [] last ends in
    ap (λ (t : List ℕ). t ++ last_answer config (place_after config (place_at stage []) last)) stays.0
    ∙ ap (last_answer config) stays.1
    ∙ ap (λ (g : List ℕ × Stage). g.0) (line_kept config stage last)
    ∙ sym (append-nil (line_answer config stage last).0)
by_lines config stage (line ∷ lines) last fits ends =
    let more : List ℕ = ended_lines lines ++ last in
    let split : ended_lines (line ∷ lines) ++ last ≡ (line ++ 10 ∷ []) ++ more =
    append_assoc line (10 ∷ ended_lines lines) last ∙ sym (append_assoc line (10 ∷ []) more) in
    let first = line_ended config stage line fits.0 in
    ap (line_all_from config (place_at stage [])) split
    ∙ all_from-append config (place_at stage []) (line ++ 10 ∷ []) more
    ∙ ap (λ (t : List ℕ). t ++ line_all_from config (place_after config (place_at stage []) (line ++ 10 ∷ [])) more)
    first.0
    ∙ ap (λ (p : ScriptPlace). (line_answer config stage line).0 ++ line_all_from config p more) first.1
    ∙ ap (λ (t : List ℕ). (line_answer config stage line).0 ++ t)
    (by_lines config (line_answer config stage line).1 lines last fits.1 ends)

pub by_all_lines : (config : Limits) (lines : List (List ℕ)) (last : List ℕ) → AllByRecursion IsLine lines → IsLine last
    → answers config (ended_lines lines ++ last) ≡ lines_answers config (Tables []) (lines ++ last ∷ [])
by_all_lines config lines last fits ends = by_lines config (Tables []) lines last fits ends
