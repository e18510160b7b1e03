-- A script that continues: the output for more bytes.
use Rattle.std.proofs.Common.{◌≡◌, ℕ, Bool, List, [], ◌∷◌, ◌++◌, refl, sym, ap, ◌∙◌, append_assoc, ◌≢◌, cond, inl, inr}
use Rattle.std.proofs.lemmas.Bool.Decides.{eqb_tells}
use Rattle.rb_desk.specs.Limits.{Limits}
use Rattle.rb_script.specs.Lines.{line_answer}
use Rattle.rb_script.specs.Output.{ScriptPlace, ends_line, longer, byte_answer, written, place_after}

pub written-append : (config : Limits) (place : ScriptPlace) (xs ys : List ℕ) → written config place (xs ++ ys)
    ≡ written config place xs ++ written config (place_after config place xs) ys
unfolding written place_after
written-append config place [] ys = refl
written-append config place (x ∷ xs) ys =
    let said : List ℕ = (byte_answer config place x).0 in
    ap (λ (w : List ℕ). said ++ w) (written-append config (byte_answer config place x).1 xs ys)
    ∙ sym (append_assoc said (written config (byte_answer config place x).1 xs)
    (written config (place_after config (byte_answer config place x).1 xs) ys))

pub after-append : (config : Limits) (place : ScriptPlace) (xs ys : List ℕ) → place_after config place (xs ++ ys)
    ≡ place_after config (place_after config place xs) ys
unfolding place_after
after-append config place [] ys = refl
after-append config place (x ∷ xs) ys = after-append config (byte_answer config place x).1 xs ys

pub after-one : (config : Limits) (place : ScriptPlace) (x : ℕ) → place_after config place (x ∷ [])
    ≡ (byte_answer config place x).1
unfolding place_after
after-one config place x = refl

pub byte_answer-end : (config : Limits) (place : ScriptPlace) (b : ℕ) → b ≡ 10 → byte_answer config place b
    ≡ ends_line (line_answer config place.stage place.line)
byte_answer-end config place b is =
    elim (eqb_tells b 10) as (λ _. byte_answer config place b ≡ ends_line (line_answer config place.stage place.line)) [
      | inl p ↦ ap (λ (t : Bool). cond t (ends_line (line_answer config place.stage place.line))
          ([], record place { line = longer place.line b })) p.0
      | inr q ↦ absurd (q.1 is)
    ]

pub byte_answer-other : (config : Limits) (place : ScriptPlace) (b : ℕ) → b ≢ 10 → byte_answer config place b
    ≡ ([], record place { line = longer place.line b })
byte_answer-other config place b isnt =
    elim (eqb_tells b 10) as (λ _. byte_answer config place b ≡ ([], record place { line = longer place.line b })) [
      | inl p ↦ absurd (isnt p.1)
      | inr q ↦ ap (λ (t : Bool). cond t (ends_line (line_answer config place.stage place.line))
          ([], record place { line = longer place.line b })) q.0
    ]
