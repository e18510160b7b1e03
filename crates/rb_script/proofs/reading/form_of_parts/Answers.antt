use Rattle.std.proofs.Common.{◌≡◌, ℕ, ◌≤◌, List, [], ◌∷◌, length, map, None, refl, sym, arith}
use Rattle.rb_script.specs.Forms.{form_of_words}
use Rattle.rb_script.proofs.reading.form_of_parts.Goals as goal

-- four words and more have no form
no_form_of_many : {A : Type 0} (read : A → List ℕ) (words : List A) → 4 ≤ length words
    → form_of_words (map read words) ≡ None
no_form_of_many read [] many = absurd (omega (arith, many))
no_form_of_many read (a ∷ []) many = absurd (omega (arith, many))
no_form_of_many read (a ∷ b ∷ []) many = absurd (omega (arith, many))
no_form_of_many read (a ∷ b ∷ c ∷ []) many = absurd (omega (arith, many))
no_form_of_many read (a ∷ b ∷ c ∷ d ∷ words) many = refl

pub returns-in-len4-up : goal.returns-in-len4-up
returns-in-len4-up c = sym (no_form_of_many _ c.args.words.now c.in-len4-up.len_at_least)
