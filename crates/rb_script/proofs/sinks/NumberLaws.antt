-- The answer to `combine` after its line's number.
use Rattle.std.proofs.Common.{◌≡◌, ℕ, Bool, true, false, true≢false, not, cond, List, ◌++◌, refl, ap, sym, ◌∙◌}
use Rattle.std.proofs.Common.{append_assoc}
use Rattle.std.specs.Prelude.{codes}
use Rattle.std.specs.Fmt.{decimal}
use Rattle.rb_script.specs.declared.answering.Answering.{Answering}
use Rattle.rb_script.specs.Answering.{numbered_answer}
use Rattle.rb_script.specs.Lines.{line_of}

numbered_if : {A : Type 0} (b : Bool) (x y : A) → not b ≡ false → x ≡ cond b x y
numbered_if true x y is = refl
numbered_if false x y is = absurd (true≢false is)

pub numbered_word : (how : Answering) (n : ℕ) (front word : List ℕ) → not how.numbers ≡ false
    → front ≡ decimal n ++ codes " text "
    → front ++ line_of word ≡ numbered_answer how n (line_of (codes "text " ++ word))
numbered_word how n front word numbers is =
    let text = line_of (codes "text " ++ word) in
    ap (λ t. t ++ line_of word) is
    ∙ append_assoc (decimal n) (codes " text ") (line_of word)
    ∙ sym (append_assoc (decimal n) (codes " ") text)
    ∙ numbered_if how.numbers ((decimal n ++ codes " ") ++ text) text numbers
