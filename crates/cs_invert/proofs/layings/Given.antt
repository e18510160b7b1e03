-- An inverse's text in a buffer that has room for it, or not.
use Rattle.std.proofs.Common.{◌≡◌, ◌∙◌, ℕ, ◌<◌, ◌≤◌, true, false, cond, List, ◌++◌, length, drop, sym, ap, subst, arith}
use Rattle.std.proofs.lemmas.Bool.Decides.{nat_tests}
use Rattle.std.specs.Prelude.{nat_lt}
use Rattle.cs_model.specs.Changeset.{IsChangeset}
use Rattle.cs_model.specs.Section.{Section}
use Rattle.cs_model.specs.SectionText.{sections_text}
use Rattle.cs_write.proofs.buffers.Laying.{laid_first}
use Rattle.cs_write.specs.Buffer.{given, laid}
use Rattle.cs_write.specs.Canon.{canon}
use Rattle.cs_write.specs.Text.{text_of}
use Rattle.cs_invert.specs.Inverse.{inverse}
use Rattle.cs_invert.proofs.inverses.AsLong.{form_inverse, sections_as_long}

is_shorter : (m n : ℕ) → m < n → nat_lt m n ≡ true
is_shorter m n less = grind (arith, nat_tests)

not_shorter : (m n : ℕ) → n ≤ m → nat_lt m n ≡ false
not_shorter m n most = grind (arith, nat_tests)

-- of sections in canonical form, the inverse's text, and its length
pub record TellsInverse (sections : List Section) (text : List ℕ) : Type 0 where
  pub is : text_of (inverse sections) ≡ sections_text (inverse sections)
  pub long : length text ≡ length (text_of (inverse sections))

pub tells_inverse : (sections all again : List Section) (text : List ℕ) → sections ≡ all → again ≡ sections
    → IsChangeset all → canon again ≡ again → text ≡ sections_text sections → TellsInverse all text
tells_inverse sections all again text same is_again valid form is_text =
    let is = ap sections_text (form_inverse all (subst (λ (ss : List Section). canon ss ≡ ss) (is_again ∙ same) form)) in
    record {
      is = is;
      long = ap length is_text ∙ ap (λ (ss : List Section). length (sections_text ss)) same
          ∙ sym (ap length is ∙ sections_as_long all valid);
    }

pub given_room : (sections all : List Section) (text out new : List ℕ) → sections ≡ all → TellsInverse all text
    → length text ≤ length out → new ≡ laid 0 (sections_text (inverse sections)) out
    → new ≡ given (text_of (inverse all)) out
given_room sections all text out new same so room is_new =
    let whole = text_of (inverse all) in
    is_new ∙ ap (λ (t : List ℕ). laid 0 t out)
    (ap (λ (ss : List Section). sections_text (inverse ss)) same ∙ sym so.is) ∙ laid_first whole out
    ∙ sym (ap (λ b. cond b out (whole ++ drop (length whole) out))
    (not_shorter (length out) (length whole) (omega (arith, so.long, room))))

pub given_none : (all : List Section) (text out : List ℕ) → TellsInverse all text → length out < length text
    → out ≡ given (text_of (inverse all)) out
given_none all text out so less =
    let whole = text_of (inverse all) in
    sym (ap (λ b. cond b out (whole ++ drop (length whole) out))
    (is_shorter (length out) (length whole) (omega (arith, so.long, less))))
