-- The text of scanned changes, which is copied.
use Rattle.std.proofs.Common.{◌≡◌, ℕ, ◌-◌, ◌≤◌, Bool, List, [], ◌∷◌, ◌++◌, length, take, drop, refl, sym, ap, subst, ◌∙◌, arith}
use Rattle.std.specs.Prelude.{IsTrue}
use Rattle.std.specs.List.{AllByRecursion}
use Rattle.std.proofs.Math.Seq.{take-append_seam}
use Rattle.std.proofs.lemmas.List.{drop_at, length-append}
use Rattle.cs_model.specs.Bytes.{AreBytes}
use Rattle.cs_model.specs.declared.shape.Shape.{Shape}
use Rattle.cs_model.specs.declared.change.Change.{Change}
use Rattle.cs_model.specs.Changeset.{IsChange}
use Rattle.cs_model.specs.PackedChanges.{AreCanonical, Fit, changes_bytes, unpacked_changes}
use Rattle.cs_model.specs.Text.{SpellsEach, SpellsChange}
use Rattle.cs_parse.specs.Front.{changes_front}
use Rattle.cs_parse.proofs.reading.ChangeLaws.{IsChangeBy}
use Rattle.cs_parse.proofs.feeding.FrontLaws.{changes_spelled}

-- the laws of changes that a caller has
abbrev pub ChangesFit : Type 0
ChangesFit = (shape : Shape) (change : Change) → IsChange shape change → Fit (length shape.flags) change

abbrev pub SpelledIsSaid : Type 0
SpelledIsSaid = (n : ℕ) (text : List ℕ) (changes : List Change) → SpellsEach SpellsChange text changes
    → AllByRecursion (Fit n) changes → unpacked_changes n text ≡ changes

pub all_fit : ChangesFit → (flags : List ℕ) (changes : List Change) → AllByRecursion (IsChangeBy flags) changes
    → AllByRecursion (Fit (length flags)) changes
all_fit law flags [] valid = tt
all_fit law flags (change ∷ changes) valid =
    (law (record { name = []; flags = flags }) change valid.0, all_fit law flags changes valid.1)

pub front_is : (bytes front back : List ℕ) → bytes ≡ front ++ back → take (length bytes - length back) bytes ≡ front
front_is bytes front back e =
    let at : length bytes - length back ≡ length front = omega (arith, ap length e, length-append front back) in
    ap (λ n. take n bytes) at ∙ ap (take (length front)) e ∙ take-append_seam front back

pub behind_cut : (bytes front section rest : List ℕ) → bytes ≡ front ++ rest
    → section ≡ take (length bytes - length rest) bytes → drop (length section) bytes ≡ rest
behind_cut bytes front section rest e is =
    ap (λ w. drop (length w) bytes) (is ∙ front_is bytes front rest e) ∙ ap (drop (length front)) e
    ∙ drop_at front rest (length front) refl

-- the text in front of what is left says the changes that are whole
pub record Says (flags bytes : List ℕ) (count : ℕ) (rest : List ℕ) (canonical : Bool) (columns : ℕ) (text : List ℕ) :
    Type 0 where
  pub shorter : length rest ≤ length bytes
  pub fit : AllByRecursion (Fit columns) (unpacked_changes columns text)
  pub many : count ≡ length (unpacked_changes columns text)
  pub packs : IsTrue canonical → AreCanonical columns text
  pub said : unpacked_changes columns text ≡ (changes_front flags bytes).items

pub left_shorter : (flags bytes rest : List ℕ) → AreBytes bytes → rest ≡ (changes_front flags bytes).rest → length rest
    ≤ length bytes
left_shorter flags bytes rest fits is =
    let t = changes_spelled flags bytes fits in
    omega (arith, ap length is, ap length t.parts, length-append t.text (changes_front flags bytes).rest)

pub says : ChangesFit → SpelledIsSaid → (flags bytes : List ℕ) (count : ℕ) (rest : List ℕ) (canonical : Bool)
    (columns : ℕ) (text : List ℕ) → AreBytes bytes → columns ≡ length flags → text
    ≡ take (length bytes - length rest) bytes
    → count ≡ length (changes_front flags bytes).items → rest ≡ (changes_front flags bytes).rest
    → (IsTrue canonical → bytes ≡ changes_bytes (changes_front flags bytes).items
    ++ (changes_front flags bytes).rest)
    → Says flags bytes count rest canonical columns text
says fit spelled_said flags bytes count rest canonical columns text fits as_many is_front many is own =
    let f = changes_front flags bytes in
    let t = changes_spelled flags bytes fits in
    let all : AllByRecursion (Fit columns) f.items = rw as_many (all_fit fit flags f.items t.valid) in
    let front : text ≡ t.text = is_front ∙ front_is bytes t.text rest (t.parts ∙ ap (λ w. t.text ++ w) (sym is)) in
    let spelled : SpellsEach SpellsChange text f.items =
    subst (λ w. SpellsEach SpellsChange w f.items) (sym front) t.spelled in
    let said = spelled_said columns text f.items spelled all in
    let fit_said = subst (λ w. AllByRecursion (Fit columns) w) (sym said) all in
    record {
      shorter = left_shorter flags bytes rest fits is;
      fit = fit_said;
      many = many ∙ ap (λ (w : List Change). length w) (sym said);
      packs = λ true_is. (
          let own_text : text ≡ changes_bytes f.items =
          is_front ∙ front_is bytes (changes_bytes f.items) rest
          (own true_is ∙ ap (λ w. changes_bytes f.items ++ w) (sym is)) in
          record { parts = own_text ∙ ap changes_bytes (sym said); fit = fit_said });
      said = said;
    }
