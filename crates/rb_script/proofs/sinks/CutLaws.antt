-- The pieces of a text, one after another, are the text.
use Rattle.std.proofs.Common.{◌≡◌, ℕ, ◌<◌, true, false, true≢false, List, [], ◌∷◌, ◌++◌, length, Option, Some, None}
use Rattle.std.proofs.Common.{refl, sym, ap, subst, ◌∙◌, append_assoc, length-append, arith}
use Rattle.std.proofs.lemmas.List.{append-nil}
use Rattle.std.specs.Prelude.{codes}
use Rattle.std.specs.List.{concat}
use Rattle.std.specs.Io.KnownBytes.{Appends, Keeps}
use Rattle.hex.specs.Hex.{encode_lower}
use Rattle.cs_write.specs.Pieces.{IsCut, TakesAll, FailsAt}
use Rattle.rb_script.specs.Streams.{AppendsFront}
use Rattle.rb_script.specs.Texts.{bytes_word}
use Rattle.rb_script.specs.Sinks.{GainsAll, GainsFront, has_none, hex_of_pieces}
use Rattle.rb_script.proofs.endings.StreamLaws.{front_longer, Keeps-Appends}
use Rattle.rb_script.proofs.spelled.HexTexts.{hex_none}
use Rattle.rb_script.proofs.sinks.GainLaws.{all_appended, front_appended}
use Rattle.rb_script.proofs.sinks.SinkLaws.{pieces_append}

cut_is : (max : ℕ) (text : List ℕ) (pieces : List (List ℕ)) → IsCut max text pieces → concat pieces ≡ text
cut_is max text [] cut = sym cut
cut_is max text (piece ∷ []) cut = append-nil piece ∙ sym cut.0
cut_is max text (piece ∷ next ∷ more) cut =
    ap (λ t. piece ++ t) (cut_is max cut.1.0 (next ∷ more) cut.1.2) ∙ sym cut.1.1

-- a text that has a piece is written in hexadecimal
cut_word : (max : ℕ) (text : List ℕ) (piece : List ℕ) (more : List (List ℕ)) → 0 < max → IsCut max text (piece ∷ more)
    → bytes_word text ≡ encode_lower text
cut_word max [] piece [] some cut = absurd (omega (arith, cut.1, ap length cut.0))
cut_word max [] piece (next ∷ more) some cut =
    absurd (omega (arith, some, cut.0, ap length cut.1.1, length-append piece cut.1.0))
cut_word max (byte ∷ text) piece more some cut = refl

pub some_among : (front : List (List ℕ)) (piece : List ℕ) (back : List (List ℕ))
    → has_none (front ++ piece ∷ back) ≡ false
some_among [] piece back = refl
some_among (first ∷ front) piece back = refl

-- the pieces are all of the text
taken_is : (max : ℕ) (text : List ℕ) (taken_old taken failed_old failed : List (List ℕ)) → taken_old ≡ []
    → (puts : TakesAll max text taken_old taken failed_old failed) → taken ≡ puts.pieces
taken_is max text taken_old taken failed_old failed none puts = puts.taken ∙ ap (λ t. t ++ puts.pieces) none

word_by : (max : ℕ) (text : List ℕ) (taken pieces : List (List ℕ)) → 0 < max → IsCut max text pieces → taken ≡ pieces
    → has_none taken ≡ false → bytes_word text ≡ hex_of_pieces taken
word_by max text taken [] some cut is has = absurd (true≢false (sym (ap has_none is) ∙ has))
word_by max text taken (piece ∷ more) some cut is has =
    cut_word max text piece more some cut
    ∙ ap encode_lower (sym (cut_is max text (piece ∷ more) cut) ∙ ap concat (sym is))

empty_by : (max : ℕ) (text : List ℕ) (taken pieces : List (List ℕ)) → IsCut max text pieces → taken ≡ pieces
    → has_none taken ≡ true → (text ≡ []) × (hex_of_pieces taken ≡ [])
empty_by max text taken [] cut is has = (cut, ap hex_of_pieces is ∙ hex_none)
empty_by max text taken (piece ∷ more) cut is has = absurd (true≢false (sym has ∙ ap has_none is))

known_kept : (w0 w : Option (List ℕ)) → Appends w0 w [] → Keeps w0 w
known_kept None w h = tt
known_kept (Some xs) None h = absurd h
known_kept (Some xs) (Some ys) h = h ∙ append-nil xs

-- all pieces of a text are taken
pub word_written : (max : ℕ) (text : List ℕ) (taken_old taken failed_old failed : List (List ℕ))
    (before w0 w : Option (List ℕ)) → 0 < max → taken_old ≡ [] → failed_old ≡ [] → w0 ≡ before
    → (failed ≡ [] → GainsAll before w (hex_of_pieces taken)) → TakesAll max text taken_old taken failed_old failed
    → false ≡ has_none taken → Appends w0 w (bytes_word text)
word_written max text taken_old taken failed_old failed before w0 w some none unfailed same all puts has =
    let is = taken_is max text taken_old taken failed_old failed none puts in
    let word = word_by max text taken puts.pieces some puts.cut is (sym has) in
    let gained = all_appended before w (hex_of_pieces taken) (all (puts.failed ∙ unfailed)) in
    subst (λ v. Appends v w (bytes_word text)) (sym same) (subst (λ t. Appends before w t) (sym word) gained)

pub none_written : (max : ℕ) (text : List ℕ) (taken_old taken failed_old failed : List (List ℕ))
    (before w0 w : Option (List ℕ)) → taken_old ≡ [] → failed_old ≡ [] → w0 ≡ before
    → (failed ≡ [] → GainsAll before w (hex_of_pieces taken)) → TakesAll max text taken_old taken failed_old failed
    → true ≡ has_none taken → (text ≡ []) × Keeps w0 w
none_written max text taken_old taken failed_old failed before w0 w none unfailed same all puts has =
    let is = taken_is max text taken_old taken failed_old failed none puts in
    let empty = empty_by max text taken puts.pieces puts.cut is (sym has) in
    let gained = all_appended before w (hex_of_pieces taken) (all (puts.failed ∙ unfailed)) in (
      empty.0,
      subst (λ v. Keeps v w) (sym same)
          (known_kept before w (subst (λ t. Appends before w t) empty.1 gained)),
    )

-- one piece of a text fails
pub front_written : (max : ℕ) (text : List ℕ) (taken_old taken failed_old failed : List (List ℕ))
    (before w0 w : Option (List ℕ)) → 0 < max → taken_old ≡ [] → failed_old ≡ [] → w0 ≡ before
    → GainsFront before w (hex_of_pieces (taken ++ failed)) → FailsAt max text taken_old taken failed_old failed
    → AppendsFront w0 w (bytes_word text)
front_written max text taken_old taken failed_old failed before w0 w some none unfailed same front puts =
    let pieces = puts.front ++ puts.piece ∷ puts.back in
    let took : taken ≡ puts.front = puts.taken ∙ ap (λ t. t ++ puts.front) none in
    let fails : failed ≡ puts.piece ∷ [] = puts.failed ∙ ap (λ t. t ++ puts.piece ∷ []) unfailed in
    let parts : (taken ++ failed) ++ puts.back ≡ pieces =
    ap (λ t. (t ++ failed) ++ puts.back) took ∙ ap (λ t. (puts.front ++ t) ++ puts.back) fails
    ∙ append_assoc puts.front (puts.piece ∷ []) puts.back in
    let whole : bytes_word text ≡ hex_of_pieces (taken ++ failed) ++ hex_of_pieces puts.back =
    word_by max text pieces pieces some puts.cut refl (some_among puts.front puts.piece puts.back)
    ∙ ap hex_of_pieces (sym parts) ∙ pieces_append (taken ++ failed) puts.back in
    let gained = front_longer before w (hex_of_pieces (taken ++ failed)) (hex_of_pieces puts.back)
    (front_appended before w (hex_of_pieces (taken ++ failed)) front) in
    subst (λ v. AppendsFront v w (bytes_word text)) (sym same)
    (subst (λ t. AppendsFront before w t) (sym whole) gained)

-- no piece came
pub unchanged : (text : List ℕ) (taken failed : List (List ℕ)) (before w0 w : Option (List ℕ)) → taken ≡ []
    → failed ≡ [] → w0 ≡ before → GainsFront before w (hex_of_pieces (taken ++ failed))
    → AppendsFront w0 w (bytes_word text)
unchanged text taken failed before w0 w none unfailed same front =
    let bare : hex_of_pieces (taken ++ failed) ≡ [] =
    ap (λ t. hex_of_pieces (t ++ failed)) none ∙ ap hex_of_pieces unfailed ∙ hex_none in
    subst (λ v. AppendsFront v w (bytes_word text)) (sym same) (front_longer before w [] (bytes_word text)
    (subst (λ t. AppendsFront before w t) bare (front_appended before w (hex_of_pieces (taken ++ failed)) front)))

-- an empty text is a dash
pub dash_written : (text : List ℕ) (w0 w w' : Option (List ℕ)) → text ≡ [] → Keeps w0 w → Appends w w' (codes "-")
    → Appends w0 w' (bytes_word text)
dash_written text w0 w w' none kept now =
    subst (λ t. Appends w0 w' (bytes_word t)) (sym none) (Keeps-Appends w0 w w' (codes "-") kept now)

pub dash_cut : (text : List ℕ) (w0 w w' : Option (List ℕ)) → text ≡ [] → Keeps w0 w → AppendsFront w w' (codes "-")
    → AppendsFront w0 w' (bytes_word text)
dash_cut text w0 w w' none kept now =
    subst (λ t. AppendsFront w0 w' (bytes_word t)) (sym none)
    (now.0, now.1, now.2, Keeps-Appends w0 w w' now.0 kept now.3)

pub ruleset dashes = (dash_written, dash_cut)
