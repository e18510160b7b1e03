-- Lines that are shown one after another, and the bytes of words.
use Rattle.std.proofs.Common.{◌≡◌, ◌∙◌, ℕ, suc, List, [], ◌∷◌, ◌++◌, refl, ap, sym, subst, append_assoc, drop}
use Rattle.std.proofs.Common.{Option, None, Some, Err, ◌+◌, ◌<◌, length, get_or, map, drop-cons, add-one}
use Rattle.std.proofs.lemmas.Option.{none-some}
use Rattle.std.specs.Option.{option_and_then}
use Rattle.std.proofs.lemmas.List.{append-nil}
use Rattle.std.specs.Io.KnownBytes.{Appends}
use Rattle.rb_show.specs.declared.row_form.RowForm.{RowForm}
use Rattle.rb_show.specs.declared.show_fault.ShowError.{ShowError}
use Rattle.rb_show.specs.declared.show_fault.ShowError.TheVariants.{Read, Write, Row, Memory}
use Rattle.rb_show.specs.Shown.{ShownTables, bytes_with_front, bytes_of_words, line_shown, lines_shown}
use Rattle.rb_show.specs.Shown.{shown_before}
use Rattle.rb_show.specs.Showing.{IsShown, ShowsLines}
use Rattle.rb_show.specs.ShownTexts.{IsLineShown, IsLineCut, IsLineBad, ShowsLine}
use Rattle.rb_script.specs.Streams.{AppendsFront}
use Rattle.rb_script.specs.Words.{bytes_of}
use Rattle.rb_script.proofs.endings.StreamLaws.{Appends-Keeps, Appends-none, Appends-trans, front_later, front_longer}

-- ---- line by line

abbrev pair_shown : List ℕ → Option ℕ → List ℕ × Option ℕ
pair_shown text bad = (text, bad)

-- after this front
abbrev pub shown_after : List ℕ → List ℕ × Option ℕ → List ℕ × Option ℕ
shown_after front given = (front ++ given.0, given.1)

-- All that is given is what is written so far, and what comes after it.
pub record AreShown (given : List ℕ × Option ℕ) (after : List ℕ × Option ℕ) (w0 w : Option (List ℕ)) : Type 0 where
  pub front : List ℕ
  pub is : given ≡ shown_after front after
  pub so_far : Appends w0 w front

pub show_begins : (given : List ℕ × Option ℕ) (w : Option (List ℕ)) → AreShown given given w w
show_begins given w = record { front = []; is = refl; so_far = Appends-none w }

-- a line is shown, and those after it come next
step_shown : (line : Option (List ℕ × ShownTables)) (number : ℕ) (next : ShownTables → List ℕ × Option ℕ)
    (given : List ℕ × Option ℕ) (tables : ShownTables) (w0 w w' : Option (List ℕ))
    → AreShown given (shown_before line number next) w0 w → IsLineShown line tables w w'
    → AreShown given (next tables) w0 w'
step_shown None number next given tables w0 w w' so_far h = absurd h
step_shown (Some said) number next given tables w0 w w' so_far h = record {
  front = so_far.front ++ said.0;
  is = so_far.is
      ∙ ap (λ (t : List ℕ). pair_shown t (next said.1).1) (sym (append_assoc so_far.front said.0 (next said.1).0))
      ∙ ap (λ (x : ShownTables). shown_after (so_far.front ++ said.0) (next x)) (sym h.0);
  so_far = Appends-trans w0 w w' so_far.front said.0 so_far.so_far h.1;
}

-- it stops in a line
cut_shown : (line : Option (List ℕ × ShownTables)) (number : ℕ) (next : ShownTables → List ℕ × Option ℕ)
    (given : List ℕ × Option ℕ) (w0 w w' : Option (List ℕ)) → AreShown given (shown_before line number next) w0 w
    → IsLineCut line w w' → AppendsFront w0 w' given.0
cut_shown None number next given w0 w w' so_far h =
    rw so_far.is (so_far.front, [], refl, Appends-Keeps w0 w w' so_far.front so_far.so_far h)
cut_shown (Some said) number next given w0 w w' so_far h =
    rw so_far.is (front_later w0 w w' so_far.front (said.0 ++ (next said.1).0) so_far.so_far
    (front_longer w w' said.0 (next said.1).0 h))

bad_shown : (line : Option (List ℕ × ShownTables)) (number : ℕ) (next : ShownTables → List ℕ × Option ℕ)
    (given : List ℕ × Option ℕ) (w0 w w' : Option (List ℕ)) → AreShown given (shown_before line number next) w0 w
    → IsLineBad line w w' → IsShown given (Some number) w0 w'
bad_shown None number next given w0 w w' so_far h =
    rw so_far.is (refl, rw (append-nil so_far.front) (Appends-Keeps w0 w w' so_far.front so_far.so_far h))
bad_shown (Some said) number next given w0 w w' so_far h = absurd h

pub line_goes_on : (form : RowForm) (given : List ℕ × Option ℕ) (tables tables' : ShownTables)
    (number next : ℕ) (line : List ℕ) (rest more : List (List ℕ)) (w0 w w' : Option (List ℕ))
    → rest ≡ line ∷ more → next ≡ suc number
    → AreShown given (lines_shown form tables number rest) w0 w → IsLineShown (line_shown form tables line) tables' w w'
    → AreShown given (lines_shown form tables' next more) w0 w'
line_goes_on form given tables tables' number next line rest more w0 w w' cut is so_far h = rw is
    (step_shown (line_shown form tables line) number (λ after. lines_shown form after (suc number) more) given tables'
    w0 w w' (subst (λ (r : List (List ℕ)). AreShown given (lines_shown form tables number r) w0 w) cut so_far) h)

pub line_stops_show : (form : RowForm) (given : List ℕ × Option ℕ) (tables tables' : ShownTables)
    (number : ℕ) (line : List ℕ) (rest more : List (List ℕ)) (fault : ShowError) (w0 w w' : Option (List ℕ))
    → rest ≡ line ∷ more → AreShown given (lines_shown form tables number rest) w0 w
    → ShowsLine {A = Unit {0}} (Err fault) number (line_shown form tables line) tables' w w'
    → ShowsLines {A = Unit {0}} (Err fault) given w0 w'
line_stops_show form given tables tables' number line rest more (Read why) w0 w w' cut so_far h = absurd h
line_stops_show form given tables tables' number line rest more (Write why) w0 w w' cut so_far h =
    cut_shown (line_shown form tables line) number (λ after. lines_shown form after (suc number) more) given w0 w w'
    (subst (λ (r : List (List ℕ)). AreShown given (lines_shown form tables number r) w0 w) cut so_far) h
line_stops_show form given tables tables' number line rest more (Row n) w0 w w' cut so_far h =
    rw (h.0) (bad_shown (line_shown form tables line) number (λ after. lines_shown form after (suc number) more) given
    w0 w w' (subst (λ (r : List (List ℕ)). AreShown given (lines_shown form tables number r) w0 w) cut so_far) h.1)
line_stops_show form given tables tables' number line rest more Memory w0 w w' cut so_far h =
    cut_shown (line_shown form tables line) number (λ after. lines_shown form after (suc number) more) given w0 w w'
    (subst (λ (r : List (List ℕ)). AreShown given (lines_shown form tables number r) w0 w) cut so_far) h

pub all_shown : (form : RowForm) (given : List ℕ × Option ℕ) (tables : ShownTables) (number : ℕ)
    (rest : List (List ℕ)) (w0 w : Option (List ℕ)) → rest ≡ []
    → AreShown given (lines_shown form tables number rest) w0 w → IsShown given None w0 w
all_shown form given tables number rest w0 w none so_far =
    let so_far' : AreShown given (lines_shown form tables number []) w0 w =
    subst (λ (r : List (List ℕ)). AreShown given (lines_shown form tables number r) w0 w) none so_far in
    rw so_far'.is (refl, rw (append-nil so_far'.front) so_far'.so_far)

-- a list from a place on
pub map_cut : {A B : Type 0} (f : A → B) (xs : List A) (i : ℕ) (d : A) → i < length xs
    → map f (drop i xs) ≡ f (get_or xs i d) ∷ map f (drop (i + 1) xs)
map_cut f xs i d within =
    let cut : drop i xs ≡ get_or xs i d ∷ drop (i + 1) xs = rw (add-one, drop-cons xs i d) refl in
    ap (map f) cut

-- ---- the bytes of words

after_after : (made bytes : List ℕ) (rest : Option (List ℕ))
    → bytes_with_front made (bytes_with_front bytes rest) ≡ bytes_with_front (made ++ bytes) rest
after_after made bytes None = refl
after_after made bytes (Some more) = ap Some (sym (append_assoc made bytes more))

none_after : (made : List ℕ) (word rest whole : Option (List ℕ)) → None ≡ word
    → bytes_with_front made (option_and_then (λ bytes. bytes_with_front bytes rest) word) ≡ whole → None ≡ whole
none_after made None rest whole is so_far = so_far
none_after made (Some bytes) rest whole is so_far = absurd (none-some bytes is)

some_after : (made new bytes : List ℕ) (word rest whole : Option (List ℕ)) → Some bytes ≡ word → new ≡ made ++ bytes
    → bytes_with_front made (option_and_then (λ bytes. bytes_with_front bytes rest) word) ≡ whole
    → bytes_with_front new rest ≡ whole
some_after made new bytes word rest whole given is so_far =
    ap (λ (t : List ℕ). bytes_with_front t rest) is ∙ sym (after_after made bytes rest)
    ∙ subst (λ (w : Option (List ℕ)). bytes_with_front made (option_and_then (λ b. bytes_with_front b rest) w) ≡ whole)
    (sym given) so_far

pub word_missing : (made word : List ℕ) (words rest : List (List ℕ)) (whole : Option (List ℕ)) → words ≡ word ∷ rest
    → None ≡ bytes_of word → bytes_with_front made (bytes_of_words words) ≡ whole → None ≡ whole
word_missing made word words rest whole cut is so_far =
    none_after made (bytes_of word) (bytes_of_words rest) whole is
    (subst (λ (w : List (List ℕ)). bytes_with_front made (bytes_of_words w) ≡ whole) cut so_far)

pub word_added : (made new bytes word : List ℕ) (words rest : List (List ℕ)) (whole : Option (List ℕ))
    → words ≡ word ∷ rest → Some bytes ≡ bytes_of word → new ≡ made ++ bytes
    → bytes_with_front made (bytes_of_words words) ≡ whole → bytes_with_front new (bytes_of_words rest) ≡ whole
word_added made new bytes word words rest whole cut given is so_far =
    some_after made new bytes (bytes_of word) (bytes_of_words rest) whole given is
    (subst (λ (w : List (List ℕ)). bytes_with_front made (bytes_of_words w) ≡ whole) cut so_far)

pub words_added : (made : List ℕ) (words : List (List ℕ)) (whole : Option (List ℕ)) → words ≡ []
    → bytes_with_front made (bytes_of_words words) ≡ whole → Some made ≡ whole
words_added made words whole none so_far =
    ap Some (sym (append-nil made))
    ∙ subst (λ (w : List (List ℕ)). bytes_with_front made (bytes_of_words w) ≡ whole) none so_far
