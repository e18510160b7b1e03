-- What a line says is what it spells, in both directions.
use Rattle.std.proofs.Common.{◌≡◌, ℕ, ◌<◌, ◌≤◌, Bool, true, false, cond, ltb, List, [], ◌∷◌, length}
use Rattle.std.proofs.Common.{Option, Some, None, refl, sym, ap, subst, ◌∙◌}
use Rattle.std.specs.Prelude.{codes}
use Rattle.std.specs.Cmp.Lexicographic.{same_text}
use Rattle.std.proofs.lemmas.Bool.{lt-ltb, ltb-true}
use Rattle.std.proofs.lemmas.Option.{none-some}
use Rattle.cs_model.specs.declared.shape.Shape.{Shape}
use Rattle.cs_model.specs.Schema.{same_bytes}
use Rattle.cs_parse.specs.Reading.{answer_of}
use Rattle.rb_script.specs.Lines.{header_of_answer, most_of_line}
use Rattle.rb_script.specs.Words.{bytes_of, number_in_word, words_of}
use Rattle.rb_drive.specs.declared.entries.LineEntry.{LineEntry}
use Rattle.rb_drive.specs.declared.entries.LineEntry.TheVariants.{Table, Changeset}
use Rattle.rb_drive.specs.declared.input.Given.{Given}
use Rattle.rb_drive.specs.Input.{SpellsTable, SpellsChangeset}
use Rattle.rb_drive.specs.Reading.{table_of_shape, table_of, changeset_of_bytes, changeset_of, entry_of_words}
use Rattle.rb_drive.specs.Reading.{entry_spelled, given_at}

-- ---- what is spelled is said

pub table_said : (line : List ℕ) (shape : Shape) → SpellsTable line shape → entry_spelled line ≡ Some (Table shape)
table_said line shape s = ap entry_of_words s.words ∙ ap table_of s.hex ∙ ap table_of_shape s.header

pub changeset_said : (line : List ℕ) (given : Given) → SpellsChangeset line given
    → entry_spelled line ≡ Some (Changeset given.publisher given.text)
changeset_said line given s =
    ap entry_of_words s.words
    ∙ ap (λ (p : Option ℕ). changeset_of p (bytes_of s.word)) s.publisher
    ∙ ap (λ (t : Bool). cond t (changeset_of_bytes given.publisher (bytes_of s.word)) None)
    (lt-ltb given.publisher 64 s.few)
    ∙ ap (changeset_of_bytes given.publisher) s.hex

-- ---- what is said is spelled

abbrev shape_in : Option LineEntry → Option Shape
shape_in None = None
shape_in (Some (Table shape)) = Some shape
shape_in (Some (Changeset publisher text)) = None

abbrev publisher_in : Option LineEntry → Option ℕ
publisher_in None = None
publisher_in (Some (Table shape)) = None
publisher_in (Some (Changeset publisher text)) = Some publisher

abbrev text_in : Option LineEntry → Option (List ℕ)
text_in None = None
text_in (Some (Table shape)) = None
text_in (Some (Changeset publisher text)) = Some text

-- a number that is below 64, if there is one
abbrev IsBelow : Option ℕ → Type 0
IsBelow None = Unit {0}
IsBelow (Some n) = n < 64

-- `changeset` words are no table, and `table` words no changeset
no_shape_of_bytes : (publisher : ℕ) (bytes : Option (List ℕ)) → shape_in (changeset_of_bytes publisher bytes) ≡ None
no_shape_of_bytes publisher None = refl
no_shape_of_bytes publisher (Some bytes) = refl

no_shape : (publisher : Option ℕ) (bytes : Option (List ℕ)) → shape_in (changeset_of publisher bytes) ≡ None
no_shape None bytes = refl
no_shape (Some publisher) bytes = by (ltb publisher 64)
  where
    by : (t : Bool) → shape_in (cond t (changeset_of_bytes publisher bytes) None) ≡ None
    by true = no_shape_of_bytes publisher bytes
    by false = refl

no_text_of_shape : (shape : Option Shape) → text_in (table_of_shape shape) ≡ None
no_text_of_shape None = refl
no_text_of_shape (Some shape) = refl

text_is_none : (bytes : Option (List ℕ)) → text_in (table_of bytes) ≡ None
text_is_none None = refl
text_is_none (Some bytes) = no_text_of_shape (header_of_answer (answer_of bytes))

-- a line with the words of a table
table_words : (line : List ℕ) (words : List (List ℕ)) (shape : Shape) → length line ≤ most_of_line
    → words_of line ≡ words → entry_of_words words ≡ Some (Table shape) → SpellsTable line shape
table_words line [] shape short split is = absurd (none-some (Table shape) is)
table_words line (a ∷ []) shape short split is = absurd (none-some (Table shape) is)
table_words line (a ∷ b ∷ []) shape short split is = by_name (same_bytes a (codes "table")) refl is
  where
    by_header : (bytes : List ℕ) (found : Option Shape) → same_bytes a (codes "table") ≡ true
        → bytes_of b ≡ Some bytes → header_of_answer (answer_of bytes) ≡ found
        → table_of_shape found ≡ Some (Table shape) → SpellsTable line shape
    by_header bytes None named hex has said = absurd (none-some (Table shape) said)
    by_header bytes (Some found) named hex has said = record {
      word = b;
      words = split ∙ ap (λ (w : List ℕ). w ∷ b ∷ []) (same_text a (codes "table") (sym named));
      bytes = bytes;
      hex = hex;
      header = has ∙ ap shape_in said;
      short = short;
    }

    by_bytes : (bytes : Option (List ℕ)) → same_bytes a (codes "table") ≡ true → bytes_of b ≡ bytes
        → table_of bytes ≡ Some (Table shape) → SpellsTable line shape
    by_bytes None named hex said = absurd (none-some (Table shape) said)
    by_bytes (Some bytes) named hex said =
        by_header bytes (header_of_answer (answer_of bytes)) named hex refl said

    by_name : (t : Bool) → same_bytes a (codes "table") ≡ t
        → cond t (table_of (bytes_of b)) None ≡ Some (Table shape) → SpellsTable line shape
    by_name false named said = absurd (none-some (Table shape) said)
    by_name true named said = by_bytes (bytes_of b) named refl said
table_words line (a ∷ b ∷ c ∷ []) shape short split is = absurd (by (same_bytes a (codes "changeset")) is)
  where
    by : (t : Bool) → cond t (changeset_of (number_in_word b) (bytes_of c)) None ≡ Some (Table shape) → ⊥
    by false said = none-some (Table shape) said
    by true said = none-some shape (sym (no_shape (number_in_word b) (bytes_of c)) ∙ ap shape_in said)
table_words line (a ∷ b ∷ c ∷ d ∷ more) shape short split is = absurd (none-some (Table shape) is)

-- a line with the words of a changeset
changeset_words : (line : List ℕ) (words : List (List ℕ)) (n publisher : ℕ) (text : List ℕ)
    → length line ≤ most_of_line → words_of line ≡ words → entry_of_words words ≡ Some (Changeset publisher text)
    → SpellsChangeset line (given_at n publisher text)
changeset_words line [] n publisher text short split is = absurd (none-some (Changeset publisher text) is)
changeset_words line (a ∷ []) n publisher text short split is = absurd (none-some (Changeset publisher text) is)
changeset_words line (a ∷ b ∷ []) n publisher text short split is = absurd (by (same_bytes a (codes "table")) is)
  where
    by : (t : Bool) → cond t (table_of (bytes_of b)) None ≡ Some (Changeset publisher text) → ⊥
    by false said = none-some (Changeset publisher text) said
    by true said = none-some text (sym (text_is_none (bytes_of b)) ∙ ap text_in said)
changeset_words line (a ∷ b ∷ c ∷ []) n publisher text short split is = by_name (same_bytes a (codes "changeset")) refl is
  where
    by_bytes : (p : ℕ) (bytes : Option (List ℕ)) → same_bytes a (codes "changeset") ≡ true
        → number_in_word b ≡ Some p → ltb p 64 ≡ true → bytes_of c ≡ bytes
        → changeset_of_bytes p bytes ≡ Some (Changeset publisher text)
        → SpellsChangeset line (given_at n publisher text)
    by_bytes p None named numbered few hex said = absurd (none-some (Changeset publisher text) said)
    by_bytes p (Some bytes) named numbered few hex said = record {
      number = b;
      word = c;
      words = split ∙ ap (λ (w : List ℕ). w ∷ b ∷ c ∷ []) (same_text a (codes "changeset") (sym named));
      publisher = numbered ∙ ap publisher_in said;
      few = subst IsBelow (ap publisher_in said) (ltb-true p 64 few);
      hex = hex ∙ ap text_in said;
      short = short;
    }

    by_few : (p : ℕ) (t : Bool) → same_bytes a (codes "changeset") ≡ true → number_in_word b ≡ Some p → ltb p 64 ≡ t
        → cond t (changeset_of_bytes p (bytes_of c)) None ≡ Some (Changeset publisher text)
        → SpellsChangeset line (given_at n publisher text)
    by_few p false named numbered few said = absurd (none-some (Changeset publisher text) said)
    by_few p true named numbered few said = by_bytes p (bytes_of c) named numbered few refl said

    by_number : (number : Option ℕ) → same_bytes a (codes "changeset") ≡ true → number_in_word b ≡ number
        → changeset_of number (bytes_of c) ≡ Some (Changeset publisher text)
        → SpellsChangeset line (given_at n publisher text)
    by_number None named numbered said = absurd (none-some (Changeset publisher text) said)
    by_number (Some p) named numbered said = by_few p (ltb p 64) named numbered refl said

    by_name : (t : Bool) → same_bytes a (codes "changeset") ≡ t
        → cond t (changeset_of (number_in_word b) (bytes_of c)) None ≡ Some (Changeset publisher text)
        → SpellsChangeset line (given_at n publisher text)
    by_name false named said = absurd (none-some (Changeset publisher text) said)
    by_name true named said = by_number (number_in_word b) named refl said
changeset_words line (a ∷ b ∷ c ∷ d ∷ more) n publisher text short split is = absurd (none-some (Changeset publisher text) is)

pub table_spelled : (line : List ℕ) (shape : Shape) → length line ≤ most_of_line
    → entry_spelled line ≡ Some (Table shape) → SpellsTable line shape
table_spelled line shape short is = table_words line (words_of line) shape short refl is

pub changeset_spelled : (line : List ℕ) (n publisher : ℕ) (text : List ℕ) → length line ≤ most_of_line
    → entry_spelled line ≡ Some (Changeset publisher text) → SpellsChangeset line (given_at n publisher text)
changeset_spelled line n publisher text short is = changeset_words line (words_of line) n publisher text short refl is
