-- The lines of a script feed bytes.
use Rattle.std.proofs.Common.{◌≡◌, ℕ, Bool, true, false, cond, ltb, List, [], ◌∷◌, length, Option, Some, None, Result}
use Rattle.std.proofs.Common.{Ok, Err, refl, ap, subst, codes, option_map, arith}
use Rattle.std.specs.List.{AllByRecursion}
use Rattle.std.specs.Result.{result_ok}
use Rattle.hex.specs.Hex.{decode_of, decode_pairs}
use Rattle.hex.specs.declared.error.FromHexError.{FromHexError}
use Rattle.hex.proofs.HexLemmas.{decode_pairs-ok}
use Rattle.cs_model.specs.Bytes.{AreBytes}
use Rattle.cs_model.specs.Schema.{same_bytes}
use Rattle.rb_core.specs.declared.event.Event.{Event}
use Rattle.rb_core.specs.declared.event.Event.TheVariants as event
use Rattle.rb_core.specs.Run.{FeedsBytes}
use Rattle.rb_script.specs.declared.forms.Form.{Form}
use Rattle.rb_script.specs.declared.forms.Form.TheVariants as form
use Rattle.rb_script.specs.Words.{words_of, number_in_word, bytes_of}
use Rattle.rb_script.specs.Forms.{one_word, two_words, name_and_number, two_numbers, fed_form, crash_form}
use Rattle.rb_script.specs.Forms.{number_and_word}
use Rattle.rb_script.specs.Forms.{form_of_words, form_of}
use Rattle.rb_script.specs.Lines.{most_of_line}
use Rattle.rb_script.specs.Script.{event_in, event_of, with_event, lines_events}

-- what is read of a word are bytes
abbrev SaysBytes : Option (List ℕ) → Type 0
SaysBytes None = Unit {0}
SaysBytes (Some bytes) = AreBytes bytes

decoded : (r : Result (List ℕ) FromHexError) → ((bytes : List ℕ) → r ≡ Ok bytes → AreBytes bytes)
    → SaysBytes (result_ok r)
decoded (Ok bytes) h = h bytes refl
decoded (Err e) h = tt

decoded_pairs : (odd : Bool) (word bytes : List ℕ) (e : FromHexError) → cond odd (Err e) (decode_pairs 0 word)
    ≡ Ok bytes → AreBytes bytes
decoded_pairs true word bytes e h = cc h
decoded_pairs false word bytes e h = (decode_pairs-ok 0 word bytes h).2

bytes_said : (word : List ℕ) → SaysBytes (bytes_of word)
bytes_said [] = tt
bytes_said (b ∷ bs) = by (same_bytes (b ∷ bs) (codes "-"))
  where
    by : (t : Bool) → SaysBytes (cond t (Some []) (result_ok (decode_of (b ∷ bs))))
    by true = λ i. omega arith
    by false = decoded (decode_of (b ∷ bs)) (λ bytes h. decoded_pairs _ (b ∷ bs) bytes _ h)

-- a form feeds bytes, if any
abbrev Feeds : Option Form → Type 0
Feeds o = (p : ℕ) (bytes : List ℕ) → o ≡ Some (form.Happens (event.Feed p bytes)) → AreBytes bytes

abbrev FeedsNone : Option Form → Type 0
FeedsNone o = (p : ℕ) (bytes : List ℕ) → o ≡ Some (form.Happens (event.Feed p bytes)) → ⊥

one_feeds : (name : List ℕ) → FeedsNone (one_word name)
one_feeds name p bytes h = grind (arith)

number_feeds : (name : List ℕ) (o : Option ℕ) → FeedsNone (name_and_number name o)
number_feeds name None p bytes h = cc h
number_feeds name (Some n) p bytes h = grind (arith)

numbers_feed : (name : List ℕ) (s : ℕ) (o : Option ℕ) → FeedsNone (two_numbers name s o)
numbers_feed name s None p bytes h = cc h
numbers_feed name s (Some n) p bytes h = grind (arith)

table_feeds : (o : Option (List ℕ)) → FeedsNone (option_map form.Table o)
table_feeds None p bytes h = cc h
table_feeds (Some table) p bytes h = cc h

two_feed : (name word : List ℕ) → FeedsNone (two_words name word)
two_feed name word = by (same_bytes name (codes "table"))
  where
    by : (t : Bool) → FeedsNone
        (cond t (option_map form.Table (bytes_of word)) (name_and_number name (number_in_word word)))
    by true = table_feeds (bytes_of word)
    by false = number_feeds name (number_in_word word)

-- what a form feeds
abbrev bytes_in : List ℕ → Event → List ℕ
bytes_in none (event.Feed p bytes) = bytes
bytes_in none other = none

abbrev form_bytes : List ℕ → Option Form → List ℕ
form_bytes none (Some (form.Happens event)) = bytes_in none event
form_bytes none other = none

fed_feeds : (p : ℕ) (o : Option (List ℕ)) → SaysBytes o → Feeds (fed_form p o)
fed_feeds p None says q bytes h = cc h
fed_feeds p (Some word) says q bytes h = subst AreBytes (ap (form_bytes []) h) says

crash_feeds : (d : ℕ) (word : List ℕ) → FeedsNone (crash_form d word)
crash_feeds d word p bytes h = grind (arith)

other_feeds : (name : List ℕ) (n : ℕ) (word : List ℕ) → FeedsNone
    (cond (same_bytes name (codes "crash")) (crash_form n word) (two_numbers name n (number_in_word word)))
other_feeds name n word = by (same_bytes name (codes "crash"))
  where
    by : (t : Bool) → FeedsNone (cond t (crash_form n word) (two_numbers name n (number_in_word word)))
    by true = crash_feeds n word
    by false = numbers_feed name n (number_in_word word)

word_feeds : (name : List ℕ) (o : Option ℕ) (word : List ℕ) → Feeds (number_and_word name o word)
word_feeds name None word = λ p bytes h. cc h
word_feeds name (Some n) word = by (same_bytes name (codes "feed"))
  where
    by : (t : Bool) → Feeds (cond t (fed_form n (bytes_of word))
        (cond (same_bytes name (codes "crash")) (crash_form n word) (two_numbers name n (number_in_word word))))
    by true = fed_feeds n (bytes_of word) (bytes_said word)
    by false = λ p bytes h. absurd (other_feeds name n word p bytes h)

words_feed : (words : List (List ℕ)) → Feeds (form_of_words words)
words_feed [] p bytes h = cc h
words_feed (name ∷ []) p bytes h = absurd (one_feeds name p bytes h)
words_feed (name ∷ word ∷ []) p bytes h = absurd (two_feed name word p bytes h)
words_feed (name ∷ number ∷ word ∷ []) p bytes h = word_feeds name (number_in_word number) word p bytes h
words_feed (name ∷ number ∷ word ∷ more ∷ rest) p bytes h = cc h

-- and so do the events in lines
abbrev EventFeeds : Option Event → Type 0
EventFeeds None = Unit {0}
EventFeeds (Some event) = FeedsBytes event

event_feeds : (e : Event) → ((p : ℕ) (bytes : List ℕ) → e ≡ event.Feed p bytes → AreBytes bytes) → FeedsBytes e
event_feeds (event.Feed p bytes) h = h p bytes refl
event_feeds other h = tt

form_feeds : (o : Option Form) → Feeds o → EventFeeds (event_in o)
form_feeds None h = tt
form_feeds (Some (form.Table bytes)) h = tt
form_feeds (Some (form.Happens e)) h =
    event_feeds e (λ p bytes is. h p bytes (ap (λ (x : Event). Some (form.Happens x)) is))
form_feeds (Some (form.Entry n)) h = tt
form_feeds (Some (form.Combine first last)) h = tt
form_feeds (Some (form.Rows s)) h = tt
form_feeds (Some form.Left) h = tt

line_feeds : (line : List ℕ) → EventFeeds (event_of line)
line_feeds line = by (ltb most_of_line (length line))
  where
    by : (t : Bool) → EventFeeds (cond t None (event_in (form_of line)))
    by true = tt
    by false = form_feeds (form_of line) (words_feed (words_of line))

feed_with_one : (o : Option Event) (events : List Event) → EventFeeds o → AllByRecursion FeedsBytes events
    → AllByRecursion FeedsBytes (with_event o events)
feed_with_one None events h rest = rest
feed_with_one (Some event) events h rest = (h, rest)

pub lines_feed : (lines : List (List ℕ)) → AllByRecursion FeedsBytes (lines_events lines)
lines_feed [] = tt
lines_feed (line ∷ lines) = feed_with_one (event_of line) (lines_events lines) (line_feeds line) (lines_feed lines)
