-- Every subscription of a script begins with empty tables: no line makes one that keeps no rows.
use Rattle.std.proofs.Common.{◌≡◌, ℕ, Bool, true, false, cond, ltb, List, [], ◌∷◌, length, Option, Some, None, Ok}
use Rattle.std.proofs.Common.{refl, ap, map, codes, option_map, arith}
use Rattle.std.specs.Prelude.{slice_get}
use Rattle.std.specs.List.{AllByRecursion}
use Rattle.cs_apply.specs.State.{TableState}
use Rattle.cs_model.proofs.CallerLemmas.{all_append}
use Rattle.cs_model.specs.declared.shape.Shape.{Shape}
use Rattle.cs_model.specs.Schema.{same_bytes}
use Rattle.rb_core.proofs.headline.Moving.{all_get}
use Rattle.rb_core.proofs.whole_runs.ToldLaws.{mapped_in}
use Rattle.rb_core.specs.declared.event.Event.{Event}
use Rattle.rb_core.specs.declared.event.Event.TheVariants as event
use Rattle.rb_core.specs.declared.reply.Reply.TheVariants as reply
use Rattle.rb_core.specs.Run.{Answer}
use Rattle.rb_core.specs.State.{empty_tables}
use Rattle.rb_core.specs.Told.{all_tables_asked, tables_asked, world_told}
use Rattle.rb_core.specs.World.{Subscriber}
use Rattle.rb_script.specs.declared.forms.Form.{Form}
use Rattle.rb_script.specs.declared.forms.Form.TheVariants as form
use Rattle.rb_script.specs.Words.{words_of, number_in_word, bytes_of}
use Rattle.rb_script.specs.Forms.{one_word, two_words, name_and_number, two_numbers, fed_form, crash_form}
use Rattle.rb_script.specs.Forms.{number_and_word}
use Rattle.rb_script.specs.Forms.{form_of_words, form_of}
use Rattle.rb_script.specs.Lines.{most_of_line}
use Rattle.rb_script.specs.Script.{event_in, event_of, with_event, lines_events}

-- ---- what is asked for

abbrev AreEmpty : List Shape → TableState → Type 0
AreEmpty schema begun = begun ≡ empty_tables schema

-- the event makes no subscription that keeps no rows
abbrev MakesNoBare : Event → Type 0
MakesNoBare (event.SubscribeBare start) = ⊥
MakesNoBare other = Unit {0}

asked_empty : (schema : List Shape) (event : Event) (answer : Answer) → MakesNoBare event
    → AllByRecursion (AreEmpty schema) (tables_asked schema event answer)
asked_empty schema (event.Subscribe start) (Ok (reply.Subscriber s link)) keeps = (refl, tt)
asked_empty schema (event.SubscribeBare start) answer keeps = absurd keeps
asked_empty schema event answer keeps = tt

all_asked_empty : (schema : List Shape) (events : List Event) (answers : List Answer)
    → AllByRecursion MakesNoBare events
    → AllByRecursion (AreEmpty schema) (all_tables_asked schema events answers)
all_asked_empty schema [] answers keeps = tt
all_asked_empty schema (event ∷ events) [] keeps = tt
all_asked_empty schema (event ∷ events) (answer ∷ answers) keeps =
    all_append (AreEmpty schema) (tables_asked schema event answer)
    (all_tables_asked schema events answers) (asked_empty schema event answer keeps.0)
    (all_asked_empty schema events answers keeps.1)

-- ---- the forms of lines

abbrev NoneBare : Option Form → Type 0
NoneBare o = (start : ℕ) → o ≡ Some (form.Happens (event.SubscribeBare start)) → ⊥

one_bare : (name : List ℕ) → NoneBare (one_word name)
one_bare name start h = grind (arith)

number_bare : (name : List ℕ) (o : Option ℕ) → NoneBare (name_and_number name o)
number_bare name None start h = cc h
number_bare name (Some n) start h = grind (arith)

numbers_bare : (name : List ℕ) (s : ℕ) (o : Option ℕ) → NoneBare (two_numbers name s o)
numbers_bare name s None start h = cc h
numbers_bare name s (Some n) start h = grind (arith)

table_bare : (o : Option (List ℕ)) → NoneBare (option_map form.Table o)
table_bare None start h = cc h
table_bare (Some table) start h = cc h

two_bare : (name word : List ℕ) → NoneBare (two_words name word)
two_bare name word = by (same_bytes name (codes "table"))
  where
    by : (t : Bool) → NoneBare
        (cond t (option_map form.Table (bytes_of word)) (name_and_number name (number_in_word word)))
    by true = table_bare (bytes_of word)
    by false = number_bare name (number_in_word word)

fed_bare : (p : ℕ) (o : Option (List ℕ)) → NoneBare (fed_form p o)
fed_bare p None start h = cc h
fed_bare p (Some bytes) start h = cc h

crash_bare : (d : ℕ) (word : List ℕ) → NoneBare (crash_form d word)
crash_bare d word start h = grind (arith)

other_bare : (name : List ℕ) (n : ℕ) (word : List ℕ) → NoneBare
    (cond (same_bytes name (codes "crash")) (crash_form n word) (two_numbers name n (number_in_word word)))
other_bare name n word = by (same_bytes name (codes "crash"))
  where
    by : (t : Bool) → NoneBare (cond t (crash_form n word) (two_numbers name n (number_in_word word)))
    by true = crash_bare n word
    by false = numbers_bare name n (number_in_word word)

word_bare : (name : List ℕ) (o : Option ℕ) (word : List ℕ) → NoneBare (number_and_word name o word)
word_bare name None word = λ start h. cc h
word_bare name (Some n) word = by (same_bytes name (codes "feed"))
  where
    by : (t : Bool) → NoneBare (cond t (fed_form n (bytes_of word))
        (cond (same_bytes name (codes "crash")) (crash_form n word) (two_numbers name n (number_in_word word))))
    by true = fed_bare n (bytes_of word)
    by false = other_bare name n word

words_bare : (words : List (List ℕ)) → NoneBare (form_of_words words)
words_bare [] start h = cc h
words_bare (name ∷ []) start h = one_bare name start h
words_bare (name ∷ word ∷ []) start h = two_bare name word start h
words_bare (name ∷ number ∷ word ∷ []) start h = word_bare name (number_in_word number) word start h
words_bare (name ∷ number ∷ word ∷ more ∷ rest) start h = cc h

-- ---- the events in lines

abbrev EventNoneBare : Option Event → Type 0
EventNoneBare None = Unit {0}
EventNoneBare (Some event) = MakesNoBare event

event_none_bare : (e : Event) → ((start : ℕ) → e ≡ event.SubscribeBare start → ⊥) → MakesNoBare e
event_none_bare (event.SubscribeBare start) h = h start refl
event_none_bare other h = tt

form_none_bare : (o : Option Form) → NoneBare o → EventNoneBare (event_in o)
form_none_bare None h = tt
form_none_bare (Some (form.Table bytes)) h = tt
form_none_bare (Some (form.Happens e)) h =
    event_none_bare e (λ start is. h start (ap (λ (x : Event). Some (form.Happens x)) is))
form_none_bare (Some (form.Entry n)) h = tt
form_none_bare (Some (form.Combine first last)) h = tt
form_none_bare (Some (form.Rows s)) h = tt
form_none_bare (Some form.Left) h = tt

line_none_bare : (line : List ℕ) → EventNoneBare (event_of line)
line_none_bare line = by (ltb most_of_line (length line))
  where
    by : (t : Bool) → EventNoneBare (cond t None (event_in (form_of line)))
    by true = tt
    by false = form_none_bare (form_of line) (words_bare (words_of line))

none_bare_with_one : (o : Option Event) (events : List Event) → EventNoneBare o → AllByRecursion MakesNoBare events
    → AllByRecursion MakesNoBare (with_event o events)
none_bare_with_one None events h rest = rest
none_bare_with_one (Some event) events h rest = (h, rest)

lines_none_bare : (lines : List (List ℕ)) → AllByRecursion MakesNoBare (lines_events lines)
lines_none_bare [] = tt
lines_none_bare (line ∷ lines) =
    none_bare_with_one (event_of line) (lines_events lines) (line_none_bare line) (lines_none_bare lines)

-- ---- the subscriptions

-- where the tables that subscriptions begin with are those asked for
pub script_begins_empty : (schema : List Shape) (lines : List (List ℕ)) (answers : List Answer)
    → map (λ q. q.base) (world_told schema (lines_events lines) answers).subscribers
    ≡ all_tables_asked schema (lines_events lines) answers → (s : ℕ) (subscriber : Subscriber)
    → slice_get (world_told schema (lines_events lines) answers).subscribers s ≡ Some subscriber
    → subscriber.base ≡ empty_tables schema
script_begins_empty schema lines answers asked s subscriber found =
    let begun = all_tables_asked schema (lines_events lines) answers in
    all_get (AreEmpty schema) begun s subscriber.base
    (all_asked_empty schema (lines_events lines) answers (lines_none_bare lines))
    (mapped_in (λ q. q.base) (world_told schema (lines_events lines) answers).subscribers begun
    asked s subscriber found)
