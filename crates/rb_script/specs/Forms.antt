-- The forms of lines: which words make which form.
use Rattle.std.specs.Prelude.{ℕ, true, false, List, [], ◌∷◌, Option, Some, None, option_map}
use Rattle.std.specs.Prelude.{codes, if◌then◌else◌}
use Rattle.rb_core.specs.declared.event.Event.TheVariants as event
use Rattle.cs_model.specs.Schema.{same_bytes}
use Rattle.rb_script.specs.declared.forms.Form.{Form}
use Rattle.rb_script.specs.declared.forms.Form.TheVariants.{Table, Happens, Entry, Combine}
use Rattle.rb_script.specs.declared.forms.Form.TheVariants.{Rows, Left}
use Rattle.rb_script.specs.Words.{words_of, number_in_word, bytes_of}

-- `publisher`, `turn`, `close` and `left`
abbrev pub one_word : List ℕ → Option Form
one_word name =
    if same_bytes name (codes "publisher") then Some (Happens event.Publisher)
    else if same_bytes name (codes "turn") then Some (Happens event.Turn)
    else if same_bytes name (codes "close") then Some (Happens event.Close)
    else if same_bytes name (codes "left") then Some Left
    else None

-- `reset P`, `end P`, `send P`, `subscribe START`, `takeany NOW`, `accept D`, `ack D`, `nack D`,
-- `nackopen D`, `expire NOW`, `resume S`, `unsubscribe S`, `entry N` and `rows S`
abbrev pub name_and_number : List ℕ → Option ℕ → Option Form
name_and_number name None = None
name_and_number name (Some n) =
    if same_bytes name (codes "reset") then Some (Happens (event.Reset n))
    else if same_bytes name (codes "end") then Some (Happens (event.End n))
    else if same_bytes name (codes "send") then Some (Happens (event.Send n))
    else if same_bytes name (codes "subscribe") then Some (Happens (event.Subscribe n))
    else if same_bytes name (codes "takeany") then Some (Happens (event.TakeAny n))
    else if same_bytes name (codes "accept") then Some (Happens (event.Accept n))
    else if same_bytes name (codes "ack") then Some (Happens (event.Ack n))
    else if same_bytes name (codes "nack") then Some (Happens (event.Nack n))
    else if same_bytes name (codes "nackopen") then Some (Happens (event.NackOpened n))
    else if same_bytes name (codes "expire") then Some (Happens (event.Expire n))
    else if same_bytes name (codes "resume") then Some (Happens (event.Resume n))
    else if same_bytes name (codes "unsubscribe") then Some (Happens (event.Unsubscribe n))
    else if same_bytes name (codes "entry") then Some (Entry n)
    else if same_bytes name (codes "rows") then Some (Rows n)
    else None

-- these, and `table HEX`
abbrev pub two_words : List ℕ → List ℕ → Option Form
two_words name word =
    if same_bytes name (codes "table") then option_map Table (bytes_of word) else name_and_number
    name (number_in_word word)

-- `take S NOW`, `reconnect S CURSOR`, `combine FIRST LAST` and `withdraw P N`
abbrev pub two_numbers : List ℕ → ℕ → Option ℕ → Option Form
two_numbers name s None = None
two_numbers name s (Some n) =
    if same_bytes name (codes "take") then Some (Happens (event.Take s n))
    else if same_bytes name (codes "reconnect") then Some (Happens (event.Reconnect s n))
    else if same_bytes name (codes "combine") then Some (Combine s n)
    else if same_bytes name (codes "withdraw") then Some (Happens (event.Withdraw s n))
    else None

-- `feed P HEX`
abbrev pub fed_form : ℕ → Option (List ℕ) → Option Form
fed_form p None = None
fed_form p (Some bytes) = Some (Happens (event.Feed p bytes))

-- `crash D 0` and `crash D 1`
abbrev pub crash_form : ℕ → List ℕ → Option Form
crash_form d word =
    if same_bytes word (codes "0") then Some (Happens (event.Crash d false))
    else if same_bytes word (codes "1") then Some (Happens (event.Crash d true))
    else None

-- all of these
abbrev pub number_and_word : List ℕ → Option ℕ → List ℕ → Option Form
number_and_word name None word = None
number_and_word name (Some n) word =
    if same_bytes name (codes "feed") then fed_form n (bytes_of word)
    else if same_bytes name (codes "crash") then crash_form n word
    else two_numbers name n (number_in_word word)

-- the form of these words, if they have one
abbrev pub form_of_words : List (List ℕ) → Option Form
form_of_words [] = None
form_of_words (name ∷ []) = one_word name
form_of_words (name ∷ word ∷ []) = two_words name word
form_of_words (name ∷ number ∷ word ∷ []) = number_and_word name (number_in_word number) word
form_of_words (name ∷ number ∷ word ∷ more ∷ rest) = None

-- the form of a line, if it has one
abbrev pub form_of : List ℕ → Option Form
form_of line = form_of_words (words_of line)
