-- Codes in words.
use Rattle.std.specs.Prelude.{ℕ, ℤ, pos, negsuc, suc, List, [], ◌∷◌, ◌++◌, ◌==◌, codes}
use Rattle.std.specs.Prelude.{if◌then◌else◌}

-- a number that is no code
abbrev pub unknown : List ℕ
unknown = codes "unknown code"

-- the words of 0 and above
abbrev pub words_above : ℕ → List ℕ
words_above n =
    if n == 0 then codes "ok" else
    if n == 1 then codes "nothing waits to be placed" else
    unknown

-- the words of -n
abbrev pub words_below : ℕ → List ℕ
words_below n =
    if n == 1 then codes "the handle is shut" else
    if n == 2 then codes "memory ran out" else
    if n == 3 then codes "the stream spells no changeset" else
    if n == 4 then codes "a limit is out of its range" else
    if n == 5 then codes "a table is refused" else
    if n == 6 then codes "another call is in the handle" else
    if n == 10 then codes "no publisher has this number" else
    if n == 11 then codes "there are too many publishers or subscriptions" else
    if n == 12 then codes "a changeset is staged already" else
    if n == 13 then codes "nothing is staged" else
    if n == 14 then codes "the sequence or the subscription is closed" else
    if n == 15 then codes "the intake is full" else
    if n == 16 then codes "no entry has this number" else
    if n == 17 then codes "another publisher sent the entry" else
    if n == 18 then codes "the entry is withdrawn already" else
    if n == 19 then codes "the sequence is full" else
    if n == 20 then codes "a section is of a table that is not the broker's" else
    if n == 21 then codes "a section has another shape than its table" else
    if n == 22 then codes "all steps are made" else
    if n == 23 then codes "other changesets wait to be placed" else
    if n == 30 then codes "no subscription has this number" else
    if n == 31 then codes "the subscription has another link now" else
    if n == 32 then codes "the window is full" else
    if n == 33 then codes "no delivery has this number" else
    if n == 34 then codes "the delivery is not in flight" else
    if n == 35 then codes "the delivery is accepted already" else
    if n == 36 then codes "all is settled, and nothing more comes" else
    if n == 37 then codes "nothing is ready" else
    if n == 38 then codes "not all of the delivery is accepted" else
    if n == 39 then codes "the cursor is out of its range" else
    if n == 40 then codes "the start is not placed" else
    if n == 41 then codes "other entries come first" else
    if n == 42 then codes "an entry is of other tables than the subscription's" else
    if n == 43 then codes "a change conflicts with the rows" else
    if n == 44 then codes "the subscription has not fallen" else
    if n == 45 then codes "the subscription has fallen" else
    if n == 46 then codes "no table has this place" else
    if n == 47 then codes "no row has this key" else
    unknown

-- the words of a code, and those of a number that is no code
abbrev pub code_words : ℤ → List ℕ
code_words (pos n) = words_above n
code_words (negsuc n) = words_below (suc n)

-- words, and a zero byte after them
abbrev pub zero_ended : List ℕ → List ℕ
zero_ended words = words ++ 0 ∷ []

abbrev pub message_of : ℤ → List ℕ
message_of code = zero_ended (code_words code)
