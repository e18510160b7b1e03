-- Answers to the lines of a cut script, joined into the answers to the script's own lines.
use Rattle.std.specs.Prelude.{ℕ, ◌||◌, ◌==◌, List, [], ◌∷◌, ◌++◌, length, take, drop}
use Rattle.std.specs.Prelude.{Option, Some, None, if◌then◌else◌, codes}
use Rattle.cs_model.specs.Schema.{same_bytes}
use Rattle.rb_script.specs.Words.{number_in_word}
use Rattle.rb_cases.specs.Pieces.{fed_parts, pieces_in}

abbrev pub last_of_answers : List (List ℕ) → List ℕ
last_of_answers [] = []
last_of_answers (answer ∷ []) = answer
last_of_answers (answer ∷ next ∷ answers) = last_of_answers (next ∷ answers)

-- the first answer that is neither `ok` nor `last`; `last` if there is none
abbrev pub other_than : List ℕ → List (List ℕ) → List ℕ
other_than last [] = last
other_than last (answer ∷ answers) = if same_bytes answer (codes "ok") || same_bytes answer last
    then other_than last answers else answer

-- the answer to a line, by the answers to its pieces
abbrev pub piece_answer : List (List ℕ) → List ℕ
piece_answer answers = other_than (last_of_answers answers) answers

-- how many lines follow an answer: that number of rows
abbrev pub number_or_none : Option ℕ → ℕ
number_or_none None = 0
number_or_none (Some number) = number

abbrev pub rows_after : List ℕ → ℕ
rows_after answer = if same_bytes (take 5 answer) (codes "rows ") then
    number_or_none (number_in_word (drop 5 answer)) else 0

-- of some answers, those to a line of so many pieces, and what is left
abbrev pub answers_kept : ℕ → List (List ℕ) → List (List ℕ)
answers_kept n given = piece_answer (take n given)
    ∷ take (rows_after (piece_answer (take n given))) (drop n given)

abbrev pub left_after : ℕ → List (List ℕ) → List (List ℕ)
left_after n given = drop (rows_after (piece_answer (take n given))) (drop n given)

-- the same of a line; an empty one has no answer
abbrev pub answers_to : ℕ → List ℕ → List (List ℕ) → List (List ℕ)
answers_to most line given = if length line == 0 then [] else
    answers_kept (pieces_in (fed_parts line) most) given

abbrev pub left_for_line : ℕ → List ℕ → List (List ℕ) → List (List ℕ)
left_for_line most line given = if length line == 0 then given else
    left_after (pieces_in (fed_parts line) most) given

abbrev pub joined_answers : ℕ → List (List ℕ) → List (List ℕ) → List (List ℕ)
joined_answers most [] given = given
joined_answers most (line ∷ lines) given =
    answers_to most line given ++ joined_answers most lines (left_for_line most line given)
