-- What the lines of an input come to: the changesets that their publishers send, and the faulty
-- lines.
use Rattle.std.specs.Prelude.{◌≡◌, ◌≤◌, ◌==◌, ◌-◌, ℕ, suc, ◌+◌, List, [], ◌∷◌, ◌++◌, length, take}
use Rattle.std.specs.Prelude.{Result, Ok, Err, IsPermutation, max, slice_index_or}
use Rattle.std.specs.List.{filter}
use Rattle.std.specs.List.Sorted.{IsNonDecreasingBy}
use Rattle.cs_model.specs.declared.origin.Origin.TheVariants.{Sent}
use Rattle.cs_model.specs.declared.shape.Shape.{Shape}
use Rattle.cs_model.specs.Section.{Section}
use Rattle.cs_parse.specs.declared.end.EndError.{EndError}
use Rattle.cs_parse.specs.End.{admitted_answer}
use Rattle.cs_parse.specs.Reading.{answer_of}
use Rattle.rb_sequence.specs.Item.{Item}
use Rattle.rb_broker.specs.Publishers.{PublisherView}
use Rattle.rb_drive.specs.declared.input.Given.{Given}
use Rattle.rb_drive.specs.declared.publishing.FaultyLine.{FaultyLine}

-- ---- lines

-- the changeset that a line gives: the one that its bytes encode, if the tables admit it, or why
-- there is none
abbrev pub given_answer : List Shape → List ℕ → Result (List Section) EndError
given_answer schema text = admitted_answer schema (answer_of text)

abbrev pub and_given : Result (List Section) EndError → List (List Section) → List (List Section)
and_given (Ok body) bodies = body ∷ bodies
and_given (Err why) bodies = bodies

-- the changesets that lines give, in their order, without the faulty lines
abbrev pub given_bodies : List Shape → List Given → List (List Section)
given_bodies schema [] = []
given_bodies schema (given ∷ givens) =
    and_given (given_answer schema given.text) (given_bodies schema givens)

abbrev pub and_faulty : Given → Result (List Section) EndError → List FaultyLine
    → List FaultyLine
and_faulty given (Ok body) lines = lines
and_faulty given (Err why) lines =
    record { line = given.line; publisher = given.publisher; why = why } ∷ lines

-- the faulty lines among these, in their order, each with what is wrong with it
abbrev pub faulty_lines : List Shape → List Given → List FaultyLine
faulty_lines schema [] = []
faulty_lines schema (given ∷ givens) =
    and_faulty given (given_answer schema given.text) (faulty_lines schema givens)

-- what a publisher sends that sends these changesets; the first is its n-th
abbrev pub sent_bodies : ℕ → ℕ → List (List Section) → List Item
sent_bodies p n [] = []
sent_bodies p n (body ∷ bodies) =
    record { publisher = p; own = n; origin = Sent; body = body } ∷ sent_bodies p (suc n) bodies

-- ---- publishers

-- the lines of a publisher among these, in their order
abbrev pub own_lines : ℕ → List Given → List Given
own_lines p givens = filter (λ given. given.publisher == p) givens

-- how many publishers these lines have: one more than the greatest number
abbrev pub publishers_in : List Given → ℕ
publishers_in [] = 0
publishers_in (given ∷ givens) = max (suc given.publisher) (publishers_in givens)

-- each publisher has its own lines, from publisher 0 to the greatest that has one
pub record AreByPublisher (givens : List Given) (lines : List (List Given)) : Type 0 where
  pub count : length lines ≡ publishers_in givens
  pub own : (p : ℕ) → slice_index_or lines p [] ≡ own_lines p givens

-- The publisher has this number and these tables. Of its lines so many are done: it sent the
-- changesets that they give, in their order, and nothing else.
pub record HasSentLines (schema : List Shape) (number : ℕ) (lines : List Given) (done : ℕ)
    (p : PublisherView) : Type 0 where
  pub number_is : p.number ≡ number
  pub within : done ≤ length lines
  pub sent : p.sent ≡ sent_bodies number 1 (given_bodies schema (take done lines))

-- The publishers have the numbers from n on. Each has sent of its lines so many.
abbrev pub HaveSentLines : List Shape → ℕ → List (List Given) → List ℕ → List PublisherView
    → Type 0
HaveSentLines schema n [] [] [] = Unit {0}
HaveSentLines schema n (lines ∷ more) (done ∷ dones) (p ∷ publishers) =
    HasSentLines schema n lines done p × HaveSentLines schema (suc n) more dones publishers
HaveSentLines schema n lines dones publishers = ⊥

-- how many lines are not done, of all publishers
abbrev pub unsent_lines : List (List Given) → List ℕ → ℕ
unsent_lines (lines ∷ more) (done ∷ dones) = (length lines - done) + unsent_lines more dones
unsent_lines lines dones = 0

-- the faulty lines among those that are done, one publisher's after another's
abbrev pub faulty_done : List Shape → List (List Given) → List ℕ → List FaultyLine
faulty_done schema (lines ∷ more) (done ∷ dones) =
    faulty_lines schema (take done lines) ++ faulty_done schema more dones
faulty_done schema lines dones = []

-- the same lines, by rising number
abbrev pub AreByNumber : List FaultyLine → List FaultyLine → Type 0
AreByNumber lines ordered = IsPermutation lines ordered
    × IsNonDecreasingBy (λ one. one.line) ordered
