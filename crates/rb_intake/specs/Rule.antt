-- The rule of an intake: what holds, between any two steps of any threads, of the items that wait
-- and of what the passes know.
use Rattle.std.specs.Prelude.{◌≡◌, ℕ, suc, ◌<◌, ◌≤◌, List, [], ◌∷◌, ◌++◌, Option, Some, None}
use Rattle.std.specs.List.{AllByRecursion}
use mathlib.Core.Option.{some}
use lib.ListN.{get_elem?}
use Rattle.rb_sequence.specs.Item.{Item}
use Rattle.rb_sequence.specs.Items.{own_of, CountsUp}
use Rattle.rb_intake.specs.Joined.{JoinedOnce}
use Rattle.rb_intake.specs.declared.known.Known.{Known}
use Rattle.rb_intake.specs.declared.known.Known.TheVariants.{Starts, Makes, Sends, Pulls, Ends}
use Rattle.rb_intake.specs.declared.known.Known.TheVariants.{Spent}

-- What happened to an intake: all items that were sent, in the order in which they came in, and
-- those of them that were pulled. The numbers of the passes: the sequencer's, the maker's, and that
-- of each publisher that may still send. How many publishers were made.
pub record History : Type 0 where
  pub sent : List Item
  pub pulled : List Item
  pub reader : ℕ
  pub maker : ℕ
  pub made : ℕ
  pub pass_of : ℕ → Option ℕ

-- a publisher whose pass was joined sends nothing more, and what it sent is known
abbrev pub HasEnded : History → ℕ × List Item → Type 0
HasEnded h e = (h.pass_of e.0 ≡ None) × (e.0 < h.made) × (e.1 ≡ own_of e.0 h.sent)

-- what the pass with this number knows is so
abbrev pub IsSo : History → ℕ → Known → Type 0
IsSo h pass Starts = (pass ≡ h.reader) × (pass ≡ h.maker) × (h.made ≡ 0) × (h.sent ≡ [])
IsSo h pass (Makes n) = (pass ≡ h.maker) × (n ≡ h.made)
IsSo h pass (Sends p items) = (h.pass_of p ≡ Some pass) × (items ≡ own_of p h.sent) × (p < h.made)
IsSo h pass (Pulls items ended) = (pass ≡ h.reader) × (items ≡ h.pulled)
    × AllByRecursion (HasEnded h) ended × JoinedOnce ended
IsSo h pass (Ends items ended n) = (pass ≡ h.reader) × (items ≡ h.pulled)
    × AllByRecursion (HasEnded h) ended × (pass ≡ h.maker) × (n ≡ h.made) × JoinedOnce ended
IsSo h pass Spent = Unit {0}

-- What was sent is what was pulled, then what waits. Each publisher's own numbers count from 1.
-- Nobody sends under a number that wasn't given out. What each pass knows is so.
pub record FitsHistory (h : History) (waiting : List Item) (views : List Known) : Type 0 where
  pub waits : h.sent ≡ h.pulled ++ waiting
  pub numbered : (p : ℕ) → CountsUp p h.sent
  pub later : (p : ℕ) → h.made ≤ p → (h.pass_of p ≡ None) × (own_of p h.sent ≡ [])
  pub known : (pass : ℕ) (v : Known) → get_elem? views pass ≡ some v → IsSo h pass v

abbrev pub KeepsOrder : List Item → List Known → Type 0
KeepsOrder waiting views = (h : History) × FitsHistory h waiting views

-- ---- what the kinds of step do to what a pass knows

-- A pass makes another: the first becomes the sequencer's and makes the maker's, and the maker's
-- makes that of one more publisher, which has sent nothing.
abbrev pub after_making : Known → Known
after_making Starts = Pulls [] []
after_making (Makes n) = Makes (suc n)
after_making v = v

abbrev pub newcomer : Known → Known
newcomer Starts = Makes 0
newcomer (Makes n) = Sends n []
newcomer v = Spent

-- an item is sent, or pulled
abbrev pub sent_one : Known → Item → Known
sent_one (Sends p items) x = Sends p (items ++ x ∷ [])
sent_one v x = v

abbrev pub pulled_one : Known → Item → Known
pulled_one (Pulls items ended) x = Pulls (items ++ x ∷ []) ended
pulled_one (Ends items ended n) x = Ends (items ++ x ∷ []) ended n
pulled_one v x = v

-- the sequencer's pass joins a publisher's, or the maker's
abbrev pub taken_in : Known → Known → Known
taken_in (Pulls items ended) (Sends p sent) = Pulls items (ended ++ (p, sent) ∷ [])
taken_in (Pulls items ended) (Makes n) = Ends items ended n
taken_in v w = v

-- ---- what a pass knows, in parts

abbrev pub sent_in : Known → List Item
sent_in (Sends p items) = items
sent_in v = []

abbrev pub pulled_in : Known → List Item
pulled_in (Pulls items ended) = items
pulled_in (Ends items ended n) = items
pulled_in v = []

abbrev pub ended_in : Known → List (ℕ × List Item)
ended_in (Pulls items ended) = ended
ended_in (Ends items ended n) = ended
ended_in v = []

abbrev pub made_in : Known → ℕ
made_in (Ends items ended n) = n
made_in v = 0

-- what a joined publisher sent was pulled or waits
abbrev pub IsPulledOr : List Item → List Item → ℕ × List Item → Type 0
IsPulledOr pulled waiting e = e.1 ≡ own_of e.0 (pulled ++ waiting)

-- What each joined publisher sent was pulled or waits, and nothing was sent by a publisher that was
-- never made.
abbrev pub AreWhole : Known → List Item → Type 0
AreWhole v waiting = AllByRecursion (IsPulledOr (pulled_in v) waiting) (ended_in v)
    × ((p : ℕ) → made_in v ≤ p → own_of p (pulled_in v ++ waiting) ≡ []) × JoinedOnce (ended_in v)

-- what was pulled of each joined publisher is the front of what it sent
abbrev pub AreBegun : List Item → List (ℕ × List Item) → Type 0
AreBegun pulled ended = (waiting : List Item) × AllByRecursion (IsPulledOr pulled waiting) ended

-- so it is, and nothing was pulled of a publisher that was never made
abbrev pub AreFronts : Known → Type 0
AreFronts v = AreBegun (pulled_in v) (ended_in v)
    × ((p : ℕ) → made_in v ≤ p → own_of p (pulled_in v) ≡ [])
