-- What an owner has seen of its broker's history of steps.
use Rattle.std.specs.Prelude.{◌≡◌, ℕ, List, [], ◌∷◌, ◌++◌, map}
use Rattle.rb_desk.specs.declared.step.Step.{Step}
use Rattle.rb_desk.specs.Journaled.{JournaledPicture}
use Rattle.rb_desk.specs.Limits.{Limits}
use Rattle.rb_desk.specs.Steps.{replay}
use Rattle.rb_history.specs.Kept.{count_under}

-- An owner of a broker: its number, and the beginning of the history that it has seen. Each step of
-- the history stands under the number of the owner that made it.
pub record Owner : Type 0 where
  pub number : ℕ
  pub seen : List (ℕ × Step)

-- the steps, whoever made them
abbrev pub steps_made : List (ℕ × Step) → List Step
steps_made history = map (λ t. t.1) history

-- the desk of a broker with these limits after this history
abbrev pub desk_after : Limits → List (ℕ × Step) → JournaledPicture
desk_after limits history = record {
  picture = replay limits (steps_made history);
  steps = steps_made history;
}

-- Since the owner looked, others alone have made steps, and the history is this one now.
abbrev pub OthersSince : Owner → List (ℕ × Step) → Type 0
OthersSince me history = (others : List (ℕ × Step)) × (me.seen ++ others ≡ history)
    × (count_under me.number others ≡ 0)

-- the owner, when it has seen this history
abbrev pub has_seen : Owner → List (ℕ × Step) → Owner
has_seen me history = record me { seen = history }
