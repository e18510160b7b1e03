-- The register of a broker's subscriptions, and who audits it.
use Rattle.std.specs.Prelude.{ℕ, ◌+◌, List, [], ◌∷◌}
use Rattle.std.specs.List.{AllByRecursion}
use Rattle.rb_desk.specs.declared.step.Step.{Step}
use Rattle.rb_subscriber.specs.Owner.{OthersSince}
use Rattle.rb_subscriber.specs.Subscription.{SubscriptionState}

-- how many steps were counted, of all subscriptions, and how many subscriptions were made
pub record RegisterState : Type 0 where
  pub total : ℕ
  pub made : ℕ

-- the sum of the steps of n subscriptions that were heard, and the history as it was then
pub record AuditorState : Type 0 where
  pub sum : ℕ
  pub heard : ℕ
  pub seen : List (ℕ × Step)

-- the steps of all these subscriptions together
abbrev pub all_steps : List SubscriptionState → ℕ
all_steps [] = 0
all_steps (s ∷ rest) = s.steps + all_steps rest

-- Each of these subscriptions has seen all of its own steps in this history: since it looked,
-- others alone have made steps.
abbrev pub HaveSeenTheirs : List SubscriptionState → List (ℕ × Step) → Type 0
HaveSeenTheirs all history = AllByRecursion (λ s. OthersSince s.owner history) all
