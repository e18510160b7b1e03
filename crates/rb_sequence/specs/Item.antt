-- Items as values.
use Rattle.std.specs.Prelude.{ℕ, List}
use Rattle.cs_model.specs.declared.origin.Origin.{Origin}
use Rattle.cs_model.specs.Section.{Section}

-- An item: a changeset that a publisher sent, the number of the publisher, from 0, the changeset's
-- number among that publisher's sendings, from 1, and why it was sent: it was fed, or it withdraws
-- an entry.
pub record Item : Type 0 where
  pub publisher : ℕ
  pub own : ℕ
  pub origin : Origin
  pub body : List Section
