-- What an owner keeps from the beginning of its thread to its end, for private clauses.
use Rattle.std.specs.Prelude.{ℕ, suc, List, [], ◌∷◌}
use Rattle.cs_apply.specs.State as tables
use Rattle.cs_model.specs.declared.shape.Shape.{Shape}
use Rattle.rb_broker.specs.Publishers.{PublisherView}
use Rattle.rb_subscriber.specs.Subscription.{SubscriptionState}
use Rattle.rb_drive.specs.declared.input.Given.{Given}

-- a publisher's number, its tables and its lines
abbrev pub KeptLines : Type 0
KeptLines = ℕ × (List Shape × List Given)

abbrev pub publisher_lines : PublisherView → List Given → KeptLines
publisher_lines p lines = (p.number, (p.schema, lines))

-- these lines, given to publishers with these tables, the first of which has number n
abbrev pub numbered_lines : ℕ → List Shape → List (List Given) → List KeptLines
numbered_lines n schema [] = []
numbered_lines n schema (lines ∷ more) =
    (n, (schema, lines)) ∷ numbered_lines (suc n) schema more

-- where a subscription begins, and its first tables
abbrev pub beginning_of : SubscriptionState → ℕ × tables.TableState
beginning_of s = (s.start, s.base)
