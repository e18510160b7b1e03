-- The ready order and the in-flight order, computed from what is stored: the spans in each,
-- sorted by their ranks.
use Rattle.std.specs.Prelude.{ℕ, suc, List, [], ◌∷◌, ◌++◌, map, Option, Some, None, if◌then◌else◌}
use Rattle.std.specs.List.{filter_map}
use Rattle.rb_deliveries.specs.declared.rank.Rank.{Rank}
use Rattle.rb_deliveries.specs.declared.rank.Held.{Held}
use Rattle.rb_deliveries.specs.declared.span.Status.{Status}
use Rattle.rb_deliveries.specs.declared.span.Status.TheVariants.{Ready, InFlight}
use Rattle.rb_deliveries.specs.Spans.{is_ready}
use Rattle.rb_deliveries.specs.Queues.{earlier}

-- inserts an item by its rank, and sorts a list so; items with the same rank keep their order
abbrev pub placed_in : {X : Type 0} → Rank × X → List (Rank × X) → List (Rank × X)
placed_in e [] = e ∷ []
placed_in e (f ∷ rest) = if earlier f.0 e.0 then f ∷ placed_in e rest else e ∷ f ∷ rest

abbrev pub in_line : {X : Type 0} → List (Rank × X) → List (Rank × X)
in_line [] = []
in_line (e ∷ rest) = placed_in e (in_line rest)

-- the place of a span of subscription s in the ready order, and in the in-flight order, if it is
-- there
abbrev pub ready_at : ℕ → Held → Option (Rank × (ℕ × ℕ))
ready_at s h = if is_ready h.span.status then Some (h.rank, (s, h.span.first)) else None

abbrev pub out_at_status : ℕ → ℕ → Status → Option (Rank × (ℕ × ℕ))
out_at_status s first (Ready taken) = None
out_at_status s first (InFlight number moment) =
    Some (record { front = number; turn = 0 }, (s, first))

abbrev pub out_at : ℕ → Held → Option (Rank × (ℕ × ℕ))
out_at s h = out_at_status s h.span.first h.span.status

-- the spans of all subscriptions from number s on
abbrev pub all_at : (ℕ → Held → Option (Rank × (ℕ × ℕ))) → ℕ → List (List Held)
    → List (Rank × (ℕ × ℕ))
all_at at s [] = []
all_at at s (held ∷ rest) = filter_map (at s) held ++ all_at at (suc s) rest

-- the order of these spans
abbrev pub order : (ℕ → Held → Option (Rank × (ℕ × ℕ))) → List (List Held) → List (ℕ × ℕ)
order at lanes = map (λ e. e.1) (in_line (all_at at 0 lanes))
