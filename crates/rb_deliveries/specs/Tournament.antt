-- A tournament over ranks: which place's rank is first in line.
use Rattle.std.specs.Prelude.{◌≡◌, ℕ, zero, suc, ◌+◌, ◌-◌, ◌<◌, ◌≤◌, List, [], ◌∷◌, ◌++◌, length}
use Rattle.std.specs.Prelude.{take, drop, replicate, map, Option, None, get_or}
use Rattle.std.specs.Option.{option_map}
use Rattle.rb_deliveries.specs.declared.rank.Rank.{Rank}
use Rattle.rb_deliveries.specs.declared.tournament.Winner.{Winner}
use Rattle.rb_deliveries.specs.Queues.{first_by}

-- the winner of two neighbouring parts; of two with the same rank, the left one
abbrev pub winner_of_two : Option Winner → Option Winner → Option Winner
winner_of_two = first_by (λ w. w.rank)

-- the winner of one place
abbrev pub at_place : ℕ → Option Rank → Option Winner
at_place place = option_map (λ rank. record { place = place; rank = rank })

-- the winner of these ranks, the first of which is at place n
abbrev pub winner_from : ℕ → List (Option Rank) → Option Winner
winner_from n [] = None
winner_from n (rank ∷ rest) = winner_of_two (at_place n rank) (winner_from (suc n) rest)

-- ---- the nodes of the tree

-- the winners of the places, one by one
abbrev pub leaves_from : ℕ → List (Option Rank) → List (Option Winner)
leaves_from n [] = []
leaves_from n (rank ∷ rest) = at_place n rank ∷ leaves_from (suc n) rest

-- how many places a tree of this depth has
abbrev pub places_at : ℕ → ℕ
places_at zero = 1
places_at (suc depth) = places_at depth + places_at depth

-- the node with this number
abbrev pub node : List (Option Winner) → ℕ → Option Winner
node nodes i = get_or nodes i None

-- the node is the winner of the two below it
abbrev pub WinsPair : List (Option Winner) → ℕ → Type 0
WinsPair nodes i = node nodes i ≡ winner_of_two (node nodes (i + i)) (node nodes (suc (i + i)))

abbrev pub NodesWin : List (Option Winner) → ℕ → Type 0
NodesWin nodes room = (i : ℕ) → 1 ≤ i → i < room → WinsPair nodes i

-- The nodes of a tree: after as many nodes as it has places stand the places, and each node from 1
-- on is the winner of the two below it. A tree without places has no nodes.
pub record IsTree (nodes : List (Option Winner)) (room len : ℕ) : Type 0 where
  pub long : length nodes ≡ room + room
  pub fits : len ≤ room
  pub even : (0 < room) → (depth : ℕ) × (room ≡ places_at depth)
  pub leaves : (ranks : List (Option Rank)) × (length ranks ≡ len)
      × (drop room nodes ≡ leaves_from 0 ranks ++ replicate (room - len) None)
  pub inner : NodesWin nodes room

-- the ranks that the places have
abbrev pub winners_rank : Option Winner → Option Rank
winners_rank = option_map (λ (w : Winner). w.rank)

abbrev pub ranks_of : List (Option Winner) → ℕ → ℕ → List (Option Rank)
ranks_of nodes room len = map winners_rank (take len (drop room nodes))
