-- What links spell: the lists of a lane, as walking along them finds them.
-- No public clause cites this module.
use Rattle.std.specs.Prelude.{◌≡◌, ℕ, zero, suc, List, [], ◌∷◌, map, length, Option, Some, None}
use Rattle.std.specs.Prelude.{slice_get, slice_index_or, ⊤}
use Rattle.link_lists.specs.declared.link.Link.{Link}
use Rattle.link_lists.specs.declared.link.Ends.{Ends}
use Rattle.link_lists.specs.Lanes.{Lanes}
use Rattle.link_lists.specs.Nodes.{Strand, Nodes}

-- the key after a link
abbrev pub next_of : Option Link → Option ℕ
next_of None = None
next_of (Some link) = link.next

-- the keys that a walk along `next` meets, at most that number of them
abbrev pub walk : List (Option Link) → ℕ → Option ℕ → List ℕ
walk links zero start = []
walk links (suc fuel) None = []
walk links (suc fuel) (Some key) =
    key ∷ walk links fuel (next_of (slice_index_or links key None))

-- the lists that walks from their first keys meet
abbrev pub walked : Strand → List (List ℕ)
walked strand = map (λ e. walk strand.links (length strand.links) e.first) strand.ends

-- the lanes that nodes stand for
abbrev pub lanes_seen : {T : Type 0} → Nodes T → Lanes T
lanes_seen nodes = record {
  slots = nodes.slots;
  first = walked nodes.first;
  second = walked nodes.second;
  spare = nodes.spare;
}

-- the first of these keys, or what comes after them
abbrev pub first_or : List ℕ → Option ℕ → Option ℕ
first_or [] after = after
first_or (key ∷ keys) after = Some key

-- the last of these keys, or what comes before them
abbrev pub last_or : Option ℕ → List ℕ → Option ℕ
last_or before [] = before
last_or before (key ∷ keys) = last_or (Some key) keys

-- the ends of a list of these keys
abbrev pub ends_of : List ℕ → Ends
ends_of keys = record { first = first_or keys None; last = last_or None keys }

-- the links of these keys say that they stand in this list one after another, between two others
abbrev pub LinksSpell : List (Option Link) → ℕ → Option ℕ → List ℕ → Option ℕ → Type 0
LinksSpell links list before [] after = ⊤
LinksSpell links list before (key ∷ keys) after =
    (slice_index_or links key None
    ≡ Some (record { list = list; previous = before; next = first_or keys after }))
    × LinksSpell links list (Some key) keys after

-- the strand's ends and links spell these lists
pub record SpellsLists (strand : Strand) (lists : List (List ℕ)) : Type 0 where
  pub ends : strand.ends ≡ map ends_of lists
  pub spelled : (list : ℕ) (keys : List ℕ) → slice_get lists list ≡ Some keys →
      LinksSpell strand.links list None keys None

-- both lanes spell the lists that walks meet
pub record BothSpelled {T : Type 0} (nodes : Nodes T) : Type 0 where
  pub first : SpellsLists nodes.first (walked nodes.first)
  pub second : SpellsLists nodes.second (walked nodes.second)
