-- Nodes as their links say, and the steps that change links. No public clause cites this module.
use Rattle.std.specs.Prelude.{◌≡◌, ◌≢◌, ℕ, ◌+◌, ◌-◌, map, List, [], ◌∷◌, ◌++◌, Option, Some, None}
use Rattle.std.specs.Prelude.{count_by, is_some, option_map, slice_index_or, slice_set}
use Rattle.slab.specs.Slab.{Slab, slab_len}
use Rattle.link_lists.specs.declared.lane.Lane.{Lane}
use Rattle.link_lists.specs.declared.lane.Lane.TheVariants.{First, Second}
use Rattle.link_lists.specs.declared.link.Link.{Link}
use Rattle.link_lists.specs.declared.link.Ends.{Ends}
use Rattle.link_lists.specs.declared.link.Node.{Node}

-- a lane as it is kept: the link under each key, and the ends of each list
pub record Strand : Type 0 where
  pub links : List (Option Link)
  pub ends : List Ends

-- all that is kept: the value at each key, both lanes, and how many values fit without allocation
pub record Nodes (T : Type 0) : Type 0 where
  pub slots : List (Option T)
  pub first : Strand
  pub second : Strand
  pub spare : ℕ

-- a strand of no key and no list
abbrev pub no_strand : Strand
no_strand = record { links = []; ends = [] }

-- the link under a key
abbrev pub link_under : Strand → ℕ → Option Link
link_under strand key = slice_index_or strand.links key None

-- the strand with this link under the key
abbrev pub link_set : ℕ → Link → Strand → Strand
link_set key link strand = record strand { links = slice_set strand.links key (Some link) }

-- the strand with these ends of the list
abbrev pub with_ends : ℕ → Ends → Strand → Strand
with_ends list ends strand = record strand { ends = slice_set strand.ends list ends }

-- no key
abbrev pub no_ends : Ends
no_ends = record { first = None; last = None }

-- the strand with one more list, which is empty
abbrev pub with_list : Strand → Strand
with_list strand = record strand { ends = strand.ends ++ no_ends ∷ [] }

-- the strand with no link under the key
abbrev pub without_link : ℕ → Strand → Strand
without_link key strand = record strand { links = slice_set strand.links key None }

-- the strand with no link, and as many lists, each empty
abbrev pub without_links : Strand → Strand
without_links strand = record { links = []; ends = map (λ _. no_ends) strand.ends }

-- each key but this one keeps its link, and the ends stay
pub record KeepsLinks (key : ℕ) (old new : Strand) : Type 0 where
  pub ends : new.ends ≡ old.ends
  pub others : (other : ℕ) → other ≢ key → link_under new other ≡ link_under old other

module _ {T : Type 0} where
  -- a lane of the nodes
  abbrev pub strand_of : Lane → Nodes T → Strand
  strand_of First nodes = nodes.first
  strand_of Second nodes = nodes.second

  -- the nodes with a change of one lane
  abbrev pub on_lane : Lane → (Strand → Strand) → Nodes T → Nodes T
  on_lane First change nodes = record nodes { first = change nodes.first }
  on_lane Second change nodes = record nodes { second = change nodes.second }

  -- what a slab of nodes and the ends of both lanes stand for
  abbrev pub nodes_seen : Slab (Node T) → List Ends → List Ends → Nodes T
  nodes_seen slab first second = record {
    slots = map (option_map (λ node. node.value)) slab.slots;
    first = record { links = map (option_map (λ node. node.first)) slab.slots; ends = first };
    second = record { links = map (option_map (λ node. node.second)) slab.slots; ends = second };
    spare = slab.capacity - slab_len slab;
  }

  -- a key has a link in each lane exactly where it has a value
  pub record IsAlike (nodes : Nodes T) : Type 0 where
    pub first : (key : ℕ) →
        is_some (link_under nodes.first key) ≡ is_some (slice_index_or nodes.slots key None)
    pub second : (key : ℕ) →
        is_some (link_under nodes.second key) ≡ is_some (slice_index_or nodes.slots key None)

  -- the key has the value, and each other key what it had
  pub record GainsValue (old new : Nodes T) (key : ℕ) (value : T) : Type 0 where
    pub gained : slice_index_or new.slots key None ≡ Some value
    pub others : (other : ℕ) → other ≢ key →
        slice_index_or new.slots other None ≡ slice_index_or old.slots other None
    pub first : KeepsLinks key old.first new.first
    pub second : KeepsLinks key old.second new.second
    pub spare : old.spare ≡ new.spare + 1

  -- the nodes with this value at the key
  abbrev pub with_slot : Nodes T → ℕ → T → Nodes T
  with_slot nodes key value = record nodes { slots = slice_set nodes.slots key (Some value) }

  -- the nodes without the key's value and its links
  abbrev pub without_node : ℕ → Nodes T → Nodes T
  without_node key nodes = record {
    slots = slice_set nodes.slots key None;
    first = without_link key nodes.first;
    second = without_link key nodes.second;
    spare = nodes.spare + 1;
  }

  -- the nodes without a value
  abbrev pub without_nodes : Nodes T → Nodes T
  without_nodes nodes = record {
    slots = [];
    first = without_links nodes.first;
    second = without_links nodes.second;
    spare = nodes.spare + count_by is_some nodes.slots;
  }
