-- The steps that write links. No public clause cites this module.
use Rattle.std.specs.Prelude.{ℕ, ◌<◌, length, Option, Some, None, IsSome, option_map}
use Rattle.std.specs.Prelude.{slice_index_or, slice_set}
use Rattle.link_lists.specs.declared.link.Ends.{Ends}
use Rattle.link_lists.specs.declared.link.Link.{Link}
use Rattle.link_lists.specs.declared.link.Side.{Side}
use Rattle.link_lists.specs.declared.link.Side.TheVariants.{Next, Previous}
use Rattle.link_lists.specs.Nodes.{Strand, link_under, no_ends, link_set}

-- there is a link of the key, or, where there is no key, the list
abbrev pub CanWrite : ℕ → Option ℕ → Strand → Type 0
CanWrite list None strand = list < length strand.ends
CanWrite list (Some key) strand = IsSome (link_under strand key)

-- a link with another key on this side
abbrev pub link_beside : Side → Option ℕ → Link → Link
link_beside Next key link = record link { next = key }
link_beside Previous key link = record link { previous = key }

-- The ends of a list with another key on this side of the place that is in front of the first key
-- and behind the last: the first key comes next to it.
abbrev pub ends_beside : Side → Option ℕ → Ends → Ends
ends_beside Next key ends = record ends { first = key }
ends_beside Previous key ends = record ends { last = key }

-- the strand where this is on one side of a key of the list, or first in it, or last in it
abbrev pub beside_set : Side → ℕ → Option ℕ → Option ℕ → Strand → Strand
beside_set side list None other strand = record strand {
  ends = slice_set strand.ends list
      (ends_beside side other (slice_index_or strand.ends list no_ends));
}
beside_set side list (Some key) other strand = record strand {
  links = slice_set strand.links key
      (option_map (link_beside side other) (link_under strand key));
}

-- the strand where the second key comes directly after the first
abbrev pub keys_tied : ℕ → Option ℕ → Option ℕ → Strand → Strand
keys_tied list previous next strand =
    beside_set Previous list next previous (beside_set Next list previous next strand)

-- the strand where the key stands as this link says
abbrev pub key_placed : ℕ → Link → Strand → Strand
key_placed key link strand = beside_set Previous link.list link.next (Some key)
    (beside_set Next link.list link.previous (Some key) (link_set key link strand))
