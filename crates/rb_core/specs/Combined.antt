-- Placed entries as one changeset.
use Rattle.std.specs.Prelude.{ℕ, ◌-◌, ◌&&◌, not, if◌then◌else◌, nat_lt, List, length, take, drop}
use Rattle.std.specs.Prelude.{Option, Some, None, option_map}
use Rattle.cs_model.specs.Section.{Section}
use Rattle.cs_group.specs.Group.{group_of}
use Rattle.rb_core.specs.State.{State}
use Rattle.rb_sequence.specs.Entry.{Entry}
use Rattle.rb_subscriber.specs.Accept.{joined_bodies}

-- the entries numbered `first` to `last`, if 1 ≤ first ≤ last and `last` is placed
abbrev pub placed_span : List Entry → ℕ → ℕ → Option (List Entry)
placed_span sequence first last =
    if nat_lt 0 first && (not (nat_lt last first) && not (nat_lt (length sequence) last))
    then Some (drop (first - 1) (take last sequence)) else None

-- the group of the changesets of these entries
abbrev pub combined_of : State → ℕ → ℕ → Option (List Section)
combined_of w first last =
    option_map (λ entries. group_of (joined_bodies entries)) (placed_span w.sequence first last)
