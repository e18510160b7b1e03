-- What nodes end as, where a `&mut` to one of their values is returned.
-- No public clause cites this module.
use Rattle.std.specs.Prelude.{ℕ}
use Rattle.std.specs.Borrow.{Lends, RattleType, MutBor, Fml}
use Rattle.link_lists.specs.Nodes.{Nodes, with_slot}
use Rattle.link_lists.specs.contracts.nodes.Nodes.{the_row}

-- once the borrow r ends, the key has the last value written through r
abbrev pub lends_slot : (T : RattleType) → MutBor (Nodes T.Denot) → ℕ → MutBor T.Denot → Fml
lends_slot T nodes key r = Lends (the_row T) T nodes r (with_slot nodes.now key)
