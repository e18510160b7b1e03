-- What lanes end as, where a `&mut` to one of their values is returned.
use Rattle.std.specs.Prelude.{ℕ, Option}
use Rattle.std.specs.Borrow.{LendsIf, RattleType, MutBor, Fml}
use Rattle.link_lists.specs.Lanes.{Lanes, with_value_under}
use Rattle.link_lists.specs.contracts.woven.Woven.{the_row}

-- Once the borrow r ends, the key has the last value written through r, and all else stays. Without
-- a value, all stays.
abbrev pub lends_value_under :
    (T : RattleType) → MutBor (Lanes T.Denot) → ℕ → Option (MutBor T.Denot) → Fml
lends_value_under T lanes key r =
    LendsIf (the_row T) T lanes r (with_value_under lanes.now key) lanes.now
