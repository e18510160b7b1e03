use Rattle.std.proofs.Common.{◌≡◌, drop}
use Rattle.std.specs.Prelude.{◌||◌}
use Rattle.std.specs.List.{list_any}
use Rattle.cs_model.specs.Rule.{is_defined}
use Rattle.cs_group.specs.Merge.{news_changed, olds_changed}
use Rattle.cs_group.proofs.merge.is_normal.Given as goal

-- the records stay as they are if those of the columns that are left do
abbrev pub invariant-loop-flag : goal.invariant-loop-flag
invariant-loop-flag l =
    (olds_changed (drop l.flag-index l.flags) l.before l.after ≡ l.before
    → olds_changed l.fn.flags l.fn.before l.fn.after ≡ l.fn.before)
    × (news_changed (drop l.flag-index l.flags) l.before l.after ≡ l.after
    → news_changed l.fn.flags l.fn.before l.fn.after ≡ l.fn.after)
    × ((l.any || list_any is_defined l.after) ≡ list_any is_defined l.fn.after)
