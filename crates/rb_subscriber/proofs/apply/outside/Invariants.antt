use Rattle.std.proofs.Common.{◌≡◌, drop, take}
use Rattle.rb_subscriber.specs.Accept.{AreChangesets, first_outside_entry}
use Rattle.rb_subscriber.proofs.apply.outside.Given as goal

-- none of the entries so far is outside, and they are changesets
abbrev pub invariant-loop-index : goal.invariant-loop-index
invariant-loop-index g l =
    let all = g.E.Brought.entries l.entries in
    (first_outside_entry l.schema all ≡ first_outside_entry l.schema (drop l.index all))
    × AreChangesets (take l.index all)
