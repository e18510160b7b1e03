use Rattle.std.proofs.Common.{drop}
use Rattle.cs_model.specs.Seen.{fields_seen}
use Rattle.cs_group.specs.Merge.{news_changed, olds_changed}
use Rattle.cs_group.proofs.cut_down.InPlaceTwo.{BothDone}
use Rattle.cs_group.proofs.merge.keep_changed.Given as goal

abbrev pub invariant-loop-i : goal.invariant-loop-i
invariant-loop-i l = BothDone l.before.items l.after.items l.i l.columns (drop l.i l.flags)
    (olds_changed l.flags (fields_seen l.fn.before.items) (fields_seen l.fn.after.items))
    (news_changed l.flags (fields_seen l.fn.before.items) (fields_seen l.fn.after.items)) l.any
