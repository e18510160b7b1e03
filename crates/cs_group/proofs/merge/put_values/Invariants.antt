use Rattle.std.proofs.Common.{length}
use Rattle.cs_model.specs.Seen.{fields_seen}
use Rattle.cs_group.proofs.cut_down.InPlace.{ColumnsDone, put_all}
use Rattle.cs_group.proofs.merge.put_values.Given as goal

abbrev pub invariant-loop-i : goal.invariant-loop-i
invariant-loop-i l = ColumnsDone l.fields.items l.i (put_all l.all l.values)
    (put_all l.fn.all l.fn.values (fields_seen l.fn.fields.items)) (length l.fn.fields.items)
