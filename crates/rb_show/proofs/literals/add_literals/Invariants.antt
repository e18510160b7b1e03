use Rattle.std.proofs.Common.{◌≡◌, ◌++◌}
use Rattle.cs_model.specs.Row.{values_of}
use Rattle.rb_show.specs.Shown.{literals}
use Rattle.rb_show.proofs.shown.RowLines.{literals_from}
use Rattle.rb_show.proofs.literals.add_literals.Given as goal

-- the text so far, and the literals that are left, are the text of all
abbrev pub invariant-loop-field : goal.invariant-loop-field
invariant-loop-field l = l.text.items ++ literals_from l.later (values_of l.field-iterator)
    ≡ l.initial.text.items ++ literals (values_of l.values)
