use Rattle.std.proofs.Common.{◌≡◌, ◌++◌, take}
use Rattle.std.specs.List.{flat_map}
use Rattle.rb_drive.specs.Report.{counts_text, faulty_text}
use Rattle.rb_drive.proofs.report.head.Given as goal

abbrev pub invariant-loop-one : goal.invariant-loop-one
invariant-loop-one l = l.text.items ≡ counts_text l.fn.placed l.fn.left l.fn.unsent
    ++ flat_map faulty_text (take l.one-index l.faulty)
