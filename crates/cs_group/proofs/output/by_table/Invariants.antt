use Rattle.std.proofs.Common.{◌≡◌, [], take}
use Rattle.cs_write.specs.Canon.{by_shape}
use Rattle.cs_write.specs.Seen.{seen}
use Rattle.cs_group.proofs.output.by_table.Given as goal

-- the groups of the sections so far
abbrev pub invariant-loop-section : goal.invariant-loop-section
invariant-loop-section l = seen l.groups.entries ≡ by_shape [] (take l.section-index l.sections)
