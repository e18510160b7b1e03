use Rattle.cs_write.specs.Seen.{seen}
use Rattle.cs_write.proofs.forms.GroupLaws.{GroupsSoFar}
use Rattle.cs_write.proofs.groups.groups_of.Given as goal

abbrev pub invariant-loop-section : goal.invariant-loop-section
invariant-loop-section l = GroupsSoFar (seen l.groups.entries) l.section-iterator l.fn.sections
