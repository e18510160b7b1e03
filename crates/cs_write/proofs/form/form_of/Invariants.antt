use Rattle.std.proofs.Common.{◌≡◌, ◌++◌}
use Rattle.std.specs.List.{AllByRecursion}
use Rattle.cs_write.specs.Canon.{canon_of}
use Rattle.cs_write.specs.Groups.{IsAlike}
use Rattle.cs_write.specs.Seen.{seen}
use Rattle.cs_write.proofs.form.form_of.Given as goal

-- the sections so far, and those of the groups that are left
abbrev pub invariant-loop-shape : goal.invariant-loop-shape
invariant-loop-shape l = record {
  left : AllByRecursion IsAlike (seen l.shape-iterator);
  made : l.form ++ canon_of (seen l.shape-iterator) ≡ canon_of (seen l.groups.entries);
}
