use Rattle.std.proofs.Common.{◌≡◌, ◌++◌, map, filter}
use Rattle.std.specs.List.{AllByRecursion}
use Rattle.cs_model.specs.Changeset.{IsSection}
use Rattle.cs_write.specs.Canon.{has_changes, joined_section}
use Rattle.cs_write.specs.Seen.{seen}
use Rattle.cs_group.specs.Group.{combined_section}
use Rattle.cs_group.proofs.output.sections_of.Given as goal

-- the sections so far, and those of the tables that are left
abbrev pub invariant-loop-shape : goal.invariant-loop-shape
invariant-loop-shape l = record {
  left : AllByRecursion IsSection (map joined_section (seen l.shape-iterator));
  made : l.sections ++ filter has_changes
      (map (λ group. combined_section (joined_section group)) (seen l.shape-iterator))
      ≡ filter has_changes (map (λ group. combined_section (joined_section group)) (seen l.groups.entries));
}
