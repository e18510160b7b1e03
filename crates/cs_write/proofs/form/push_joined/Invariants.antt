use Rattle.std.proofs.Common.{◌≡◌, [], ◌∷◌, ◌++◌, take, drop, length}
use Rattle.std.specs.List.{AllByRecursion}
use Rattle.cs_write.specs.Canon.{joined_section}
use Rattle.cs_write.specs.Groups.{HasColumns}
use Rattle.cs_write.proofs.form.push_joined.Given as goal

-- the changes so far are in the last section
abbrev pub invariant-loop-section : goal.invariant-loop-section
invariant-loop-section l = record {
  made : l.form ≡ l.fn.form ++ joined_section (l.shape, take l.section-index l.sections) ∷ [];
  left : AllByRecursion (HasColumns (length l.shape.flags)) (drop l.section-index l.sections);
}
