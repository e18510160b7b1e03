use Rattle.std.proofs.Common.{◌≡◌, ◌++◌}
use Rattle.cs_model.specs.Changeset.{IsChangeset}
use Rattle.cs_invert.specs.Inverse.{inverse}
use Rattle.cs_invert.proofs.inverse.inverted.Given as goal

-- the sections so far, and those of the sections that are left
abbrev pub invariant-loop-section : goal.invariant-loop-section
invariant-loop-section l = record {
  left : IsChangeset l.section-iterator;
  made : l.made ++ inverse l.section-iterator ≡ inverse l.fn.sections;
}
