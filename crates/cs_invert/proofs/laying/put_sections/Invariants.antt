use Rattle.std.proofs.Common.{◌≡◌, ◌+◌, length}
use Rattle.cs_model.specs.Changeset.{IsChangeset}
use Rattle.cs_model.specs.SectionText.{sections_text}
use Rattle.cs_invert.specs.Inverse.{inverse}
use Rattle.cs_invert.proofs.layings.Laying.{LaysOn}
use Rattle.cs_invert.proofs.laying.put_sections.Given as goal

-- the inverses of the sections that are left
abbrev pub invariant-loop : goal.invariant-loop
invariant-loop l = record {
  valid : IsChangeset l.left;
  count : l.counter + length l.left ≡ length l.fn.sections;
  lays : LaysOn l.at (sections_text (inverse l.left)) l.out 0 (sections_text (inverse l.fn.sections)) l.initial.out;
}
