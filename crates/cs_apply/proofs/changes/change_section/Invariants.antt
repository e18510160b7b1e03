use Rattle.std.proofs.Common.{◌≡◌, ◌+◌, ◌<◌, ◌^◌, length}
use Rattle.std.specs.List.{AllByRecursion}
use Rattle.cs_model.specs.Changeset.{IsChange}
use Rattle.cs_apply.specs.Steps.{Back, rows_of, section_from}
use Rattle.cs_apply.proofs.changes.change_section.Given as goal

-- what the changes that are left give of the rows so far is what all give of the rows at the start
abbrev pub invariant-loop-change : goal.invariant-loop-change
invariant-loop-change l = record {
  so_far : section_from l.table l.section.shape.flags l.change-iterator l.position (rows_of l.places.rows.entries)
      ≡ section_from l.table l.section.shape.flags l.section.changes l.start (rows_of l.fn.places.rows.entries);
  fits : AllByRecursion (IsChange l.section.shape) l.change-iterator;
  counted : l.position + length l.change-iterator < 2 ^ 64;
  back : Back l.fn.places l.places;
}
