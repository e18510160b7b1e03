use Rattle.std.proofs.Common.{◌≡◌}
use Rattle.cs_model.specs.Changeset.{IsChangeset}
use Rattle.cs_apply.specs.Steps.{Back, rows_of}
use Rattle.cs_apply.specs.Single.{changes_of, single_from}
use Rattle.cs_apply.proofs.changes.change_all.Given as goal

-- what the sections that are left give of the rows so far is what all give of the rows at the start
abbrev pub invariant-loop-section : goal.invariant-loop-section
invariant-loop-section l = record {
  so_far : single_from l.schema l.kept (changes_of l.section-iterator) l.start (rows_of l.places.rows.entries)
      ≡ single_from l.schema l.kept (changes_of l.changeset) 0 (rows_of l.fn.places.rows.entries);
  fits : IsChangeset l.section-iterator;
  back : Back l.fn.places l.places;
}
