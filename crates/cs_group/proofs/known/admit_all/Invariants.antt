use Rattle.std.proofs.Common.{◌≡◌, ◌++◌, ◌+◌, List, take, drop, length}
use Rattle.std.specs.Prelude.{option_map}
use Rattle.cs_model.specs.Section.{Section}
use Rattle.cs_group.specs.Adding.{Knows}
use Rattle.cs_group.specs.Group.{first_clash}
use Rattle.cs_group.proofs.known.admit_all.Given as goal

-- the tables of the sections so far are known, and none of these sections clashes
abbrev pub invariant-loop-section : goal.invariant-loop-section
invariant-loop-section l = record {
  knows : (earlier : List Section) → Knows earlier l.fn.tables.entries
      → Knows (earlier ++ take l.section l.sections) l.tables.entries;
  fits : (earlier : List Section) → Knows earlier l.fn.tables.entries
      → first_clash earlier l.sections
      ≡ option_map (λ n. l.section + n) (first_clash (earlier
      ++ take l.section l.sections) (drop l.section l.sections));
  kept : take (length l.fn.tables.entries) l.tables.entries ≡ l.fn.tables.entries;
}
