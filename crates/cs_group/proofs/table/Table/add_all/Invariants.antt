use Rattle.std.proofs.Common.{◌≡◌, ◌++◌, List}
use Rattle.std.specs.List.{AllByRecursion}
use Rattle.cs_model.specs.declared.change.Change.{Change}
use Rattle.cs_group.specs.Table.{HoldSlots, IsOfTable, row_place, slots_seen}
use Rattle.cs_group.proofs.table.Table.add_all.Given as goal

-- the slots hold what the changes so far come to
abbrev pub invariant-loop-change : goal.invariant-loop-change
invariant-loop-change l = record {
  flags : l.self.flags.now ≡ l.fn.self.flags.now;
  holds : (before : List Change) → AllByRecursion (IsOfTable l.fn.self.flags.now) before
      → AllByRecursion (IsOfTable l.fn.self.flags.now) l.section.changes
      → HoldSlots l.fn.self.flags.now (row_place l.fn.self.places.entries) (slots_seen l.fn.self.slots.items) before
      → (done : List Change) × (done ++ l.change-iterator ≡ l.section.changes)
      × HoldSlots l.fn.self.flags.now (row_place l.self.places.entries) (slots_seen l.self.slots.items)
      (before ++ done);
}
