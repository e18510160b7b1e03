use Rattle.std.proofs.Common.{◌≡◌, ◌++◌, length, take}
use Rattle.cs_group.proofs.group.push_all.Given as goal

-- the sections so far, and those that are left
abbrev pub invariant-loop-section : goal.invariant-loop-section
invariant-loop-section l = record {
  all : l.added.items ++ l.section-iterator ≡ l.fn.added.items ++ l.fn.sections;
  front : take (length l.fn.added.items) l.added.items ≡ l.fn.added.items;
}
