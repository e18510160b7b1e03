use Rattle.std.proofs.Common.{◌≡◌, ◌≤◌, ◌+◌, ◌++◌, length, take}
use Rattle.cs_model.specs.PackedChanges.{changes_bytes, unpacked_changes}
use Rattle.cs_model.proofs.canonical.add_said.Given as goal

-- the bytes so far, and those of the changes that are left, are those of all; the turns that are left are enough for
-- the rest
abbrev pub invariant-loop : goal.invariant-loop
invariant-loop l = record {
  enough : length l.rest + l.counter ≤ length l.bytes;
  bytes : l.out.items ++ changes_bytes (unpacked_changes l.columns l.rest) ≡ l.initial.out.items
      ++ changes_bytes (unpacked_changes l.columns l.bytes);
  adds : take (length l.initial.out.items) l.out.items ≡ l.initial.out.items;
}
