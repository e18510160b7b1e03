use Rattle.std.proofs.Common.{◌≡◌, ◌++◌, ◌-◌, length, take}
use Rattle.cs_model.specs.Packed.{packed}
use Rattle.cs_model.specs.PackedChanges.{some_in}
use Rattle.cs_model.proofs.canonical.add_fields.Given as goal

-- the bytes so far, and those of the fields that are left, are those of all, and behind the fields that are left is
-- what is behind all
abbrev pub invariant-loop : goal.invariant-loop
invariant-loop l = record {
  bytes : l.out.items ++ packed (some_in (l.columns - l.counter) l.rest).0 ≡ l.initial.out.items
      ++ packed (some_in l.columns l.bytes).0;
  behind : (some_in (l.columns - l.counter) l.rest).1 ≡ (some_in l.columns l.bytes).1;
  adds : take (length l.initial.out.items) l.out.items ≡ l.initial.out.items;
}
