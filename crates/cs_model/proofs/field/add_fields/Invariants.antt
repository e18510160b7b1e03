use Rattle.std.proofs.Common.{◌≡◌, ◌++◌, take}
use Rattle.std.specs.List.{AllByRecursion}
use Rattle.cs_model.specs.Packed.{packed, Fits}
use Rattle.cs_model.specs.Seen.{fields_seen}
use Rattle.cs_model.proofs.field.add_fields.Given as goal

-- the fields so far are appended
abbrev pub invariant-loop-field : goal.invariant-loop-field
invariant-loop-field l = (l.out.items ≡ l.initial.out.items ++ packed (fields_seen (take l.field-index l.fields)))
    × AllByRecursion Fits (fields_seen (take l.field-index l.fields))
