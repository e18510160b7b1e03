use Rattle.std.proofs.Common.{◌≡◌, length, drop}
use Rattle.cs_model.specs.Packed.{packed}
use Rattle.cs_invert.specs.Inverse.{inverse_old}
use Rattle.cs_invert.proofs.layings.Laying.{LaysOn}
use Rattle.cs_invert.proofs.laying.put_record.Given as goal

-- the fields of the columns that are left
abbrev pub invariant-loop-flag : goal.invariant-loop-flag
invariant-loop-flag l = record {
  keys : length l.keys ≡ length (drop l.flag-index l.flags);
  others : length l.others ≡ length (drop l.flag-index l.flags);
  lays : LaysOn l.at (packed (inverse_old (drop l.flag-index l.flags) l.keys l.others)) l.out l.start
      (packed (inverse_old l.fn.flags l.fn.keys l.fn.others)) l.initial.out;
}
