use Rattle.std.proofs.Common.{◌≡◌, map, drop}
use Rattle.std.specs.Prelude.{IsTrue}
use Rattle.cs_model.specs.Packed.{packed}
use Rattle.cs_parse.specs.Canonical.{IsCanonical}
use Rattle.cs_parse.specs.FieldRules.{rule_of, column_rule}
use Rattle.cs_parse.specs.Reading.{record_at}
use Rattle.cs_parse.specs.Count.{bytes_after}
use Rattle.cs_parse.proofs.record.skip_record.Given as goal

-- where the fields so far are canonical, the whole is where the fields that are left are
abbrev pub invariant-loop-flag : goal.invariant-loop-flag
invariant-loop-flag l = record {
  reads : bytes_after (record_at (map (column_rule (rule_of l.outside)) (drop l.flag-index l.flags)) l.rest)
      ≡ bytes_after (record_at (map (column_rule (rule_of l.outside)) l.flags) l.bytes);
  canonical : IsTrue l.canonical
      → IsCanonical packed l.rest (record_at (map (column_rule (rule_of l.outside)) (drop l.flag-index l.flags)) l.rest)
      → IsCanonical packed l.bytes (record_at (map (column_rule (rule_of l.outside)) l.flags) l.bytes);
}
