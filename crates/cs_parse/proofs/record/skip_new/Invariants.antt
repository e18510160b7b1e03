use Rattle.std.proofs.Common.{◌≡◌, ℕ, List, Ok, map, drop}
use Rattle.std.specs.Prelude.{IsTrue}
use Rattle.cs_model.specs.declared.value.Field.{Field}
use Rattle.cs_model.specs.Packed.{packed}
use Rattle.cs_model.specs.Rule.{old_rule, new_rules}
use Rattle.cs_parse.specs.Canonical.{IsCanonical}
use Rattle.cs_parse.specs.Reading.{record_at}
use Rattle.cs_parse.specs.Count.{bytes_after}
use Rattle.cs_parse.proofs.record.skip_new.Given as goal

abbrev pub invariant-loop-flag : goal.invariant-loop-flag
invariant-loop-flag l = (before : List Field) (left : List ℕ) → record_at (map old_rule l.flags) l.old
    ≡ Ok (before, left) →
    (record_at (map old_rule (drop l.flag-index l.flags)) l.old_rest ≡ Ok (drop l.flag-index before, left))
    × (bytes_after (record_at (new_rules (drop l.flag-index l.flags) (drop l.flag-index before)) l.rest)
    ≡ bytes_after (record_at (new_rules l.flags before) l.bytes))
    × (IsTrue l.canonical → IsCanonical packed l.rest
    (record_at (new_rules (drop l.flag-index l.flags) (drop l.flag-index before)) l.rest)
    → IsCanonical packed l.bytes (record_at (new_rules l.flags before) l.bytes))
