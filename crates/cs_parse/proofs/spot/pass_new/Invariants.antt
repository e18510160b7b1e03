use Rattle.std.proofs.Common.{◌≡◌, ℕ, List, Ok, map, drop}
use Rattle.cs_model.specs.declared.value.Field.{Field}
use Rattle.cs_model.specs.Rule.{old_rule, new_rules}
use Rattle.cs_parse.specs.Reading.{record_at}
use Rattle.cs_parse.specs.Spot.{IsBack, Passes}
use Rattle.cs_parse.proofs.spot.pass_new.Given as goal

abbrev pub invariant-loop-passed : goal.invariant-loop-passed
invariant-loop-passed l = record {
  back : IsBack l.old l.old_rest;
  reads : (before : List Field) (left : List ℕ) → record_at (map old_rule l.flags) l.old ≡ Ok (before, left) →
      (record_at (map old_rule (drop l.passed l.flags)) l.old_rest ≡ Ok (drop l.passed before, left))
      × Passes (new_rules l.flags before) (new_rules (drop l.passed l.flags) (drop l.passed before)) l.bytes l.rest;
}
