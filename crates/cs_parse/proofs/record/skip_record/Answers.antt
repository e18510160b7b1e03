use Rattle.std.proofs.Common.{◌≡◌, ℕ, ◌+◌, ◌<◌, ◌≤◌, List, [], ◌∷◌, length, get_or, map, drop, Result, Err, sym, ap}
use Rattle.std.proofs.Common.{subst, ◌∙◌}
use Rattle.std.proofs.lemmas.List.{drop_more, drop_all}
use Rattle.std.proofs.lemmas.Result.{err_from_is_err_and}
use Rattle.cs_model.specs.Packed.{packed}
use Rattle.cs_model.specs.Rule.{Rule}
use Rattle.cs_parse.specs.declared.stop.ParseRefusal.{ParseRefusal}
use Rattle.cs_parse.specs.FieldRules.{rule_of, column_rule}
use Rattle.cs_parse.specs.Reading.{field_at, record_at}
use Rattle.cs_parse.specs.Count.{bytes_after}
use Rattle.cs_parse.specs.Canonical.{IsCanonical}
use Rattle.cs_parse.proofs.counting.CanonicalLaws.{none_canonical, more_canonical}
use Rattle.cs_parse.proofs.counting.Skims.{field_passed, field_refused, fields_passed}
use Rattle.cs_parse.proofs.record.skip_record.Goals as goal

-- the rules from column i on
from_column : (rule : ℕ → Rule) (flags : List ℕ) (i : ℕ) (bytes : List ℕ) (total : Result (List ℕ) ParseRefusal) → i
    < length flags
    → bytes_after (record_at (map rule (drop i flags)) bytes) ≡ total
    → bytes_after (record_at (rule (get_or flags i 0) ∷ map rule (drop (i + 1) flags)) bytes) ≡ total
from_column rule flags i bytes total lt so_far =
    sym (ap (λ w. bytes_after (record_at (map rule w) bytes)) (drop_more flags i 0 lt)) ∙ so_far

skip_record_no_column : (rule : ℕ → Rule) (flags : List ℕ) (i : ℕ) (bytes : List ℕ)
    (total : Result (List ℕ) ParseRefusal) → length flags ≤ i
    → bytes_after (record_at (map rule (drop i flags)) bytes) ≡ total → bytes_after (record_at [] bytes) ≡ total
skip_record_no_column rule flags i bytes total le so_far =
    sym (ap (λ w. bytes_after (record_at (map rule w) bytes)) (drop_all i flags le)) ∙ so_far

-- the same of their bytes
skip_record_here_canonical : (rule : ℕ → Rule) (flags : List ℕ) (i : ℕ) (bytes : List ℕ) → i < length flags
    → IsCanonical packed bytes (record_at (rule (get_or flags i 0) ∷ map rule (drop (i + 1) flags)) bytes)
    → IsCanonical packed bytes (record_at (map rule (drop i flags)) bytes)
skip_record_here_canonical rule flags i bytes lt own =
    subst (λ w. IsCanonical packed bytes (record_at (map rule w) bytes)) (sym (drop_more flags i 0 lt)) own

skip_record_all_canonical : (rule : ℕ → Rule) (flags : List ℕ) (i : ℕ) (bytes : List ℕ) → length flags ≤ i
    → IsCanonical packed bytes (record_at (map rule (drop i flags)) bytes)
skip_record_all_canonical rule flags i bytes le =
    subst (λ w. IsCanonical packed bytes (record_at (map rule w) bytes)) (sym (drop_all i flags le))
    (none_canonical bytes)

pub returns-in_err-after-clause-read : goal.returns-in_err-after-clause-read
returns-in_err-after-clause-read c =
    let rule = column_rule (rule_of c.args.outside) in
    let flags = c.args.flags.now in
    let i = c.loop-flag.flag-index in
    let e = c.in_err-after.field-0.0 in
    let p = err_from_is_err_and c.from_residual.result c.from_residual.ensures.1 in
    let total = bytes_after (record_at (map rule flags) c.args.bytes.now) in
    let fails : field_at (rule (get_or flags i 0)) c.loop-flag.rest.now ≡ Err e =
    subst (λ r. field_at r c.loop-flag.rest.now ≡ Err e) c.rule_by_flag.ensures c.in_err-after.ensures.read in
    rw (p.1, p.2) (field_refused (rule (get_or flags i 0)) (map rule (drop (i + 1) flags)) c.loop-flag.rest.now e total
    fails (from_column rule flags i c.loop-flag.rest.now total c.loop-flag-test.true c.loop-flag.invariant.reads))

pub loop-flag-preserved : goal.loop-flag-preserved
loop-flag-preserved c =
    let rule = column_rule (rule_of c.args.outside) in
    let flags = c.args.flags.now in
    let i = c.loop-flag.flag-index in
    let rest = c.loop-flag.rest.now in
    let total = bytes_after (record_at (map rule flags) c.args.bytes.now) in
    let others = map rule (drop (i + 1) flags) in
    let reads = sym (ap (λ r. field_at r rest) c.rule_by_flag.ensures) ∙ c.in_ok-after.ensures.read in
    record {
      reads = field_passed (rule (get_or flags i 0)) others rest _ c.in_ok-after.after.now total reads
          (from_column rule flags i rest total c.loop-flag-test.true c.loop-flag.invariant.reads);
      canonical = λ is more. c.loop-flag.invariant.canonical (c.in_ok-after.ensures.canonical is).0
          (skip_record_here_canonical rule flags i rest c.loop-flag-test.true
          (more_canonical (rule (get_or flags i 0)) others rest _ c.in_ok-after.after.now reads
          (c.in_ok-after.ensures.canonical is).1 more));
    }

pub returns : goal.returns
returns c =
    let rule = column_rule (rule_of c.args.outside) in
    let flags = c.args.flags.now in
    let i = c.loop-flag.flag-index in
    let rest = c.loop-flag.rest.now in
    let total = bytes_after (record_at (map rule flags) c.args.bytes.now) in
    record {
      read = fields_passed rest total
          (skip_record_no_column rule flags i rest total c.loop-flag-test.false c.loop-flag.invariant.reads);
      canonical = λ is. c.loop-flag.invariant.canonical is
          (skip_record_all_canonical rule flags i rest c.loop-flag-test.false);
    }
