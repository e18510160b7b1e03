use Rattle.std.proofs.Common.{◌≡◌, ℕ, ◌+◌, ◌<◌, ◌≤◌, List, [], ◌∷◌, length, get_or, map, drop, Result, Ok, Err, sym, ap}
use Rattle.std.proofs.Common.{subst, ◌∙◌}
use Rattle.std.proofs.lemmas.List.{drop_more, drop_all, drop-drop}
use Rattle.std.proofs.lemmas.Result.{err_from_is_err_and}
use Rattle.cs_model.specs.declared.value.Field.{Field}
use Rattle.cs_model.specs.Packed.{packed}
use Rattle.cs_model.specs.Rule.{old_rule, new_rule, new_rules}
use Rattle.cs_parse.specs.declared.stop.ParseRefusal.{ParseRefusal}
use Rattle.cs_parse.specs.FieldRules.{rule_of}
use Rattle.cs_parse.specs.Reading.{field_at, record_at}
use Rattle.cs_model.specs.Seen.{field_seen}
use Rattle.cs_parse.specs.Count.{bytes_after}
use Rattle.cs_parse.proofs.reading.Steps.{done}
use Rattle.cs_parse.proofs.reading.Loops.{same_field}
use Rattle.cs_parse.specs.Canonical.{IsCanonical}
use Rattle.cs_parse.proofs.counting.CanonicalLaws.{none_canonical, more_canonical}
use Rattle.cs_parse.proofs.counting.Skims.{field_passed, field_refused, field_begins, field_missing, fields_passed}
use Rattle.cs_parse.proofs.record.skip_new.Goals as goal
use Rattle.cs_parse.proofs.record.skip_new.Goals.{In_ok-field}

abbrev SkipNewRead : Type 0
SkipNewRead = Result (List Field × List ℕ) ParseRefusal

-- the old record's rules from column i on
old_column : (flags : List ℕ) (i : ℕ) (bytes : List ℕ) (read : SkipNewRead) → i < length flags
    → record_at (map old_rule (drop i flags)) bytes ≡ read
    → record_at (old_rule (get_or flags i 0) ∷ map old_rule (drop (i + 1) flags)) bytes ≡ read
old_column flags i bytes read lt so_far = sym (ap (λ w. record_at (map old_rule w) bytes) (drop_more flags i 0 lt))
    ∙ so_far

-- and the new record's
skip_new_column : (flags : List ℕ) (before : List Field) (i : ℕ) (old : Field) (bytes : List ℕ)
    (total : Result (List ℕ) ParseRefusal) → i < length flags → drop i before ≡ old ∷ drop 1 (drop i before)
    → bytes_after (record_at (new_rules (drop i flags) (drop i before)) bytes) ≡ total
    → bytes_after (record_at (new_rule (get_or flags i 0) old ∷ new_rules (drop (i + 1) flags) (drop (i + 1) before))
    bytes) ≡ total
skip_new_column flags before i old bytes total lt begins so_far =
    let flags_are = drop_more flags i 0 lt in
    let before_is : drop i before ≡ old ∷ drop (i + 1) before = begins ∙ ap (λ w. old ∷ w) (drop-drop 1 i before) in
    sym (ap (λ w. bytes_after (record_at (new_rules w (drop i before)) bytes)) flags_are
    ∙ ap (λ w. bytes_after (record_at (new_rules (get_or flags i 0 ∷ drop (i + 1) flags) w) bytes)) before_is)
    ∙ so_far

no_column : (flags : List ℕ) (before : List Field) (i : ℕ) (bytes : List ℕ) (total : Result (List ℕ) ParseRefusal)
    → length flags ≤ i
    → bytes_after (record_at (new_rules (drop i flags) (drop i before)) bytes) ≡ total
    → bytes_after (record_at [] bytes) ≡ total
no_column flags before i bytes total le so_far =
    sym (ap (λ w. bytes_after (record_at (new_rules w (drop i before)) bytes)) (drop_all i flags le)) ∙ so_far

-- and its bytes
here_canonical : (flags : List ℕ) (before : List Field) (i : ℕ) (old : Field) (bytes : List ℕ) → i < length flags
    → drop i before ≡ old ∷ drop 1 (drop i before)
    → IsCanonical packed bytes
    (record_at (new_rule (get_or flags i 0) old ∷ new_rules (drop (i + 1) flags) (drop (i + 1) before)) bytes)
    → IsCanonical packed bytes (record_at (new_rules (drop i flags) (drop i before)) bytes)
here_canonical flags before i old bytes lt begins own =
    let flags_are = drop_more flags i 0 lt in
    let before_is : drop i before ≡ old ∷ drop (i + 1) before = begins ∙ ap (λ w. old ∷ w) (drop-drop 1 i before) in
    subst (λ w. IsCanonical packed bytes (record_at w bytes))
    (sym (ap (λ w. new_rules w (drop i before)) flags_are
    ∙ ap (λ w. new_rules (get_or flags i 0 ∷ drop (i + 1) flags) w) before_is)) own

all_canonical : (flags : List ℕ) (before : List Field) (i : ℕ) (bytes : List ℕ) → length flags ≤ i
    → IsCanonical packed bytes (record_at (new_rules (drop i flags) (drop i before)) bytes)
all_canonical flags before i bytes le =
    subst (λ w. IsCanonical packed bytes (record_at (new_rules w (drop i before)) bytes)) (sym (drop_all i flags le))
    (none_canonical bytes)

-- the old record was read whole, so that its fields aren't refused
pub returns-in_err-field-clause-read : goal.returns-in_err-field-clause-read
returns-in_err-field-clause-read c = λ before left h.
    let flags = c.args.flags.now in
    let i = c.loop-flag.flag-index in
    let old = c.loop-flag.old_rest.now in
    let e = c.in_err-field.field-0.0 in
    let fails : field_at (old_rule (get_or flags i 0)) old ≡ Err e =
    subst (λ r. field_at r old ≡ Err e) c.rule_by_flag.ensures c.in_err-field.ensures.read in
    absurd (field_missing (old_rule (get_or flags i 0)) (map old_rule (drop (i + 1) flags)) old e (drop i before) left
    fails
    (old_column flags i old (Ok (drop i before, left)) c.loop-flag-test.true (c.loop-flag.invariant before left h).0))

-- the old record's field in this column stands first, and those behind it are read on
old_begins : (c : In_ok-field) (before : List Field) (left : List ℕ)
    → record_at (map old_rule (drop c.loop-flag.flag-index c.args.flags.now)) c.loop-flag.old_rest.now
    ≡ Ok (drop c.loop-flag.flag-index before, left)
    → (drop c.loop-flag.flag-index before
    ≡ field_seen c.in_ok-field.field ∷ drop 1 (drop c.loop-flag.flag-index before))
    × (record_at (map old_rule (drop (c.loop-flag.flag-index + 1) c.args.flags.now)) c.in_ok-field.old_after.now
    ≡ Ok (drop 1 (drop c.loop-flag.flag-index before), left))
old_begins c before left so_far =
    let flags = c.args.flags.now in
    let i = c.loop-flag.flag-index in
    let old = c.loop-flag.old_rest.now in
    field_begins (old_rule (get_or flags i 0)) (map old_rule (drop (i + 1) flags)) old (field_seen c.in_ok-field.field)
    c.in_ok-field.old_after.now (drop i before) left
    (sym (ap (λ r. field_at r old) c.rule_by_flag.ensures) ∙ c.in_ok-field.ensures.read)
    (old_column flags i old (Ok (drop i before, left)) c.loop-flag-test.true so_far)

pub returns-in_err-after-clause-read : goal.returns-in_err-after-clause-read
returns-in_err-after-clause-read c = λ before left h.
    let flags = c.args.flags.now in
    let i = c.loop-flag.flag-index in
    let rest = c.loop-flag.rest.now in
    let first = field_seen c.in_ok-field.field in
    let e = c.in_err-after.field-0.0 in
    let p = err_from_is_err_and c.from_residual-in_err-after.result c.from_residual-in_err-after.ensures.1 in
    let inv = c.loop-flag.invariant before left h in
    let total = bytes_after (record_at (new_rules flags before) c.args.bytes.now) in
    let begins = old_begins (goal.at.returns-in_err-after-clause-read c).In_ok-field before left inv.0 in
    let fails : field_at (new_rule (get_or flags i 0) first) rest ≡ Err e =
    sym (same_field (rule_of c.rule_by_old.result) (new_rule (get_or flags i 0) first) rest
    (λ byte. c.rule_by_old.ensures byte first (sym c.has_value.ensures))) ∙ c.in_err-after.ensures.read in
    rw (p.1, p.2)
    (field_refused (new_rule (get_or flags i 0) first) (new_rules (drop (i + 1) flags) (drop (i + 1) before)) rest e
    total fails (skip_new_column flags before i first rest total c.loop-flag-test.true begins.0 inv.1))

pub loop-flag-preserved : goal.loop-flag-preserved
loop-flag-preserved c = λ before left h.
    let flags = c.args.flags.now in
    let i = c.loop-flag.flag-index in
    let rest = c.loop-flag.rest.now in
    let first = field_seen c.in_ok-field.field in
    let inv = c.loop-flag.invariant before left h in
    let total = bytes_after (record_at (new_rules flags before) c.args.bytes.now) in
    let begins = old_begins (goal.at.loop-flag-preserved c).In_ok-field before left inv.0 in
    let flag = get_or flags i 0 in
    let reads =
    sym (same_field (rule_of c.rule_by_old.result) (new_rule flag first) rest
    (λ byte. c.rule_by_old.ensures byte first (sym c.has_value.ensures))) ∙ c.in_ok-after.ensures.read in (
      begins.1 ∙ ap (λ w. done (w, left)) (drop-drop 1 i before),
      field_passed (new_rule flag first) (new_rules (drop (i + 1) flags) (drop (i + 1) before)) rest _
          c.in_ok-after.after.now total reads
          (skip_new_column flags before i first rest total c.loop-flag-test.true begins.0 inv.1),
      λ is more. inv.2 (c.in_ok-after.ensures.canonical is).0
          (here_canonical flags before i first rest c.loop-flag-test.true begins.0
          (more_canonical (new_rule flag first) (new_rules (drop (i + 1) flags) (drop (i + 1) before)) rest _
          c.in_ok-after.after.now reads (c.in_ok-after.ensures.canonical is).1 more)),
    )

pub returns-clause-read : goal.returns-clause-read
returns-clause-read c = λ before left h.
    let flags = c.args.flags.now in
    let total = bytes_after (record_at (new_rules flags before) c.args.bytes.now) in
    fields_passed c.loop-flag.rest.now total
    (no_column flags before c.loop-flag.flag-index c.loop-flag.rest.now total c.loop-flag-test.false
    (c.loop-flag.invariant before left h).1)

pub returns-clause-canonical : goal.returns-clause-canonical
returns-clause-canonical c =
    λ before left h is. (c.loop-flag.invariant before left h).2 is
    (all_canonical c.args.flags.now before c.loop-flag.flag-index c.loop-flag.rest.now c.loop-flag-test.false)
