use Rattle.std.proofs.Common.{◌≡◌, [], refl, Ok, get_or, sym, ap, ◌∙◌, arith}
use Rattle.cs_model.specs.Rule.{old_rule, new_rule, new_rules}
use Rattle.cs_model.specs.Seen.{field_seen}
use Rattle.cs_parse.specs.FieldRules.{rule_of}
use Rattle.cs_parse.specs.Reading.{field_at}
use Rattle.cs_parse.proofs.reading.Loops.{same_field}
use Rattle.cs_parse.proofs.feeding.SpotLaws.{none_passed, back_field, old_more, new_more, new_halt}
use Rattle.cs_parse.proofs.spot.pass_new.Goals as goal
use Rattle.cs_parse.proofs.spot.pass_new.Goals.{In-Ok}

pub loop-passed-init : goal.loop-passed-init
loop-passed-init c = record {
  back = ([], refl);
  reads = λ before left e. (e, none_passed (new_rules c.args.flags.now before) c.args.bytes.now);
}

-- the old record's field in this column
old_reads : (c : In-Ok)
    → field_at (old_rule (get_or c.args.flags.now c.loop-passed.passed 0)) c.loop-passed.old_rest.now
    ≡ Ok (field_seen c.in-Ok.field, c.in-Ok.old_after.now)
old_reads c = sym (ap (λ r. field_at r c.loop-passed.old_rest.now) c.rule_by_flag-rule.ensures) ∙ c.in-Ok.ensures.read

pub returns-in-Err-Short-clause-halts : goal.returns-in-Err-Short-clause-halts
returns-in-Err-Short-clause-halts c = λ before left h.
    let flags = c.args.flags.now in
    let i = c.loop-passed.passed in
    let old = c.loop-passed.old_rest.now in
    let rest = c.loop-passed.rest.now in
    let first = field_seen c.in-Ok.field in
    let so_far = c.loop-passed.invariant.reads before left h in
    let begins = old_more flags before left i old first c.in-Ok.old_after.now c.loop-passed-test.true
    (old_reads (goal.at.returns-in-Err-Short-clause-halts c).In-Ok) so_far.0 in
    let fails =
    sym (same_field (rule_of c.rule_by_old.result) (new_rule (get_or flags i 0) first) rest
    (λ byte. c.rule_by_old.ensures byte first (sym c.has_value.ensures))) ∙ c.in-Err-Short.ensures.read in
    new_halt flags before left c.args.bytes.now i first old rest c.in-Err-Short.field-0 c.loop-passed-test.true begins.0
    so_far.0 fails c.in-Err-Short.field-0-is so_far.1

pub loop-passed-preserved : goal.loop-passed-preserved
loop-passed-preserved c =
    let flags = c.args.flags.now in
    let i = c.loop-passed.passed in
    let rest = c.loop-passed.rest.now in
    let first = field_seen c.in-Ok.field in
    let after = c.in-Ok.old_after.now in
    let reads_old = old_reads (goal.at.loop-passed-preserved c).In-Ok in
    let reads =
    sym (same_field (rule_of c.rule_by_old.result) (new_rule (get_or flags i 0) first) rest
    (λ byte. c.rule_by_old.ensures byte first (sym c.has_value.ensures))) ∙ c.in-Ok-field_in.ensures.read in
    record {
      back = back_field (old_rule (get_or flags i 0)) c.args.old.now c.loop-passed.old_rest.now first after
          (λ k. omega (arith, c.type_inv.old k)) c.loop-passed.invariant.back reads_old;
      reads = λ before left h. (
          let so_far = c.loop-passed.invariant.reads before left h in
          let begins = old_more flags before left i _ first after c.loop-passed-test.true reads_old so_far.0 in (
            begins.1,
            new_more flags before c.args.bytes.now i first rest _ c.in-Ok-field_in.after.now
                (λ k. omega (arith, c.type_inv.bytes k)) c.loop-passed-test.true begins.0 reads so_far.1,
          ));
    }
