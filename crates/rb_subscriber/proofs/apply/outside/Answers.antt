use Rattle.std.proofs.Common.{◌≡◌, ◌<◌, ◌≤◌, length, refl, sym, ◌∙◌, subst, Some, None}
use Rattle.std.specs.Prelude.{OnOk, IfErr}
use Rattle.cs_model.specs.Changeset.{IsChangeset}
use Rattle.cs_model.specs.Schema.{refusal_of}
use Rattle.rb_subscriber.proofs.accepting.AcceptLaws.{all_admitted}
use Rattle.rb_subscriber.proofs.runs.ApplyLaws.{at_front, found_outside, goes_past, none_found, valid_more, bodies_valid}
use Rattle.rb_subscriber.proofs.apply.outside.Goals as goal

pub loop-index-init : goal.loop-index-init
loop-index-init g c = (refl, tt)

pub returns-then-is_err-clause-first : goal.returns-then-is_err-clause-first
returns-then-is_err-clause-first g c =
    let all = g.E.Brought.entries c.args.entries.now in
    let i = c.loop-index.index in
    let less : i < length all = subst (λ n. i < n) c.count-index-end.ensures c.loop-index-test.true in
    let front = at_front all i c.entry-entry.result.now less c.entry-entry.ensures in
    let refused = subst (λ body. IfErr c.admits.result (λ fault. refusal_of c.args.schema.now body ≡ Some fault))
    c.body-body.ensures.body c.admits.ensures.refused in
    found_outside c.args.schema.now all i c.entry-entry.result.now c.admits.result
    front refused (sym c.is_err.ensures.value ∙ c.if-is_err.true) c.loop-index.invariant.0

pub loop-index-preserved : goal.loop-index-preserved
loop-index-preserved g c =
    let all = g.E.Brought.entries c.args.entries.now in
    let i = c.loop-index.index in
    let less : i < length all = subst (λ n. i < n) c.count-index-end.ensures c.loop-index-test.true in
    let front = at_front all i c.entry-entry.result.now less c.entry-entry.ensures in
    let ok = subst (λ body. OnOk c.admits.result (refusal_of c.args.schema.now body ≡ None)) c.body-body.ensures.body
    c.admits.ensures.ok in
    let valid = subst IsChangeset c.body-body.ensures.body c.iter-sections.ensures.valid in (
      goes_past c.args.schema.now all i c.entry-entry.result.now c.admits.result front
          ok (sym c.is_err.ensures.value ∙ c.if-is_err.false) c.loop-index.invariant.0,
      valid_more all i c.entry-entry.result.now less c.entry-entry.ensures
          c.loop-index.invariant.1 valid,
    )

pub returns-clause-first : goal.returns-clause-first
returns-clause-first g c = none_found c.args.schema.now (g.E.Brought.entries c.args.entries.now) c.loop-index.index
    (subst (λ n. n ≤ c.loop-index.index) c.count-index-end.ensures c.loop-index-test.false)
    c.loop-index.invariant.0

pub returns-clause-valid : goal.returns-clause-valid
returns-clause-valid g c = bodies_valid (g.E.Brought.entries c.args.entries.now) c.loop-index.index
    (subst (λ n. n ≤ c.loop-index.index) c.count-index-end.ensures c.loop-index-test.false)
    c.loop-index.invariant.1

pub returns-clause-admitted : goal.returns-clause-admitted
returns-clause-admitted g c = all_admitted c.args.schema.now (g.E.Brought.entries c.args.entries.now)
    (sym (none_found c.args.schema.now (g.E.Brought.entries c.args.entries.now) c.loop-index.index
    (subst (λ n. n ≤ c.loop-index.index) c.count-index-end.ensures c.loop-index-test.false)
    c.loop-index.invariant.0))
