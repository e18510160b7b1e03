use Rattle.std.proofs.Common.{◌≡◌, ◌≤◌, ◌<◌, IfOk, ◌∙◌, ◌∷◌, ◌++◌, [], take, sym, ap, subst, length, take_all}
use Rattle.std.proofs.lemmas.List.{take_more, append-nil}
use Rattle.cs_group.proofs.one_more.StepLaw.{flat_map_both}
use Rattle.cs_group.specs.Group.{group_of}
use Rattle.cs_model.specs.Schema.{refusal_of}
use Rattle.rb_subscriber.specs.Accept.{joined_bodies}
use Rattle.rb_subscriber.proofs.runs.ApplyLaws.{admitted_at}
use Rattle.rb_subscriber.proofs.apply.combined.Goals as goal

pub loop-index-init : goal.loop-index-init
loop-index-init g c = (c.new-group.ensures, ap (refusal_of c.args.schema.now) c.new-group.ensures)

pub add-requires-clause-body : goal.add-requires-clause-body
add-requires-clause-body g c =
    let all = g.E.Brought.entries c.args.entries.now in
    ap (refusal_of c.args.schema.now) c.body.ensures.body
    ∙ admitted_at c.args.schema.now all c.loop-index.index c.entry.result.now
    (subst (λ n. c.loop-index.index < n) c.count-index-end.ensures c.loop-index-test.true) c.entry.ensures c.requires

pub loop-index-preserved : goal.loop-index-preserved
loop-index-preserved g c =
    let i = c.loop-index.index in
    let all = g.E.Brought.entries c.args.entries.now in
    let entry = c.entry.result.now in
    let front = joined_bodies (take i all) in
    let less : i < length all = subst (λ n. i < n) c.count-index-end.ensures c.loop-index-test.true in (
      c.in_ok-add.ensures.ok
          ∙ ap (λ sections. sections ++ c.body.result.now) c.loop-index.invariant.0
          ∙ ap (λ sections. front ++ sections) (c.body.ensures.body ∙ sym (append-nil entry.item.body))
          ∙ sym (flat_map_both (λ e. e.item.body) (take i all) (entry ∷ []))
          ∙ ap joined_bodies (ap (λ e. take i all ++ e ∷ []) c.entry.ensures ∙ sym (take_more all i entry less)),
      c.in_ok-add.ensures.admitted,
    )

pub returns : goal.returns
returns g c =
    let i = c.loop-index.index in
    let all = g.E.Brought.entries c.args.entries.now in
    let whole : length all ≤ i = subst (λ n. n ≤ i) c.count-index-end.ensures c.loop-index-test.false in
    subst (λ sections. IfOk c.output.result (λ made. made ≡ group_of sections))
    (c.loop-index.invariant.0 ∙ ap joined_bodies (take_all i all whole)) c.output.ensures
