use Rattle.std.proofs.Common.{◌∙◌, Some, ap, sym}
use Rattle.cs_model.specs.Schema.{has_shape, refusal_at}
use Rattle.cs_model.proofs.lists.Refusals.{refusal_begins, refusal_goes_on, refusal_found}
use Rattle.cs_model.proofs.schema.Schema.admits.Goals as goal

pub loop-section-init : goal.loop-section-init
loop-section-init c = refusal_begins c.args.self.now _ _
    (c.into_iter-section-iterator.ensures.into_iter_gives ∙ c.iter-section-items.ensures.same)

pub returns-then-not-has_table-clause-refused : goal.returns-then-not-has_table-clause-refused
returns-then-not-has_table-clause-refused c =
    let tables = c.deref.ensures.value ∙ c.self.view_is in
    let lacks = ap (has_shape c.args.self.now) (sym c.shape.ensures) ∙ ap (λ ts. has_shape ts c.shape.result) (sym tables)
    ∙ sym c.has_table.ensures ∙ c.if-not-has_table.true in
    let section = c.in-Some.section in
    let place = c.loop-section.place in
    let own = c.deref-then-not-has_table.ensures.value ∙ c.self.view_is in
    refusal_found c.args.self.now place section c.loop-section.section-iterator c.next.new.self c.args.changeset.now
    c.in-Some.ensures.steps lacks c.loop-section.invariant
    ∙ ap (λ ts. Some (refusal_at ts place (Some section))) (sym own)
    ∙ ap (λ fault. Some fault) (sym (c.fault_at.ensures section (sym c.name.ensures)))

pub loop-section-preserved : goal.loop-section-preserved
loop-section-preserved c =
    let tables = c.deref.ensures.value ∙ c.self.view_is in
    refusal_goes_on c.args.self.now c.loop-section.place c.in-Some.section c.loop-section.section-iterator c.next.new.self
    c.args.changeset.now c.in-Some.ensures.steps
    (ap (has_shape c.args.self.now) (sym c.shape.ensures) ∙ ap (λ ts. has_shape ts c.shape.result) (sym tables)
    ∙ sym c.has_table.ensures ∙ c.if-not-has_table.false) c.loop-section.invariant
