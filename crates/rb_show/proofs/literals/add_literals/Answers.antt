use Rattle.std.proofs.Common.{◌++◌, ◌∙◌, ap, sym, List}
use Rattle.cs_model.specs.declared.value.Field.{Field}
use Rattle.cs_model.specs.Row.{values_of}
use Rattle.cs_model.specs.Seen.{field_seen}
use Rattle.rb_show.specs.Shown.{literals}
use Rattle.rb_show.proofs.shown.RowLines.{field_goes_on, field_passes, literals_end}
use Rattle.rb_show.proofs.literals.add_literals.Goals as goal

pub loop-field-init : goal.loop-field-init
loop-field-init c =
    let given = c.into_iter-field-iterator.ensures.into_iter_gives ∙ c.fields-field-items.ensures in
    ap (λ (f : List Field). c.args.text.now.items ++ literals (values_of f)) given

pub loop-field-preserved-then-has_value : goal.loop-field-preserved-then-has_value
loop-field-preserved-then-has_value c =
    field_goes_on c.loop-field.later c.loop-field.text.items c.add_next.new.text.items _ (field_seen c.in-Some.field)
    c.loop-field.field-iterator c.next.new.self c.in-Some.ensures.steps (sym c.has_value.ensures ∙ c.if-has_value.true)
    c.loop-field.invariant c.in_ok-add_next.ensures

pub loop-field-preserved : goal.loop-field-preserved
loop-field-preserved c =
    field_passes c.loop-field.later c.loop-field.text.items _ (field_seen c.in-Some.field)
    c.loop-field.field-iterator c.next.new.self c.in-Some.ensures.steps (sym c.has_value.ensures ∙ c.if-has_value.false)
    c.loop-field.invariant

pub returns : goal.returns
returns c = literals_end c.loop-field.later c.loop-field.text.items _ c.loop-field.field-iterator
    c.in-None.ensures.steps.0 c.loop-field.invariant
