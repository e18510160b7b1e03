use Rattle.std.proofs.Common.{◌++◌, ◌∙◌, ap, ap₂, List, map}
use Rattle.serde_json.specs.Data.{Data, array}
use Rattle.serde_json.specs.View.{items_of, view}
use Rattle.serde_json.specs.declared.value.Value as json
use Rattle.cs_model.specs.declared.value.Field.{Field}
use Rattle.cs_model.specs.Row.{values_of}
use Rattle.cs_model.specs.Seen.{field_seen}
use Rattle.rb_show.specs.Shown.{value_data}
use Rattle.rb_show.proofs.shown.RowLines.{item_goes_on, items_end}
use Rattle.rb_show.proofs.objects.array_of.Goals as goal

pub loop-field-init : goal.loop-field-init
loop-field-init c =
    let given = c.into_iter-field-iterator.ensures.into_iter_gives ∙ c.fields-field-items.ensures in
    ap₂ (λ (items : List json.Value) (f : List Field). map view items ++ map value_data (values_of f))
    c.new-items.ensures.items given

pub loop-field-preserved : goal.loop-field-preserved
loop-field-preserved c =
    item_goes_on (map view c.loop-field.items.items) (map view c.add_item.new.items.items) _
    (field_seen c.in-Some.field) c.loop-field.field-iterator c.next.new.self c.in-Some.ensures.steps
    c.loop-field.invariant c.in_ok-add_item.ensures

pub returns : goal.returns
returns c = c.from.ensures ∙ ap (λ (d : List Data). array (items_of d))
    (items_end (map view c.loop-field.items.items) _ c.loop-field.field-iterator c.in-None.ensures.steps.0
    c.loop-field.invariant)
