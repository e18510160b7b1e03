use Rattle.std.proofs.Common.{◌≡◌, ◌++◌, map}
use Rattle.serde_json.specs.View.{view}
use Rattle.cs_model.specs.Row.{values_of}
use Rattle.rb_show.specs.Shown.{value_data}
use Rattle.rb_show.proofs.objects.array_of.Given as goal

-- the items so far, and those that are left, are all
abbrev pub invariant-loop-field : goal.invariant-loop-field
invariant-loop-field l = map view l.items.items ++ map value_data (values_of l.field-iterator)
    ≡ map value_data (values_of l.values)
