use Rattle.std.proofs.Common.{◌≡◌, ◌++◌}
use Rattle.std.specs.List.{flat_map}
use Rattle.rb_script.specs.Texts.{field_text, value_text}
use Rattle.rb_script.proofs.texts.add_row.Given as goal

-- the text so far, and that of the values that are left, are the text of all
abbrev pub invariant-loop-value : goal.invariant-loop-value
invariant-loop-value l = l.text.items ++ flat_map field_text l.value-iterator ≡ l.initial.text.items
    ++ flat_map value_text l.row
