-- The text of a row is that of its record.
use Rattle.std.proofs.Common.{◌≡◌, List, [], ◌∷◌, ◌++◌, refl, ap}
use Rattle.std.specs.List.{flat_map}
use Rattle.cs_model.specs.declared.value.Value.{Value}
use Rattle.cs_model.specs.Row.{row_fields}
use Rattle.rb_script.specs.Texts.{field_text, value_text}

pub row_texts : (row : List Value) → flat_map field_text (row_fields row) ≡ flat_map value_text row
row_texts [] = refl
row_texts (value ∷ row) = ap (λ w. value_text value ++ w) (row_texts row)
