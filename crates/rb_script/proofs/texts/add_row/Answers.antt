use Rattle.std.proofs.Common.{ap, ◌∙◌, ◌++◌}
use Rattle.std.specs.List.{flat_map}
use Rattle.rb_script.specs.Texts.{field_text}
use Rattle.rb_script.proofs.spelled.RowTexts.{row_texts}
use Rattle.rb_script.proofs.texts.add_row.Goals as goal

pub loop-value-init : goal.loop-value-init
loop-value-init c =
    let given = c.into_iter-value-iterator.ensures.into_iter_gives ∙ c.fields-value-items.ensures in
    ap (λ w. c.extend_from_slice.new.self.items ++ w) (ap (flat_map field_text) given ∙ row_texts c.args.row.now)
