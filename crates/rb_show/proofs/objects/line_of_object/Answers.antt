use Rattle.std.proofs.Common.{◌++◌, ◌∷◌, [], ◌∙◌, ap, List, ℕ}
use Rattle.serde_json.specs.Written.{compact_text, has_float}
use Rattle.cs_model.specs.Row.{values_of}
use Rattle.rb_show.proofs.shown.RowLines.{row_floatless}
use Rattle.rb_show.proofs.objects.line_of_object.Goals as goal

pub returns : goal.returns
returns c =
    let is = c.in_ok-object.ensures in
    let floatless = row_floatless c.args.name.now (values_of c.args.values.now) in
    let text = c.in_ok-line.ensures.text (ap has_float is ∙ floatless) in
    c.in_ok-push.ensures.items ∙ ap (λ (t : List ℕ). t ++ 10 ∷ []) (text ∙ ap compact_text is)
