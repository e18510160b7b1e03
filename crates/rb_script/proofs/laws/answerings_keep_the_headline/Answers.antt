use Rattle.std.proofs.Common.{[], ◌∷◌, ◌++◌, ◌∙◌, refl, ap}
use Rattle.rb_script.specs.declared.lines.Stage.TheVariants.{Tables}
use Rattle.rb_script.specs.Answering.{lines_reached, script_output}
use Rattle.rb_script.proofs.endings.PlainLaws.{reached_output}
use Rattle.rb_script.proofs.laws.answerings_keep_the_headline.Goals as goal

pub returns : goal.returns
returns c = λ how config lines last ranges all one.
    let whole = lines ++ last ∷ [] in
    let reached = lines_reached how config (Tables []) whole in (
      reached,
      refl,
      ap (script_output how config) (c.lines_are_found.ensures lines last all one) ∙ reached_output how config whole,
      c.lines_keep_the_headline.ensures config reached ranges,
    )
