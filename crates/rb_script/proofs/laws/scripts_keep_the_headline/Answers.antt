use Rattle.std.specs.Prelude.{[], ◌∷◌, ◌++◌}
use Rattle.rb_script.proofs.laws.scripts_keep_the_headline.Goals as goal

pub returns : goal.returns
returns c = λ config lines last ranges all one. (
  c.lines_are_answered.ensures config lines last all one,
  c.lines_keep_the_headline.ensures config (lines ++ last ∷ []) ranges,
)
