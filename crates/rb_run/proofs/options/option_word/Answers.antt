use Rattle.std.proofs.Common.{◌∙◌, sym}
use Rattle.clap.specs.Words.{found_of}
use Rattle.rb_run.proofs.Given.{given_value}
use Rattle.rb_run.proofs.options.option_word.Goals as goal

pub returns-in-Some : goal.returns-in-Some
returns-in-Some c =
    c.get_str.ensures ∙ sym (given_value _ (found_of c.in-Some.options.now) _ (sym c.in-Some.ensures.rows))
