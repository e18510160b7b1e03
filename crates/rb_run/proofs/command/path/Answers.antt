use Rattle.std.proofs.Common.{◌∙◌, ap}
use Rattle.clap.specs.Words.{Rule, rule_of}
use Rattle.rb_run.proofs.command.path.Goals as goal

pub returns : goal.returns
returns c = (
  ap rule_of c.value_name.ensures ∙ ap (λ (r : Rule). record r { value_names = 1 }) c.option.ensures.0,
  ap (λ a. a.global) c.value_name.ensures ∙ c.option.ensures.1,
)
