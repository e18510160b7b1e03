use Rattle.std.proofs.Common.{◌∙◌, ap}
use Rattle.clap.specs.Simple.{app_of_fields}
use Rattle.rb_run.proofs.Given.{versioned}
use Rattle.rb_run.proofs.command.subcommand.Goals as goal

-- a new command with texts, which are no options
pub returns : goal.returns
returns c = (
  ap app_of_fields c.after_help.ensures ∙ ap app_of_fields c.about.ensures ∙ ap app_of_fields c.version.ensures
      ∙ ap versioned c.new.ensures.app,
  ap (λ f. f.has_globals) c.after_help.ensures ∙ ap (λ f. f.has_globals) c.about.ensures
      ∙ ap (λ f. f.has_globals) c.version.ensures ∙ c.new.ensures.local,
)
