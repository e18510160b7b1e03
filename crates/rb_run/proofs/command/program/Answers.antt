use Rattle.std.proofs.Common.{◌∙◌, ap, ap₂}
use Rattle.std.proofs.lemmas.Result.{IfOk-weaker}
use Rattle.clap.specs.Simple.{app_of_fields, with_subcommand}
use Rattle.rb_run.proofs.Given.{asking, top_of, versioned}
use Rattle.rb_run.proofs.command.program.Goals as goal

-- the subcommands are added one after another
pub returns : goal.returns
returns c =
    let made = ap app_of_fields c.subcommand_required.ensures ∙ ap asking (ap app_of_fields c.about.ensures
    ∙ ap app_of_fields c.version.ensures ∙ ap versioned c.new.ensures.app) in
    let script = c.in_ok-subcommand.ensures.shape c.in_ok-script.ensures.1
    ∙ ap₂ with_subcommand made (ap top_of c.in_ok-script.ensures.0) in
    let drive = c.in_ok-subcommand-2.ensures.shape c.in_ok-drive.ensures.1
    ∙ ap₂ with_subcommand script (ap top_of c.in_ok-drive.ensures.0) in
    record {
      app = IfOk-weaker c.subcommand-3.result _ _ (λ command h. h.shape c.in_ok-show.ensures.1
          ∙ ap₂ with_subcommand drive (ap top_of c.in_ok-show.ensures.0)) c.subcommand-3.ensures;
    }
