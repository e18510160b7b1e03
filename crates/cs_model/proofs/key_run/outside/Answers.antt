use Rattle.std.proofs.Common.{◌∙◌, ap, length}
use Rattle.std.specs.Option.{unwrap_or}
use Rattle.cs_model.proofs.lists.KeyRuns.{in_key, place_or_end}
use Rattle.cs_model.proofs.key_run.outside.Goals as goal

pub returns : goal.returns
returns c =
    let flags = c.args.flags.now in
    c.unwrap_or.ensures ∙ ap (λ o. unwrap_or o (length flags)) c.first_of_key.ensures ∙ place_or_end in_key flags
