use Rattle.std.proofs.Common.{◌∙◌, ap, length}
use Rattle.std.specs.Option.{unwrap_or}
use Rattle.cs_model.proofs.lists.KeyRuns.{not_in_key, place_or_end}
use Rattle.cs_model.proofs.key_run.inside.Goals as goal

pub returns : goal.returns
returns c =
    let flags = c.args.flags.now in
    c.unwrap_or.ensures ∙ ap (λ o. unwrap_or o (length flags)) c.first_outside_key.ensures
    ∙ place_or_end not_in_key flags
