use Rattle.std.proofs.Common.{◌∙◌, ap}
use Rattle.cs_parse.specs.Progress.{last_flags}
use Rattle.cs_parse.proofs.feeding.GrowingLaws.{lent}
use Rattle.cs_parse.proofs.growing.Growing.last_flags.Goals as goal

pub returns-clause-flags : goal.returns-clause-flags
returns-clause-flags c = lent c.last_flags.result _ c.last_flags.ensures.flags ∙ ap (λ v. last_flags v.0) c.self.view_is
