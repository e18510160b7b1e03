use Rattle.std.proofs.Common.{rules, subst, sym, ◌∙◌}
use Rattle.std.proofs.lemmas.List.{length-map}
use Rattle.rb_drive.specs.Outcome.{reported, subscriber_of}
use Rattle.rb_drive.specs.Run.{IsStatus}
use Rattle.rb_drive.proofs.outcomes.RunLaws.{endings_same}
use Rattle.rb_drive.proofs.run.report.Goals as goal

-- the report is written, and the status is that of the endings
pub returns-in-Ok-clause-ends : goal.returns-in-Ok-clause-ends
returns-in-Ok-clause-ends g c =
    let o = c.in_ok-outcome.outcome in (
      reported o,
      length-map o.accepting.items subscriber_of ∙ c.in_ok-outcome.ensures.ok.1,
      c.in_ok-outcome.ensures.ok.0,
      c.in-Ok.ensures.ok,
      subst (λ es. IsStatus es c.status.result) (sym (endings_same o.accepting.items)) (search rules),
    )
