use Rattle.std.proofs.Common.{map, ◌∙◌}
use Rattle.std.specs.Arc.{arc_value}
use Rattle.rb_drive.proofs.outcomes.RunLaws.{ok_then}
use Rattle.rb_drive.proofs.drive.drive_owners.Goals as goal

-- the owners come back with what they went with
pub returns-in-Some-clause-ok : goal.returns-in-Some-clause-ok
returns-in-Some-clause-ok g c =
    ok_then c.end.result _ _ (λ o come. come (arc_value c.args.plan.schema)
    (map (λ v. v.items) c.args.plan.lines.items) c.args.plan.subscribers
    (c.in-Some.ensures.lines ∙ c.in-Ok.ensures.lines) (c.in-Some.ensures.begun ∙ c.in-Ok.ensures.begun))
    c.end.ensures.ok
