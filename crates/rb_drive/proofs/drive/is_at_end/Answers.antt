use Rattle.rb_drive.proofs.outcomes.ConflictLaws.{conflict_is_end}
use Rattle.rb_drive.proofs.drive.is_at_end.Goals as goal

-- it has what shows the conflict
pub returns-in-Conflict : goal.returns-in-Conflict
returns-in-Conflict g c =
    λ _. conflict_is_end _ _ c.args.one.now.subscription _ c.in-Conflict.field-0 c.in-Conflict.field-1 c.in-Conflict.is
    c.requires
