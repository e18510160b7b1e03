use Rattle.rb_drive.proofs.outcomes.ConflictLaws.{shown_shows}
use Rattle.rb_drive.proofs.kept.accept_tables.Goals as goal

pub returns-clause-conflict : goal.returns-clause-conflict
returns-clause-conflict g c = shown_shows _ _ c.accept.result _ _ c.accept.ensures.answers
