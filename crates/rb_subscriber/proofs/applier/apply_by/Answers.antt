use Rattle.rb_subscriber.proofs.applier.apply_by.Goals as goal

-- as is asked of the call
pub returns-clause-ok : goal.returns-clause-ok
returns-clause-ok g c = ((c.requires _ c.args.changeset).1 _ _ c.applier.ensures).0

pub returns-clause-refused : goal.returns-clause-refused
returns-clause-refused g c = ((c.requires _ c.args.changeset).1 _ _ c.applier.ensures).1

pub returns-clause-err : goal.returns-clause-err
returns-clause-err g c = ((c.requires _ c.args.changeset).1 _ _ c.applier.ensures).2
