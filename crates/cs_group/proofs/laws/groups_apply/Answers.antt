use Rattle.cs_group.proofs.all_tables.Law.{group_applies, group_conflicts}
use Rattle.cs_group.proofs.laws.groups_apply.Goals as goal

pub returns-clause-same : goal.returns-clause-same
returns-clause-same c = group_applies (record { again = c.fields_again.ensures; fit = c.changes_fit.ensures })

pub returns-clause-conflicts : goal.returns-clause-conflicts
returns-clause-conflicts c = group_conflicts (record { again = c.fields_again.ensures; fit = c.changes_fit.ensures })
