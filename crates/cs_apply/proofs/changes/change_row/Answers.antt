use Rattle.cs_model.specs.Seen.{change_seen}
use Rattle.cs_apply.proofs.rows_by_key.Columns.{deleted_defined, inserted_defined}
use Rattle.cs_apply.proofs.changes.change_row.Goals as goal

pub insert-requires : goal.insert-requires
insert-requires c = inserted_defined c.args.shape.now (change_seen c.args.change.now) c.in-Insert.is c.requires

pub delete-requires : goal.delete-requires
delete-requires c = deleted_defined c.args.shape.now (change_seen c.args.change.now) c.in-Delete.is c.requires
