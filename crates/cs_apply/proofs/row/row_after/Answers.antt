use Rattle.cs_model.specs.Seen.{change_seen}
use Rattle.cs_apply.proofs.rows_by_key.Columns.{deleted_defined, inserted_defined}
use Rattle.cs_apply.proofs.row.row_after.Goals as goal

pub inserted_row-requires : goal.inserted_row-requires
inserted_row-requires c = inserted_defined c.args.shape.now (change_seen c.args.change.now) c.in-Insert.is c.requires

pub deleted_row-requires : goal.deleted_row-requires
deleted_row-requires c = deleted_defined c.args.shape.now (change_seen c.args.change.now) c.in-Delete.is c.requires

pub returns-in-Insert : goal.returns-in-Insert
returns-in-Insert c = record {
  ok = simp c.in-Insert.is (c.inserted_row.ensures.ok c.args.shape.now.flags c.args.change.now.before);
  refused = simp c.in-Insert.is (c.inserted_row.ensures.refused c.args.shape.now.flags c.args.change.now.before);
}

pub returns-in-Delete : goal.returns-in-Delete
returns-in-Delete c = record {
  ok = simp c.in-Delete.is (c.deleted_row.ensures.ok c.args.shape.now.flags c.args.change.now.after);
  refused = simp c.in-Delete.is (c.deleted_row.ensures.refused c.args.shape.now.flags c.args.change.now.after);
}
