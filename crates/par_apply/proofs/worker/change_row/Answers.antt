use Rattle.std.specs.Option.{option_copied}
use Rattle.cs_model.specs.Seen.{change_seen}
use Rattle.par_apply.proofs.workers.OwnRowLaws.{own_keys_edit, own_row_changed}
use Rattle.par_apply.proofs.worker.change_row.Goals as goal

pub returns-clause-ok : goal.returns-clause-ok
returns-clause-ok c =
    own_row_changed c.args.tables.now.rows c.args.rows.now.rows.entries c.put.new.self.rows.entries c.args.key
    c.args.shape.now.flags (change_seen c.args.change.now) (option_copied c.row.result) c.in_ok-row.row c.row.ensures
    c.in_ok-row.ensures.ok c.in_ok-put.ensures.ok

pub returns-clause-own : goal.returns-clause-own
returns-clause-own c =
    own_keys_edit c.args.rows.now.rows.entries c.put.new.self.rows.entries c.args.key c.in_ok-row.row
    c.in_ok-put.ensures.ok
