use Rattle.std.proofs.Common.{◌≡◌, pos, w64, to_z}
use Rattle.std.proofs.Math.Facts.{to_z_pos}
use Rattle.replica_store.proofs.statements.CursorLaws.{sets_the_cursor}
use Rattle.replica_store.proofs.statements.Parts.{was_clean}
use Rattle.replica_store.proofs.causes.Reported.{cursor_answer}
use Rattle.replica_store.proofs.commit.set_cursor.Goals as goal

pub returns-clause-sets : goal.returns-clause-sets
returns-clause-sets g c clean =
    let i = c.requires.inside (was_clean _ _ _ c.execute.ensures.survives clean) in
    let number : to_z w64 c.args.cursor ≡ pos c.args.cursor = to_z_pos w64 c.requires.below in
    sets_the_cursor _ _ c.args.cursor c.execute.result i
    (rw (c.params-to_sql.ensures, number) at (c.execute.ensures.runs clean i.inside))

pub returns-clause-cause : goal.returns-clause-cause
returns-clause-cause g c clean =
    let i = c.requires.inside (was_clean _ _ _ c.execute.ensures.survives clean) in
    let number : to_z w64 c.args.cursor ≡ pos c.args.cursor = to_z_pos w64 c.requires.below in
    cursor_answer _ _ c.args.cursor c.execute.result i
    (rw (c.params-to_sql.ensures, number) at (c.execute.ensures.runs clean i.inside))
