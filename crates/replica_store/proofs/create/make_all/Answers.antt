use Rattle.std.proofs.Common.{Ok}
use Rattle.replica_store.proofs.replicas.CreateLaws.{row_table_made, mark_table_made, first_mark_put}
use Rattle.replica_store.proofs.statements.Parts.{was_clean}
use Rattle.replica_store.proofs.causes.Reported.{cause_since, first_mark_cause, handed_on, mark_table_cause}
use Rattle.replica_store.proofs.causes.Reported.{row_table_cause, table_cause_since}
use Rattle.sqlite.specs.Held.{state}
use Rattle.replica_store.proofs.create.make_all.Goals as goal

pub returns-clause-made : goal.returns-clause-made
returns-clause-made g c clean =
    let second = was_clean _ _ _ c.execute-3.ensures.survives clean in
    let first = was_clean _ _ _ c.execute-2.ensures.survives second in
    let blank = c.requires (was_clean _ _ _ c.execute.ensures.survives first) in
    let rows =
    row_table_made _ _ (Ok c.in_ok-execute.field-0) blank (c.in_ok-execute.ensures.runs first blank.inside) in
    let both =
    mark_table_made _ _ (Ok c.in_ok-execute-2.field-0) rows (c.in_ok-execute-2.ensures.runs second rows.inside) in
    first_mark_put _ _ (Ok c.in_ok-execute-3.field-0) both (c.in_ok-execute-3.ensures.runs clean both.inside)

pub returns-in_err-execute-clause-cause : goal.returns-in_err-execute-clause-cause
returns-in_err-execute-clause-cause g c clean =
    let old = state g.S.Store c.args.tx.now.conn.now in
    let one = state g.S.Store c.execute.new.self.conn.now in
    let blank = c.requires (was_clean old one _ c.execute.ensures.survives clean) in
    handed_on c.from_residual.result _ _ c.from_residual.ensures.1
    (row_table_cause old one _ blank (c.in_err-execute.ensures.runs clean blank.inside))

pub returns-in_err-execute-2-clause-cause : goal.returns-in_err-execute-2-clause-cause
returns-in_err-execute-2-clause-cause g c clean =
    let old = state g.S.Store c.args.tx.now.conn.now in
    let one = state g.S.Store c.execute.new.self.conn.now in
    let two = state g.S.Store c.execute-2.new.self.conn.now in
    let first = was_clean one two _ c.execute-2.ensures.survives clean in
    let blank = c.requires (was_clean old one _ c.execute.ensures.survives first) in
    let rows =
    row_table_made old one (Ok c.in_ok-execute.field-0) blank (c.in_ok-execute.ensures.runs first blank.inside) in
    handed_on c.from_residual-in_err-execute-2.result _ _ c.from_residual-in_err-execute-2.ensures.1 (λ says.
    table_cause_since old one two c.execute.ensures.survives
    (mark_table_cause one two _ rows (c.in_err-execute-2.ensures.runs clean rows.inside) says))

pub returns-in_err-execute-3-clause-cause : goal.returns-in_err-execute-3-clause-cause
returns-in_err-execute-3-clause-cause g c clean =
    let old = state g.S.Store c.args.tx.now.conn.now in
    let one = state g.S.Store c.execute.new.self.conn.now in
    let two = state g.S.Store c.execute-2.new.self.conn.now in
    let three = state g.S.Store c.execute-3.new.self.conn.now in
    let second = was_clean two three _ c.execute-3.ensures.survives clean in
    let first = was_clean one two _ c.execute-2.ensures.survives second in
    let blank = c.requires (was_clean old one _ c.execute.ensures.survives first) in
    let rows =
    row_table_made old one (Ok c.in_ok-execute.field-0) blank (c.in_ok-execute.ensures.runs first blank.inside) in
    let both =
    mark_table_made one two (Ok c.in_ok-execute-2.field-0) rows (c.in_ok-execute-2.ensures.runs second rows.inside) in
    handed_on c.from_residual-in_err-execute-3.result _ _ c.from_residual-in_err-execute-3.ensures.1 (λ says.
    table_cause_since old one three c.execute.ensures.survives
    (cause_since one two three ⊥ (λ _. ⊥) c.execute-2.ensures.survives
    (first_mark_cause two three _ both (c.in_err-execute-3.ensures.runs clean both.inside) says)))
