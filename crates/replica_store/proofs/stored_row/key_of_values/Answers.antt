use Rattle.cs_model.proofs.lists.Keys.{no_field_left, no_column_left}
use Rattle.replica_store.proofs.stored_row.key_of_values.Goals.{else-loop-flag-test, then-loop-flag-test+in_default}
use Rattle.replica_store.proofs.stored_row.key_of_values.Goals as goal

pub returns : goal.returns
returns c = elim c.loop-flag-test.branch [
  | else-loop-flag-test w ↦
      no_column_left c.loop-flag.flag-index c.args.flags.now _ _ c.loop-flag.fields w.loop-flag-test.false
      c.loop-flag.invariant
  | then-loop-flag-test+in_default w ↦
      no_field_left _ _ _ c.loop-flag.fields w.in_default.ensures.steps.0 c.loop-flag.invariant
]
