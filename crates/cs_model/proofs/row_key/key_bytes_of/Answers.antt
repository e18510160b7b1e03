use Rattle.std.proofs.Common.{◌∙◌}
use Rattle.cs_model.proofs.lists.Keys.{no_field_left, no_column_left}
use Rattle.cs_model.proofs.row_key.key_bytes_of.Goals.{else-loop-flag-test, then-loop-flag-test+in_default}
use Rattle.cs_model.proofs.row_key.key_bytes_of.Goals as goal

pub returns : goal.returns
returns c = elim c.loop-flag-test.branch [
  | else-loop-flag-test w ↦ c.from_vec.ensures
      ∙ no_column_left c.loop-flag.flag-index c.args.flags.now _ _ c.loop-flag.fields w.loop-flag-test.false
      c.loop-flag.invariant
  | then-loop-flag-test+in_default w ↦ c.from_vec.ensures
      ∙ no_field_left _ _ _ c.loop-flag.fields w.in_default.ensures.steps.0 c.loop-flag.invariant
]
