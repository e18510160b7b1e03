use Rattle.std.proofs.lemmas.List.{take_more}
use Rattle.changeset_c.proofs.CombineLaws.{blank_text, so_next}
use Rattle.changeset_c.proofs.reading.texts_are_read_so.Goals as goal

pub loop-text-preserved : goal.loop-text-preserved
loop-text-preserved c =
    so_next c.args.texts.now c.loop-text.text-index _
    (take_more c.args.texts.now c.loop-text.text-index blank_text c.loop-text-test.true) c.loop-text.invariant
    c.text_is_read_so.ensures
