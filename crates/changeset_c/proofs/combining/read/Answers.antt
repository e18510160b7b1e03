use Rattle.std.proofs.Common.{sym, subst, ◌+◌, take, get_or}
use Rattle.std.proofs.lemmas.List.{take_more, drop_more}
use Rattle.cs_parse.specs.Answer.{ReportsFault}
use Rattle.changeset_c.specs.Combining.{SpellAll, texts_of}
use Rattle.changeset_c.proofs.CombineLaws.{blank_text, read_cut, read_next}
use Rattle.changeset_c.proofs.combining.read.Goals as goal

pub returns-in-Err-Fault : goal.returns-in-Err-Fault
returns-in-Err-Fault c =
    let text = get_or c.args.texts.now c.loop-text.text-index blank_text in
    rw c.in-Err-Fault.field-0-is
    (read_cut c.args.texts.now c.loop-text.text-index _ c.loop-text.changesets.items c.in-Err-Fault.fault
    (drop_more c.args.texts.now c.loop-text.text-index blank_text
    c.loop-text-test.true) c.loop-text.invariant
    (subst (λ e. ReportsFault e text.bytes.now) c.in-Err-Fault.field-0-is c.in-Err-Fault.ensures.faulty))

pub loop-text-preserved : goal.loop-text-preserved
loop-text-preserved c =
    subst (λ cs. SpellAll (texts_of (take (c.loop-text.text-index + 1) c.args.texts.now)) cs)
    (sym c.in_ok-push-in-Ok.ensures.items)
    (read_next c.args.texts.now c.loop-text.text-index _ c.loop-text.changesets.items c.in-Ok.changeset
    (take_more c.args.texts.now c.loop-text.text-index blank_text
    c.loop-text-test.true) c.loop-text.invariant c.in-Ok.ensures.found)
