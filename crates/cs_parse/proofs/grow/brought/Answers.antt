use Rattle.std.proofs.Common.{◌-◌, length, take, refl, sym, subst, ◌∙◌, arith}
use Rattle.std.specs.Option.{option_copied}
use Rattle.cs_model.specs.Bytes.{AreBytes}
use Rattle.cs_parse.specs.Front.{Heads}
use Rattle.cs_parse.proofs.feeding.Batches.{heads_shorter, batch, batch_bad, batches_brings}
use Rattle.cs_parse.proofs.grow.brought.Goals as goal

pub overflow_sub-whole : goal.overflow_sub-whole
overflow_sub-whole c =
    let w = c.head_of-count in
    heads_shorter (option_copied c.args.flags) c.args.bytes.now w.result.0 w.result.1.now w.result.2 w.result.3
    (λ i. omega (arith, c.type_inv.bytes i)) w.ensures

pub returns-in-Some-clause-err : goal.returns-in-Some-clause-err
returns-in-Some-clause-err c = λ others same.
    let w = c.head_of-count in
    let bytes = c.args.bytes.now in
    let fits : AreBytes bytes = λ i. omega (arith, c.type_inv.bytes i) in
    let text = take (length bytes - length w.result.1.now) bytes in
    let heads = subst (λ o. Heads o bytes w.result.0 w.result.1.now w.result.2 w.result.3) (sym same) w.ensures in
    let b = batch c.changes_fit.ensures c.spelled_is_said.ensures others bytes text w.result.0 w.result.1.now w.result.2
    w.result.3 c.in-Ok.more c.in-Ok.rest.now c.in-Ok.why fits refl heads
    c.in-Ok.ensures in
    batch_bad others bytes text c.in-Ok.more c.in-Ok.rest.now c.in-Ok.why c.args.taken
    c.in-Some.fault (sym c.wrong_in.ensures ∙ c.in-Some.is) b.brings

pub returns-clause-ok : goal.returns-clause-ok
returns-clause-ok c = λ others same.
    let w = c.head_of-count in
    let bytes = c.args.bytes.now in
    let heads = subst (λ o. Heads o bytes w.result.0 w.result.1.now w.result.2 w.result.3) (sym same) w.ensures in
    batches_brings c.changes_fit.ensures c.spelled_is_said.ensures others bytes w.result.0 w.result.1.now w.result.2
    w.result.3 c.in-Ok.more c.in-Ok.rest.now c.in-Ok.why c.args.taken
    (length bytes - length w.result.1.now) (λ i. omega (arith, c.type_inv.bytes i)) refl heads c.in-Ok.ensures
    (sym c.wrong_in.ensures ∙ c.in_default-wrong_in.is)
