use Rattle.std.proofs.Common.{rules}
use Rattle.cs_model.proofs.spelling.VarintLemmas.{varint_one}
use Rattle.cs_model.proofs.varint.varint_push.Goals as goal

pub returns-then-value-lt128-clause-ok : goal.returns-then-value-lt128-clause-ok
returns-then-value-lt128-clause-ok c =
    let byte = varint_one c.args.value c.if-value-lt128.true in
    let items = c.in_ok-push.ensures.items in
    rw (← byte) (search rules)
