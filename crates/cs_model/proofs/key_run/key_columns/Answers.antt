use Rattle.std.proofs.Common.{arith}
use Rattle.cs_model.proofs.lists.KeyRuns.{in_key, not_in_key, run_found, split_found, place_within}
use Rattle.cs_model.proofs.key_run.key_columns.Goals as goal

pub split_at-requires : goal.split_at-requires
split_at-requires c = omega (arith, c.outside-first.ensures, place_within in_key c.args.flags.now)

pub split_at-requires-2 : goal.split_at-requires-2
split_at-requires-2 c = omega (arith, c.inside-count.ensures, place_within not_in_key c.split_at.result.1.now)

pub returns-then-outside-rest : goal.returns-then-outside-rest
returns-then-outside-rest c =
    split_found c.args.flags.now c.split_at.result.1.now c.split_at-2.result.1.now c.outside-first.result
    c.inside-count.result c.outside.result c.outside-first.ensures c.split_at.ensures.back c.inside-count.ensures
    c.split_at-2.ensures.back c.outside.ensures c.if-outside-rest.true

pub returns : goal.returns
returns c =
    run_found c.args.flags.now c.split_at.result.1.now c.split_at-2.result.1.now c.outside-first.result
    c.inside-count.result c.outside.result c.outside-first.ensures c.split_at.ensures.back c.inside-count.ensures
    c.split_at-2.ensures.back c.outside.ensures (omega (arith, c.if-outside-rest.false))
