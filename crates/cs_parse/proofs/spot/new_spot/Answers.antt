use Rattle.std.proofs.Common.{drop, arith}
use Rattle.cs_parse.specs.Spot.{HaltsNew}
use Rattle.cs_parse.proofs.feeding.SpotLaws.{back_of_drop, back_shorter, more_columns, new_halts}
use Rattle.cs_parse.proofs.feeding.StayLaws.{new_passed}
use Rattle.cs_parse.proofs.spot.new_spot.Goals as goal
use Rattle.cs_parse.proofs.spot.new_spot.Goals.{In_ok-passed}

-- where the new record's fields end too early
halts_there : (c : In_ok-passed) → HaltsNew (drop c.args.fields c.args.flags.now)
    (drop c.args.fields c.requires.before) c.requires.left (drop c.args.at c.args.bytes.now) c.in_ok-passed.passed
    c.in_ok-passed.old_rest.now c.in_ok-passed.rest.now
halts_there c =
    new_halts c.args.flags.now c.args.bytes.now c.args.fields c.args.at c.args.old c.split_at.result.1.now
    c.split_at-2.result.1.now c.split_at-3.result.1.now c.in_ok-passed.passed c.in_ok-passed.old_rest.now
    c.in_ok-passed.rest.now c.split_at.ensures.back c.split_at-2.ensures.back c.split_at-3.ensures.back c.requires
    c.in_ok-passed.ensures.halts

pub overflow_add-result : goal.overflow_add-result
overflow_add-result c =
    let halts = halts_there (goal.at.overflow_add-result c).In_ok-passed in
    omega (arith, more_columns c.args.flags.now c.args.fields c.in_ok-passed.passed c.requires.columns halts.columns)

pub overflow_sub-result : goal.overflow_sub-result
overflow_sub-result c =
    let halts = halts_there (goal.at.overflow_sub-result c).In_ok-passed in
    back_shorter c.args.bytes.now c.in_ok-passed.rest.now
    (back_of_drop c.args.bytes.now c.args.at halts.passes.text c.in_ok-passed.rest.now halts.passes.parts)

pub returns : goal.returns
returns c =
    new_passed c.args.flags.now c.args.bytes.now c.args.fields c.args.at c.args.old c.split_at-2.result.1.now
    c.in_ok-passed.passed c.in_ok-passed.old_rest.now c.in_ok-passed.rest.now
    (λ i. omega (arith, c.type_inv.bytes i)) c.split_at-2.ensures.back c.in_ok-passed.ensures.back c.requires
    (halts_there (goal.at.returns c).In_ok-passed)
