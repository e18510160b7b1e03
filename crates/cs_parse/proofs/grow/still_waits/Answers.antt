use Rattle.std.proofs.Common.{true, false, sym, ap, subst, ◌∙◌, ◌++◌}
use Rattle.std.specs.Option.{option_copied}
use Rattle.cs_parse.specs.Front.{Waits}
use Rattle.cs_parse.proofs.feeding.WaitLaws.{header_waiting, any_waits, waits_now, header_lacks, change_lacks}
use Rattle.cs_parse.proofs.grow.still_waits.Goals as goal

pub header_short-requires : goal.header_short-requires
header_short-requires c = header_waiting (option_copied c.args.flags) c.args.bytes.now c.args.spot.now c.requires

pub returns-then-is_over-clause-lacks : goal.returns-then-is_over-clause-lacks
returns-then-is_over-clause-lacks c = λ others same.
    header_lacks others c.args.bytes.now c.header_short.result (sym c.is_empty.ensures ∙ c.if-is_empty.false)
    (sym c.is_over.ensures ∙ c.if-is_over.true) c.header_short.ensures.short

pub returns-then-is_over-clause-waits : goal.returns-then-is_over-clause-waits
returns-then-is_over-clause-waits c = λ some others same.
    let bytes = c.args.bytes.now in
    let least = c.header_short.result in
    waits_now others bytes true least
    (header_lacks others bytes least (sym c.is_empty.ensures ∙ c.if-is_empty.false)
    (sym c.is_over.ensures ∙ c.if-is_over.true) c.header_short.ensures.short) some

pub returns-then-is_over-clause-spot : goal.returns-then-is_over-clause-spot
returns-then-is_over-clause-spot c = λ some more fits.
    any_waits (option_copied c.args.flags) (c.args.bytes.now ++ more) c.header_short.new.spot
    (λ flags. c.header_short.ensures.spot some flags more fits)

pub still_short-requires : goal.still_short-requires
still_short-requires c =
    let last = ap option_copied c.in-Some.is in
    subst (λ o. Waits o c.args.bytes.now c.args.spot.now) last c.requires

pub returns-clause-lacks : goal.returns-clause-lacks
returns-clause-lacks c = λ others same.
    let last = ap option_copied c.in-Some.is in
    change_lacks others c.in-Some.flags.now c.args.bytes.now c.still_short.result (same ∙ last)
    (sym c.is_over.ensures ∙ c.if-is_over.false) c.still_short.ensures.short

pub returns-clause-waits : goal.returns-clause-waits
returns-clause-waits c = λ some others same.
    let last = ap option_copied c.in-Some.is in
    let over = sym c.is_over.ensures ∙ c.if-is_over.false in
    waits_now others c.args.bytes.now false c.still_short.result
    (change_lacks others c.in-Some.flags.now c.args.bytes.now c.still_short.result (same ∙ last) over
    c.still_short.ensures.short) some

pub returns-clause-spot : goal.returns-clause-spot
returns-clause-spot c = λ some more fits.
    let last = ap option_copied c.in-Some.is in
    subst (λ o. Waits o (c.args.bytes.now ++ more) c.still_short.new.spot) (sym last)
    (c.still_short.ensures.spot some more fits)
