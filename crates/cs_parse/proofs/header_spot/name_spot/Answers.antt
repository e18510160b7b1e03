use Rattle.std.proofs.Common.{sym, ◌∙◌, arith}
use Rattle.cs_parse.proofs.feeding.NameLaws.{no_some, name_goes_on}
use Rattle.cs_parse.proofs.header_spot.name_spot.Goals as goal

pub returns : goal.returns
returns c =
    let none = no_some c.first_zero.result (sym c.is_some.ensures ∙ c.if-is_some.false) in
    name_goes_on c.args.bytes.now c.args.at c.args.letters c.split_at.result.1.now c.split_at-2.result.1.now c.requires
    c.split_at.ensures.back c.split_at-2.ensures.back (omega (arith, c.if-name-gt1024.false))
    (sym c.first_zero.ensures.place ∙ none)
