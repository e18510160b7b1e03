use Rattle.cs_parse.proofs.reading.Letters.{found_is, long_is, short_is}
use Rattle.std.proofs.Common.{sym, ◌∙◌}
use Rattle.cs_parse.proofs.header.letters_of.Goals as goal

pub returns-in-Some : goal.returns-in-Some
returns-in-Some c = found_is c.args.bytes.now c.min.result c.in-Some.end c.min.ensures
    (sym c.in-Some.is ∙ c.first_zero.ensures.place)

pub returns-in-None : goal.returns-in-None
returns-in-None c = long_is c.args.bytes.now c.min.result c.min.ensures (sym c.in-None.is ∙ c.first_zero.ensures.place)
    c.if-bytes-gt1024.true

pub returns-in-None-2 : goal.returns-in-None-2
returns-in-None-2 c = short_is c.args.bytes.now c.min.result c.min.ensures
    (sym c.in-None.is ∙ c.first_zero.ensures.place) c.if-bytes-gt1024.false
