use Rattle.cs_parse.proofs.reading.FirstZero.{first_is}
use Rattle.cs_parse.proofs.header.first_zero.Goals as goal

pub returns-clause-place : goal.returns-clause-place
returns-clause-place c = first_is c.args.bytes.now c.memchr.result c.memchr.ensures
