use Rattle.cs_parse.proofs.feeding.GrowingLaws.{kept_none}
use Rattle.cs_parse.proofs.growing.Growing.keep.Goals as goal

pub returns-then-whole-eq0-clause-ok : goal.returns-then-whole-eq0-clause-ok
returns-then-whole-eq0-clause-ok c = kept_none c.args.self.now c.args.whole.len c.if-whole-eq0.true
