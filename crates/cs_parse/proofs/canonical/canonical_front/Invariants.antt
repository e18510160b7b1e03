use Rattle.std.proofs.Common.{[]}
use Rattle.cs_parse.specs.Progress.{read_on}
use Rattle.cs_parse.proofs.feeding.SectionFronts.{Along}
use Rattle.cs_parse.proofs.canonical.canonical_front.Given as goal

-- the sections so far, and what is read behind them
abbrev pub invariant-loop : goal.invariant-loop
invariant-loop l = Along l.front.0 l.front.1 (read_on [] l.text)
