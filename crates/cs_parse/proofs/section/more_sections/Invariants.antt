use Rattle.std.proofs.Common.{◌+◌, ◌≤◌, [], length}
use Rattle.cs_parse.specs.Front.{prefixed}
use Rattle.cs_parse.specs.Progress.{read_on}
use Rattle.cs_parse.proofs.feeding.SectionFronts.{Along}
use Rattle.cs_parse.proofs.section.more_sections.Given as goal

abbrev pub invariant-loop : goal.invariant-loop
invariant-loop l = record {
  few : l.counter + length l.rest ≤ length l.bytes;
  along : Along l.sections l.rest (prefixed l.fn.sections (read_on [] l.bytes));
}
