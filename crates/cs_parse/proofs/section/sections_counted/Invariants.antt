use Rattle.std.proofs.Common.{◌≡◌, ◌-◌, ◌+◌, ◌≤◌, length}
use Rattle.cs_parse.specs.Reading.{is_empty, section_at, many_at}
use Rattle.cs_parse.specs.Count.{counted, changes_in}
use Rattle.cs_model.specs.Bytes.{AreBytes}
use Rattle.cs_parse.proofs.counting.Skims.{with_count}
use Rattle.cs_parse.proofs.section.sections_counted.Given as goal

abbrev pub invariant-loop : goal.invariant-loop
invariant-loop l = record {
  fits : AreBytes l.rest;
  few : l.count + length l.rest ≤ length l.bytes;
  reads : with_count changes_in l.count (many_at is_empty section_at (length l.bytes - l.counter) l.rest)
      ≡ counted changes_in (many_at is_empty section_at (length l.bytes) l.bytes);
}
