use Rattle.std.proofs.Common.{◌↔◌, []}
use Rattle.cs_write.specs.Own.{AreOwn}
use Rattle.cs_write.proofs.form.are_own.Given as goal

-- the sections that are left are like that where all are
abbrev pub invariant-loop-section : goal.invariant-loop-section
invariant-loop-section l = AreOwn l.shapes.keys l.section-iterator ↔ AreOwn [] l.fn.sections
