use Rattle.std.proofs.Common.{length, sym, ap, subst, arith}
use Rattle.cs_model.specs.Changeset.{IsChangeset}
use Rattle.cs_invert.proofs.inverses.AsLong.{sections_as_long}
use Rattle.cs_invert.proofs.layings.Given.{TellsInverse, given_none, given_room, tells_inverse}
use Rattle.cs_invert.proofs.text.write_inverse.Goals.{After-text-len}
use Rattle.cs_invert.proofs.text.write_inverse.Goals as goal

has_inverse : (c : After-text-len) → TellsInverse c.args.changeset.now c.text-len.result.now
has_inverse c = tells_inverse c.iter-sections.result _ c.again.result _ c.iter-sections.ensures.same c.again.ensures
    c.iter-sections.ensures.valid (c.in_ok-is_form.ensures.0 c.if-not-branch.false) c.text-len.ensures

pub put_sections-requires-clause-room : goal.put_sections-requires-clause-room
put_sections-requires-clause-room c = omega (
  arith,
  c.if-out-len.true,
  ap length c.text-len.ensures,
  sections_as_long c.iter-sections.result (subst IsChangeset (sym c.iter-sections.ensures.same) c.iter-sections.ensures.valid),
)

pub returns-then-out-len-clause-length : goal.returns-then-out-len-clause-length
returns-then-out-len-clause-length c = (has_inverse (goal.at.returns-then-out-len-clause-length c).After-text-len).long

pub returns-then-out-len-clause-written : goal.returns-then-out-len-clause-written
returns-then-out-len-clause-written c = given_room _ _ _ _ _ c.iter-sections.ensures.same
    (has_inverse (goal.at.returns-then-out-len-clause-written c).After-text-len) c.if-out-len.true c.put_sections.ensures

pub returns-else-out-len-clause-length : goal.returns-else-out-len-clause-length
returns-else-out-len-clause-length c = (has_inverse (goal.at.returns-else-out-len-clause-length c).After-text-len).long

pub returns-else-out-len-clause-written : goal.returns-else-out-len-clause-written
returns-else-out-len-clause-written c = given_none _ _ _
    (has_inverse (goal.at.returns-else-out-len-clause-written c).After-text-len) c.if-out-len.false
