use Rattle.std.proofs.Common.{length, ap, arith}
use Rattle.std.proofs.lemmas.Grind.{common_steps}
use Rattle.cs_model.proofs.texts.GrowthLaws.{as_many_places}
use Rattle.cs_model.proofs.section_ref.SectionRefs.len.Goals as goal

pub returns : goal.returns
returns c = grind (arith, common_steps, as_many_places _ _ c.self.invariant.at, ap length c.self.view_is)
