use Rattle.std.proofs.Common.{ap}
use Rattle.cs_write.specs.Seen.{seen}
use Rattle.cs_write.proofs.forms.GroupLaws.{grouping_begins, grouping_goes_on}
use Rattle.cs_write.proofs.groups.groups_of.Goals as goal

pub loop-section-init : goal.loop-section-init
loop-section-init c = grouping_begins _ _ _ (ap seen c.new-groups.ensures.empty)
    c.into_iter-section-iterator.ensures.into_iter_gives

pub loop-section-preserved : goal.loop-section-preserved
loop-section-preserved c = grouping_goes_on _ _ c.in-Some.section _ _ _ c.in_ok-add_section.ensures.ok
    c.in-Some.ensures.steps c.loop-section.invariant
