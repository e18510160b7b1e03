use Rattle.std.proofs.Common.{length, ◌-◌, refl}
use Rattle.cs_model.proofs.packing.PartLaws.{part_between, part_front, part_no_longer}
use Rattle.cs_model.proofs.change_ref.RecordRef.part.Goals as goal

pub overflow_sub-rest : goal.overflow_sub-rest
overflow_sub-rest c = part_no_longer _ _ _ _ _ _
    (part_between _ _ _ _ c.skip-rest.result.now c.skip-after.result.now c.self.invariant c.skip-rest.ensures
    c.skip-after.ensures)

pub returns : goal.returns
returns c = rw (← c.self.view_is) (part_front _ _ _ _ _ _ _
    (length c.skip-rest.result.now - length c.skip-after.result.now)
    (part_between _ _ _ _ c.skip-rest.result.now c.skip-after.result.now c.self.invariant c.skip-rest.ensures
    c.skip-after.ensures)
    refl c.split_at.ensures.front)
