use Rattle.std.proofs.Common.{subst}
use Rattle.cs_model.specs.Sections.{LastIsLong}
use Rattle.cs_group.specs.declared.slot.Slot.{Slot}
use Rattle.cs_group.specs.Slots.{slot_seen}
use Rattle.cs_group.proofs.slot.Slot.push_to.Goals as goal

pub push_packed-requires : goal.push_packed-requires
push_packed-requires c = subst (λ (s : Slot). LastIsLong c.args.sections.now (slot_seen s).op (slot_seen s).before
    (slot_seen s).after) c.in-Alone.is c.requires
