use Rattle.std.proofs.Common.{◌≡◌, ◌+◌, List, ◌∷◌, drop, length, subst}
use Rattle.std.specs.List.{AllByRecursion}
use Rattle.cs_model.specs.declared.change.Change.{Change}
use Rattle.cs_write.proofs.forms.Giving.{given_takes, giving_goes_on}
use Rattle.cs_group.specs.Slots.{slot_seen}
use Rattle.cs_group.specs.Table.{HasColumnsOf, slot_changes, slots_seen}
use Rattle.cs_group.proofs.one_more.SlotSteps.{from_slot, slot_some}
use Rattle.cs_group.proofs.rows.Rows.push_to.Goals as goal
use Rattle.cs_group.proofs.rows.Rows.push_to.Goals.{In-Some}

-- the changes from this slot on
slots_left : (c : In-Some) → slot_changes (slots_seen (drop c.loop-slot.slot-index c.args.self.now.slots.items))
    ≡ slot_seen c.in-Some.slot
    ∷ slot_changes (slots_seen (drop (c.loop-slot.slot-index + 1) c.args.self.now.slots.items))
slots_left c =
    let slots = c.args.self.now.slots.items in
    let i = c.loop-slot.slot-index in
    slot_some (drop i slots) (drop (i + 1) slots) c.slot-item.result c.in-Some.slot
    (from_slot slots c.deref-slot-items.result.now i c.slot-item.result c.deref-slot-items.ensures.value
    c.loop-slot-test.true c.slot-item.is) c.in-Some.is

pub push_to-requires : goal.push_to-requires
push_to-requires c =
    let here = slots_left (goal.at.push_to-requires c).In-Some in
    let fit = subst (λ (cs : List Change). AllByRecursion (HasColumnsOf (length c.args.self.now.shape.now.flags)) cs) here
    c.loop-slot.invariant.left in
    given_takes _ _ _ _ _ _ _ _ fit.0 c.loop-slot.invariant.made

pub loop-slot-preserved : goal.loop-slot-preserved
loop-slot-preserved c =
    let here = slots_left (goal.at.loop-slot-preserved c).In-Some in
    let fit = subst (λ (cs : List Change). AllByRecursion (HasColumnsOf (length c.args.self.now.shape.now.flags)) cs) here
    c.loop-slot.invariant.left in
    record {
      left = fit.1;
      made = giving_goes_on _ _ _ _ _ _ _ _ c.in_ok-push_to.ensures here c.loop-slot.invariant.made;
    }
