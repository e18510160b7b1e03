use Rattle.std.proofs.Common.{◌≡◌, ◌∙◌, Some, refl, sym, ap, slice_get, length, arith}
use Rattle.std.proofs.lemmas.Option.{slice_get_read}
use Rattle.std.specs.Prelude.{option_map}
use Rattle.cs_model.specs.Seen.{change_seen}
use Rattle.cs_group.specs.Merge.{two_changes}
use Rattle.cs_group.specs.Slots.{kept_if, merged_seen, slot_seen}
use Rattle.cs_group.proofs.one_more.Seen.{seen_put}
use Rattle.cs_group.proofs.merge.merge_at.Goals as goal
use Rattle.cs_group.proofs.merge.merge_at.Goals.{In_ok-merge}

-- the slot that has a change
slot_met : (c : In_ok-merge) → slice_get c.args.slots.now.items c.args.place ≡ Some (Some c.in-Some-take.there)
slot_met c =
    slice_get_read c.args.slots.now.items (length c.args.slots.now.items) c.args.place c.in-Some.slot.now refl
    (omega (arith, c.in-Some.ensures.variant.0 refl)) c.in-Some.ensures.value
    ∙ ap Some (sym c.take.ensures.value ∙ c.in-Some-take.is)

-- what is left of it and the new one
still_left : (c : In_ok-merge) → kept_if c.in_ok-merge.field-0 c.merge.new.there
    ≡ two_changes c.args.flags.now (slot_seen c.in-Some-take.there) (change_seen c.args.new.now)
still_left c = c.in_ok-merge.ensures ∙ ap (λ old. two_changes c.args.flags.now old (change_seen c.args.new.now))
    (ap merged_seen c.deref_mut.ensures.value ∙ c.in_ok-merged.ensures)

pub returns-then-branch : goal.returns-then-branch
returns-then-branch c = λ there is.
    let now = (goal.at.returns-then-branch c).In_ok-merge in
    seen_put _ _ _ _ there (λ old. two_changes c.args.flags.now old (change_seen c.args.new.now)) (slot_met now) is
    (ap (λ b. kept_if b c.merge.new.there) (sym c.if-branch.true) ∙ still_left now)

pub returns-else-branch : goal.returns-else-branch
returns-else-branch c = λ there is.
    let now = (goal.at.returns-else-branch c).In_ok-merge in
    seen_put _ _ _ _ there (λ old. two_changes c.args.flags.now old (change_seen c.args.new.now)) (slot_met now) is
    (ap (option_map slot_seen) c.take.ensures.after ∙ ap (λ b. kept_if b c.merge.new.there) (sym c.if-branch.false)
    ∙ still_left now)
