use Rattle.std.proofs.Common.{◌∙◌, ◌-◌, List, ℕ, ◌++◌, ap, refl, subst, sym, arith}
use Rattle.std.proofs.lemmas.Grind.{common_steps}
use Rattle.cs_model.specs.declared.at.At.{At}
use Rattle.cs_model.specs.PackedChanges.{changes_bytes, unpacked_changes}
use Rattle.cs_model.specs.Sections.{HasRoomFor, IsText, with_changes}
use Rattle.cs_model.proofs.texts.GrowthLaws.{TextGrows, added_len, can_push, fewer, index_joined, joined_text}
use Rattle.cs_model.proofs.texts.GrowthLaws.{of_last}
use Rattle.cs_model.proofs.sections.Sections.join.Goals as goal
use Rattle.cs_model.proofs.sections.Sections.join.Goals.{After-grow_at}

pub grow_at-requires-clause-room : goal.grow_at-requires-clause-room
grow_at-requires-clause-room c =
    let bytes = changes_bytes (unpacked_changes c.args.columns c.args.text.now) in
    let added = c.in_ok-text_push.ensures.ok in
    let long = added_len c.self.inside.text.items c.text_push.new.out.items bytes c.len-start.result c.len.result
    added (grind (arith, common_steps)) (grind (arith, common_steps)) in
    let index = index_joined c.self.inside.ats.items _ c.append_both.new.ats.items c.len-len.result (c.len.result - c.len-start.result)
    c.args.count c.in-Ok.ensures.ats (grind (arith, common_steps)) in
    subst (λ (ats : List At). HasRoomFor ats (c.len.result - c.len-start.result) c.args.count) (sym index.0)
    (can_push _ _ _ bytes _ _ c.self.invariant added (omega arith) long
    (fewer _ bytes _ _ refl long c.requires.count))

-- the sections have the changes and the other sections at their end
joined_at_end : (c : After-grow_at) → TextGrows c.grow_at.new.ats.items c.append_both.new.text.items
    (with_changes c.args.self.now (unpacked_changes c.args.columns c.args.text.now) ++ c.args.others)
joined_at_end c =
    let added = c.in_ok-text_push.ensures.ok in
    let long = added_len c.self.inside.text.items c.text_push.new.out.items _ c.len-start.result c.len.result added
    (grind (arith, common_steps)) (grind (arith, common_steps)) in
    let index = index_joined c.self.inside.ats.items _ c.append_both.new.ats.items c.len-len.result _ c.args.count
    c.in-Ok.ensures.ats (grind (arith, common_steps)) in
    joined_text _ _ _ _ _ _ _ _ _ _ _ _ _ c.self.invariant c.self.view_is
    (of_last c.args.self.now _ _ c.requires.last c.requires.fit) added refl long c.requires.count
    (subst (λ xs. IsText c.into_parts-more.result.1.items c.into_parts-more.result.0.items xs)
    (sym c.into_parts-more.ensures.says) c.into_parts-more.ensures.stands) c.into_parts-more.ensures.says
    (c.in-Ok.ensures.text ∙ ap (λ (w : List ℕ). c.text_push.new.out.items ++ w) c.deref.ensures.value)
    (c.grow_at.ensures ∙ index.1)

pub invariant_of-self-2 : goal.invariant_of-self-2
invariant_of-self-2 c = (joined_at_end (goal.at.invariant_of-self-2 c).After-grow_at).stands

pub returns-clause-ok : goal.returns-clause-ok
returns-clause-ok c = (joined_at_end (goal.at.returns-clause-ok c).After-grow_at).says
