use Rattle.std.proofs.Common.{refl, arith}
use Rattle.std.proofs.lemmas.Grind.{common_steps}
use Rattle.cs_model.specs.PackedChanges.{unpacked_changes}
use Rattle.cs_model.specs.Sections.{with_changes}
use Rattle.cs_model.proofs.texts.GrowthLaws.{TextGrows, added_len, can_push, fewer, of_last, pushed_text}
use Rattle.cs_model.proofs.sections.Sections.push_text.Goals as goal
use Rattle.cs_model.proofs.sections.Sections.push_text.Goals.{After-grow_last}

-- the sections have the changes at their end
text_at_end : (c : After-grow_last) → TextGrows c.grow_last.new.ats.items c.text_push.new.out.items
    (with_changes c.args.self.now (unpacked_changes c.args.columns c.args.text.now))
text_at_end c =
    let added = c.in_ok-text_push.ensures.ok in
    let long = added_len c.self.inside.text.items c.text_push.new.out.items _ c.len-start.result c.len.result added
    (grind (arith, common_steps)) (grind (arith, common_steps)) in
    pushed_text _ _ _ _ _ _ _ _ _ c.self.invariant c.self.view_is
    (of_last c.args.self.now _ _ c.requires.last c.requires.fit) added refl long c.requires.count c.grow_last.ensures

pub grow_last-requires : goal.grow_last-requires
grow_last-requires c =
    let added = c.in_ok-text_push.ensures.ok in
    let long = added_len c.self.inside.text.items c.text_push.new.out.items _ c.len-start.result c.len.result added
    (grind (arith, common_steps)) (grind (arith, common_steps)) in
    can_push _ _ _ _ _ _ c.self.invariant added (omega arith) long (fewer _ _ _ _ refl long c.requires.count)

pub invariant_of-self-2 : goal.invariant_of-self-2
invariant_of-self-2 c = (text_at_end (goal.at.invariant_of-self-2 c).After-grow_last).stands

pub returns-clause-ok : goal.returns-clause-ok
returns-clause-ok c = (text_at_end (goal.at.returns-clause-ok c).After-grow_last).says
