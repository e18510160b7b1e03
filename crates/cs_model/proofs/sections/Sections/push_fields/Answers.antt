use Rattle.std.proofs.Common.{[], ◌∷◌, refl, arith}
use Rattle.std.proofs.lemmas.Grind.{common_steps}
use Rattle.cs_model.specs.PackedChanges.{change_of}
use Rattle.cs_model.specs.Seen.{fields_seen}
use Rattle.cs_model.specs.Sections.{with_changes}
use Rattle.cs_model.proofs.texts.GrowthLaws.{TextGrows, added_len, can_push, one_change, pushed_text, bytes_of_one}
use Rattle.cs_model.proofs.texts.GrowthLaws.{takes_one}
use Rattle.cs_model.proofs.sections.Sections.push_fields.Goals as goal
use Rattle.cs_model.proofs.sections.Sections.push_fields.Goals.{After-grow_last}

-- the sections have the change at their end
fields_at_end : (c : After-grow_last) → TextGrows c.grow_last.new.ats.items c.fields_push.new.out.items
    (with_changes c.args.self.now (change_of c.args.op c.args.indirect (fields_seen c.args.before.now) (fields_seen c.args.after.now) ∷ []))
fields_at_end c =
    let p = c.in_ok-fields_push.ensures in
    let long = added_len c.self.inside.text.items c.fields_push.new.out.items _ c.len-start.result c.len.result p.ok
    (grind (arith, common_steps)) (grind (arith, common_steps)) in
    pushed_text _ _ _ _ _ _ _ _ 1 c.self.invariant c.self.view_is
    (takes_one c.args.self.now _ c.requires p.before p.after) p.ok (one_change _ _ refl) long refl c.grow_last.ensures

pub grow_last-requires : goal.grow_last-requires
grow_last-requires c =
    let added = c.in_ok-fields_push.ensures.ok in
    let long = added_len c.self.inside.text.items c.fields_push.new.out.items _ c.len-start.result c.len.result added
    (grind (arith, common_steps)) (grind (arith, common_steps)) in
    can_push _ _ _ _ _ 1 c.self.invariant added (omega arith) long
    (bytes_of_one _ (change_of c.args.op c.args.indirect (fields_seen c.args.before.now) (fields_seen c.args.after.now)) _ refl long)

pub invariant_of-self-2 : goal.invariant_of-self-2
invariant_of-self-2 c = (fields_at_end (goal.at.invariant_of-self-2 c).After-grow_last).stands

pub returns-clause-ok : goal.returns-clause-ok
returns-clause-ok c = (fields_at_end (goal.at.returns-clause-ok c).After-grow_last).says
