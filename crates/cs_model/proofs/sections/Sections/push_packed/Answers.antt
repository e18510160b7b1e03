use Rattle.std.proofs.Common.{length, refl, sym, ap, ◌∙◌, arith}
use Rattle.std.proofs.lemmas.List.{append-nil}
use Rattle.cs_model.specs.PackedChanges.{change_bytes}
use Rattle.cs_model.proofs.texts.GrowthLaws.{can_push, pushed_text, takes_one}
use Rattle.cs_model.proofs.sections.Sections.push_packed.Goals as goal

pub grow_last-requires : goal.grow_last-requires
grow_last-requires c = can_push _ _ _ _ _ 1 c.self.invariant c.in_ok-extend_from_slice.ensures.items (omega arith) refl
    (omega (arith, ap length c.bytes-bytes.ensures.bytes))

pub invariant_of-self-2 : goal.invariant_of-self-2
invariant_of-self-2 c = (pushed_text _ _ _ _ _ _ _ _ 1 c.self.invariant c.self.view_is
    (takes_one c.args.self.now c.args.change.now c.requires c.bytes-bytes.ensures.before c.bytes-bytes.ensures.after)
    c.in_ok-extend_from_slice.ensures.items
    (c.bytes-bytes.ensures.bytes ∙ sym (append-nil (change_bytes c.args.change.now))) refl refl
    c.grow_last.ensures).stands

pub returns-clause-ok : goal.returns-clause-ok
returns-clause-ok c = (pushed_text _ _ _ _ _ _ _ _ 1 c.self.invariant c.self.view_is
    (takes_one c.args.self.now c.args.change.now c.requires c.bytes-bytes.ensures.before c.bytes-bytes.ensures.after)
    c.in_ok-extend_from_slice.ensures.items
    (c.bytes-bytes.ensures.bytes ∙ sym (append-nil (change_bytes c.args.change.now))) refl refl
    c.grow_last.ensures).says
