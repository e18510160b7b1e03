use Rattle.std.proofs.Common.{refl, arith}
use Rattle.cs_model.proofs.texts.GrowthLaws.{can_push, fewer, of_last, pushed_text}
use Rattle.cs_model.proofs.sections.Sections.push_changes.Goals as goal

pub grow_last-requires : goal.grow_last-requires
grow_last-requires c = can_push _ _ _ _ _ _ c.self.invariant c.in_ok-extend_from_slice.ensures.items (omega arith) refl
    (fewer _ _ _ _ c.canonical-bytes.ensures.bytes refl c.len.ensures)

pub invariant_of-self-2 : goal.invariant_of-self-2
invariant_of-self-2 c = (pushed_text _ _ _ _ _ _ _ _ _ c.self.invariant c.self.view_is
    (of_last c.args.self.now _ _ c.requires c.canonical-bytes.ensures.fit) c.in_ok-extend_from_slice.ensures.items
    c.canonical-bytes.ensures.bytes refl c.len.ensures c.grow_last.ensures).stands

pub returns-clause-ok : goal.returns-clause-ok
returns-clause-ok c = (pushed_text _ _ _ _ _ _ _ _ _ c.self.invariant c.self.view_is
    (of_last c.args.self.now _ _ c.requires c.canonical-bytes.ensures.fit) c.in_ok-extend_from_slice.ensures.items
    c.canonical-bytes.ensures.bytes refl c.len.ensures c.grow_last.ensures).says
