use Rattle.std.proofs.Common.{List, sym, ap, ◌∙◌, subst, arith}
use Rattle.cs_model.specs.declared.at.At.{At}
use Rattle.cs_model.specs.Sections.{HasRoomFor, grown_index}
use Rattle.cs_model.proofs.texts.GrowthLaws.{can_at, grown_at}
use Rattle.cs_model.proofs.at.grow_last.Goals as goal

pub overflow_add-at : goal.overflow_add-at
overflow_add-at c =
    let h = subst (λ (xs : List At). HasRoomFor xs c.args.size c.args.count) c.in-Some.ensures.items c.requires in
    omega (arith, (can_at c.pop.new.self.items c.in-Some.at c.args.size c.args.count h).0)

pub overflow_add-at-2 : goal.overflow_add-at-2
overflow_add-at-2 c =
    let h = subst (λ (xs : List At). HasRoomFor xs c.args.size c.args.count) c.in-Some.ensures.items c.requires in
    omega (arith, (can_at c.pop.new.self.items c.in-Some.at c.args.size c.args.count h).1)

pub returns : goal.returns
returns c = c.push_reserved.ensures.items
    ∙ sym (ap (λ (xs : List At). grown_index xs c.args.size c.args.count) c.in-Some.ensures.items
    ∙ grown_at c.pop.new.self.items c.in-Some.at c.args.size c.args.count)
