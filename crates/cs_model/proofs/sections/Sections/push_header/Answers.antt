use Rattle.std.proofs.Common.{List, [], ◌∷◌, ◌++◌, ap, ◌∙◌}
use Rattle.cs_model.specs.declared.at.At.{At}
use Rattle.cs_model.proofs.texts.GrowthLaws.{opened}
use Rattle.cs_model.proofs.sections.Sections.push_header.Goals as goal

pub invariant_of-self-2 : goal.invariant_of-self-2
invariant_of-self-2 c = (opened _ _ _ _ _ _ c.in-Ok.at c.self.invariant c.self.view_is
    c.in-Ok.ensures.ok c.in-Ok.ensures.at
    (c.push_reserved.ensures.items ∙ ap (λ (xs : List At). xs ++ c.in-Ok.at ∷ []) c.in_ok-reserve.ensures.items)).stands

pub returns-clause-ok : goal.returns-clause-ok
returns-clause-ok c = (opened _ _ _ _ _ _ c.in-Ok.at c.self.invariant c.self.view_is
    c.in-Ok.ensures.ok c.in-Ok.ensures.at
    (c.push_reserved.ensures.items ∙ ap (λ (xs : List At). xs ++ c.in-Ok.at ∷ []) c.in_ok-reserve.ensures.items)).says
