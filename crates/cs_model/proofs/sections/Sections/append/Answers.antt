use Rattle.std.proofs.Common.{List, ◌++◌, ap, subst, sym, ◌∙◌}
use Rattle.cs_model.specs.Sections.{IsText}
use Rattle.cs_model.proofs.texts.GrowthLaws.{both_texts}
use Rattle.cs_model.proofs.sections.Sections.append.Goals as goal

pub invariant_of-self-2 : goal.invariant_of-self-2
invariant_of-self-2 c = (both_texts _ _ _ _ _ _ _ _ c.self.invariant c.self.view_is
    (subst (λ xs. IsText c.into_parts-text.result.1.items c.into_parts-text.result.0.items xs)
    (sym c.into_parts-text.ensures.says) c.into_parts-text.ensures.stands) c.into_parts-text.ensures.says
    (c.in_ok-append_both.ensures.text ∙ ap (λ (w : List _). c.self.inside.text.items ++ w) c.deref.ensures.value)
    c.in_ok-append_both.ensures.ats).stands

pub returns-clause-ok : goal.returns-clause-ok
returns-clause-ok c = (both_texts _ _ _ _ _ _ _ _ c.self.invariant c.self.view_is
    (subst (λ xs. IsText c.into_parts-text.result.1.items c.into_parts-text.result.0.items xs)
    (sym c.into_parts-text.ensures.says) c.into_parts-text.ensures.stands) c.into_parts-text.ensures.says
    (c.in_ok-append_both.ensures.text ∙ ap (λ (w : List _). c.self.inside.text.items ++ w) c.deref.ensures.value)
    c.in_ok-append_both.ensures.ats).says
