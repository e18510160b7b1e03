use Rattle.std.proofs.Common.{List, subst}
use Rattle.cs_model.specs.declared.at.At.{At}
use Rattle.cs_model.specs.Sections.{IsText, sections_by}
use Rattle.cs_model.proofs.texts.SectionLaws.{text_starts, others}
use Rattle.cs_model.proofs.section_ref.SectionRefsIterator.next.Goals as goal

pub section_of-section-requires : goal.section_of-section-requires
section_of-section-requires c = text_starts _ _ _
    (subst (λ (xs : List At). IsText xs c.self.inside.bytes.now (sections_by xs c.self.inside.bytes.now))
    c.in_ok-at.ensures.cases.0 c.self.invariant)

pub invariant_of-self : goal.invariant_of-self
invariant_of-self c = rw c.section_of-section.ensures.rest (others c.in_ok-at.at.now _ _
    (subst (λ (xs : List At). IsText xs c.self.inside.bytes.now (sections_by xs c.self.inside.bytes.now))
    c.in_ok-at.ensures.cases.0 c.self.invariant))
