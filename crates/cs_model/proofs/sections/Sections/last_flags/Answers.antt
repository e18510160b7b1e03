use Rattle.std.proofs.Common.{List, ℕ, Some, sym, subst, ap, ◌∙◌}
use Rattle.cs_model.specs.declared.at.At.{At}
use Rattle.cs_model.specs.Sections.{ArePlacesOf, sections_by, last_flags}
use Rattle.cs_model.proofs.texts.LastLaws.{last_stands}
use Rattle.cs_model.proofs.sections.Sections.last_flags.Goals as goal

pub flags_at-requires : goal.flags_at-requires
flags_at-requires c =
    let ss = sections_by c.self.inside.ats.items c.self.inside.text.items in
    let last = last_stands c.in_ok-at.field-0-1.now c.in_ok-at.at.now ss c.deref-2.result.now
    (c.deref-2.ensures.value ∙ c.self.invariant.parts)
    (subst (λ (xs : List At). ArePlacesOf xs ss) (sym c.deref.ensures.value ∙ c.in_ok-at.ensures.cases.0)
    c.self.invariant.at) c.self.invariant.fit in
    (last.section, last.ends)

pub returns : goal.returns
returns c =
    let ss = sections_by c.self.inside.ats.items c.self.inside.text.items in
    let last = last_stands c.in_ok-at.field-0-1.now c.in_ok-at.at.now ss c.deref-2.result.now
    (c.deref-2.ensures.value ∙ c.self.invariant.parts)
    (subst (λ (xs : List At). ArePlacesOf xs ss) (sym c.deref.ensures.value ∙ c.in_ok-at.ensures.cases.0)
    c.self.invariant.at) c.self.invariant.fit in
    ap last_flags (sym c.self.view_is)
    ∙ (last.flags ∙ ap (λ (w : List ℕ). Some w) (sym (c.flags_at.ensures last.section last.ends)))
