use Rattle.std.proofs.Common.{◌∙◌, List, length, refl, ap, subst, arith}
use Rattle.std.proofs.lemmas.List.{nil_from_length}
use Rattle.cs_model.specs.Changeset.{IsChangeset}
use Rattle.cs_model.specs.Section.{Section}
use Rattle.cs_model.specs.SectionText.{header_text, sections_text}
use Rattle.cs_model.specs.PackedChanges.{changes_bytes}
use Rattle.cs_invert.specs.Inverse.{inverse}
use Rattle.cs_invert.proofs.layings.Laying.{lays_done, lays_on}
use Rattle.cs_invert.proofs.layings.Parts.{cut_back, section_parts}
use Rattle.cs_invert.proofs.laying.put_sections.Goals as goal

pub returns-in_default : goal.returns-in_default
returns-in_default c = (lays_done (ap (λ (ss : List Section). sections_text (inverse ss)) c.in_default.ensures.steps.0)
    c.loop.invariant.lays).1

pub loop-preserved : goal.loop-preserved
loop-preserved c =
    let was = c.loop.invariant in
    let steps = c.in-Some.ensures.steps in
    let section = c.in-Some.section in
    let front = cut_back _ (sections_text c.next.new.self) _ _ _ (c.text-text.ensures ∙ ap sections_text steps) c.text.ensures
    c.split_at.ensures.front in
    let header = cut_back (header_text section.shape) (changes_bytes section.changes) _ _ _ front c.bytes.ensures
    c.split_at-in-loop.ensures.front in
    record {
      valid = (subst IsChangeset steps was.valid).1;
      count = omega (arith, was.count, ap length steps);
      lays = lays_on _ _ _ _ refl c.put_changes-at.ensures.end c.put_changes-at.ensures.bytes
          (lays_on _ _ _ _ (section_parts section _ _ _ steps header) c.put_bytes-at.ensures.end
          c.put_bytes-at.ensures.bytes was.lays);
    }

pub returns : goal.returns
returns c =
    let none = nil_from_length c.loop.left (omega (arith, c.loop.invariant.count, c.loop-test.false, c.len-end.ensures)) in
    (lays_done (ap (λ (ss : List Section). sections_text (inverse ss)) none) c.loop.invariant.lays).1
