use Rattle.std.proofs.Common.{◌∙◌, ◌++◌, ◌∷◌, [], List, length, sym, ap, subst}
use Rattle.std.proofs.lemmas.List.{length-map}
use Rattle.std.proofs.lemmas.Result.{on_ok_weaker}
use Rattle.cs_model.proofs.texts.LastOne.{changes_to_last, columns_of_last}
use Rattle.cs_model.specs.declared.shape.Shape.{Shape}
use Rattle.cs_model.specs.Section.{Section}
use Rattle.cs_model.specs.Sections.{LastHasColumns, with_changes}
use Rattle.cs_invert.specs.Inverse.{inverse_change, inverse_section}
use Rattle.cs_invert.proofs.layings.Parts.{PacksInverses, packs_inverses}
use Rattle.cs_invert.proofs.inverse.push_inverse.Goals.{After-len}
use Rattle.cs_invert.proofs.inverse.push_inverse.Goals as goal

-- what the text that was made says
packed_inverses : (c : After-len) → PacksInverses c.args.section.now (length c.flags.result.now) c.deref.result.now
packed_inverses c = packs_inverses c.args.section.now _ _ (ap length c.flags.ensures) c.requires.1
    (c.deref.ensures.value ∙ c.in_ok-text.ensures)

pub push_text-requires : goal.push_text-requires
push_text-requires c =
    let section = c.args.section.now in
    let s = packed_inverses (goal.at.push_text-requires c).After-len in
    record {
      last = subst (λ (ss : List Section). LastHasColumns ss (length c.flags.result.now)) (sym c.in_ok-push_header.ensures.ok)
          (columns_of_last c.args.made.now (record { shape = c.shape.result; changes = [] }) _
          (ap (λ (shape : Shape). length shape.flags) c.shape.ensures ∙ ap length (sym c.flags.ensures)));
      fit = s.packs.fit;
      count = c.len.ensures ∙ sym (ap length s.are ∙ length-map section.changes (inverse_change section.shape.flags));
      canonical = λ _. s.packs;
    }

pub returns : goal.returns
returns c =
    let s = packed_inverses (goal.at.returns c).After-len in
    let front = c.args.made.now in
    on_ok_weaker c.push_text.result (λ made. made ∙ (λ i. with_changes (c.in_ok-push_header.ensures.ok i) (s.are i))
    ∙ changes_to_last front (record { shape = c.shape.result; changes = [] }) (inverse_section c.args.section.now).changes
    ∙ (λ i. front ++ record {
      shape = c.shape.ensures i;
      changes = (inverse_section c.args.section.now).changes;
    } ∷ []))
    c.push_text.ensures.ok
