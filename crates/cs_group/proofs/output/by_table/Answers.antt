use Rattle.std.proofs.Common.{◌≡◌, [], ◌∷◌, ◌++◌, take, refl, sym, ap, ◌∙◌}
use Rattle.std.proofs.lemmas.List.{take_more}
use Rattle.cs_write.specs.Canon.{by_shape}
use Rattle.cs_write.specs.Groups.{added}
use Rattle.cs_write.specs.Seen.{seen}
use Rattle.cs_write.proofs.forms.GroupLaws.{by_shape-more, none_grouped}
use Rattle.cs_group.proofs.output.by_table.Goals as goal

pub loop-section-init : goal.loop-section-init
loop-section-init c = ap seen c.new-groups.ensures.empty ∙ none_grouped

pub loop-section-preserved : goal.loop-section-preserved
loop-section-preserved c =
    let all = c.args.sections.now in
    let i = c.loop-section.section-index in
    let s = c.section-item.result in
    let now : seen c.add_section.new.groups.entries ≡ added (by_shape []
    (take i all)) s = c.in_ok-add_section.ensures.ok
    ∙ ap (λ x. added (seen c.loop-section.groups.entries) x) c.again.ensures
    ∙ ap (λ g. added g s) c.loop-section.invariant in
    now ∙ sym (by_shape-more [] (take i all) s refl)
    ∙ ap (by_shape []) (ap (λ x. take i all ++ x ∷ []) c.section-item.is
    ∙ sym (take_more all i s c.loop-section-test.true))
