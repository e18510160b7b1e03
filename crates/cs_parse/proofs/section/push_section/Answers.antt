use Rattle.std.proofs.Common.{◌≡◌, ◌∙◌, [], ◌∷◌, ◌++◌, List, OnOk, length, sym, ap, subst}
use Rattle.cs_model.specs.declared.shape.Shape.{Shape}
use Rattle.cs_model.specs.PackedChanges.{unpacked_changes}
use Rattle.cs_model.specs.Section.{Section}
use Rattle.cs_model.specs.Sections.{LastHasColumns, with_changes}
use Rattle.cs_model.proofs.texts.GrowthLaws.{opened_section}
use Rattle.cs_model.proofs.texts.LastOne.{columns_of_last, one_with, changes_to_last}
use Rattle.cs_parse.proofs.section.push_section.Goals as goal

pub push_text-requires-clause-last : goal.push_text-requires-clause-last
push_text-requires-clause-last c =
    subst (λ (ss : List Section). LastHasColumns ss (length c.shape.inside.flags.now)) (sym c.in_ok-push_header.ensures.ok)
    (columns_of_last c.args.sections.now (opened_section c.args.shape.now) (length c.shape.inside.flags.now)
    (ap (λ (s : Shape). length s.flags) (sym c.shape.view_is)))

pub returns : goal.returns
returns c =
    let changes = unpacked_changes (length c.shape.inside.flags.now) c.args.text.now in
    subst (λ (ss : List Section). OnOk c.push_text.result (c.push_text.new.self ≡ ss))
    (ap (λ (ss : List Section). with_changes ss changes) c.in_ok-push_header.ensures.ok
    ∙ changes_to_last c.args.sections.now (opened_section c.args.shape.now) changes
    ∙ ap (λ (s : Shape). c.args.sections.now ++ one_with (opened_section c.args.shape.now)
    (unpacked_changes (length s.flags) c.args.text.now) ∷ []) c.shape.view_is) c.push_text.ensures.ok
