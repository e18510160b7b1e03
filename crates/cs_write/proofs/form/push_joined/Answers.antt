use Rattle.std.proofs.Common.{◌≡◌, ◌+◌, ◌<◌, ℕ, List, [], ◌∷◌, ◌++◌, get_or, take, drop, length, sym, ap, subst}
use Rattle.std.proofs.Common.{◌∙◌}
use Rattle.std.specs.List.{AllByRecursion}
use Rattle.std.proofs.lemmas.List.{take_more, drop_more}
use Rattle.cs_model.proofs.texts.LastOne.{columns_of_last}
use Rattle.cs_model.specs.Section.{Section}
use Rattle.cs_model.specs.Sections.{LastHasColumns, with_changes}
use Rattle.cs_write.specs.Canon.{joined_section}
use Rattle.cs_write.specs.Groups.{HasColumns}
use Rattle.cs_write.proofs.forms.FormLaws.{joined_more}
use Rattle.cs_write.proofs.form.push_joined.Goals as goal

-- the section at this place has its columns, and so have those behind it
here_and_behind : (columns : ℕ) (all : List Section) (i : ℕ) (s d : Section) → i < length all → s ≡ get_or all i d
    → AllByRecursion (HasColumns columns) (drop i all)
    → HasColumns columns s × AllByRecursion (HasColumns columns) (drop (i + 1) all)
here_and_behind columns all i s d some is left =
    subst (λ (xs : List Section). AllByRecursion (HasColumns columns) xs)
    (drop_more all i d some ∙ ap (λ x. x ∷ drop (i + 1) all) (sym is)) left

pub push_changes-requires : goal.push_changes-requires
push_changes-requires c =
    let s = c.section-item.result in
    let left = here_and_behind (length c.args.shape.now.flags) c.args.sections.now c.loop-section.section-index s s
    c.loop-section-test.true c.section-item.is c.loop-section.invariant.left in
    subst (λ (xs : List Section). LastHasColumns xs (length s.shape.flags)) (sym c.loop-section.invariant.made)
    (columns_of_last c.args.form.now
    (joined_section (c.args.shape.now, take c.loop-section.section-index c.args.sections.now)) (length s.shape.flags)
    (sym left.0))

pub loop-section-preserved : goal.loop-section-preserved
loop-section-preserved c =
    let all = c.args.sections.now in
    let i = c.loop-section.section-index in
    let s = c.section-item.result in
    let next : take (i + 1) all ≡ take i all ++ s ∷ [] = take_more all i s c.loop-section-test.true
    ∙ ap (λ x. take i all ++ x ∷ []) (sym c.section-item.is) in
    record {
      made = c.in_ok-push_changes.ensures.ok
          ∙ (ap (λ (xs : List Section). with_changes xs s.changes) c.loop-section.invariant.made
          ∙ (joined_more c.args.form.now c.args.shape.now (take i all) s
          ∙ ap (λ (xs : List Section). c.args.form.now ++ joined_section (c.args.shape.now, xs) ∷ []) (sym next)));
      left = (here_and_behind (length c.args.shape.now.flags) all i s s c.loop-section-test.true c.section-item.is
          c.loop-section.invariant.left).1;
    }
