use Rattle.std.proofs.Common.{sym, subst, ◌∙◌, ◌∷◌, ◌++◌, [], ap, ◌≡◌, ◌+◌, take, drop}
use Rattle.std.proofs.lemmas.List.{take_more, drop_more}
use Rattle.cs_group.specs.Adding.{ReportsClash}
use Rattle.cs_group.specs.Group.{first_clash}
use Rattle.changeset_c.proofs.CombineLaws.{add_cut, add_next, sections_next}
use Rattle.changeset_c.proofs.combining.grouped.Goals as goal

pub returns-in-Err-Clash-clause-refused : goal.returns-in-Err-Clash-clause-refused
returns-in-Err-Clash-clause-refused c =
    let all = c.args.changesets.now in
    let i = c.loop-text.text in
    let one = c.index-changesets-text.result in
    rw c.in-Err-Clash.field-0-is
    (add_cut all i one c.in-Err-Clash.section c.loop-text-test.true
    (drop_more all i one c.loop-text-test.true ∙ ap (λ s. s ∷ drop (i + 1) all) (sym c.index-changesets-text.is))
    c.loop-text.invariant.fits
    (ap (λ ss. first_clash ss one) (sym c.loop-text.invariant.added)
    ∙ subst (λ e. ReportsClash e (first_clash c.loop-text.group one)) c.in-Err-Clash.field-0-is
    c.in-Err-Clash.ensures.refused))

pub loop-text-preserved : goal.loop-text-preserved
loop-text-preserved c =
    let all = c.args.changesets.now in
    let i = c.loop-text.text in
    let one = c.index-changesets-text.result in
    let next : take (i + 1) all ≡ take i all ++ one ∷ [] =
    take_more all i one c.loop-text-test.true
    ∙ ap (λ s. take i all ++ s ∷ []) (sym c.index-changesets-text.is) in
    record {
      added = c.in-Ok.ensures.ok ∙ ap (λ ss. ss ++ one) c.loop-text.invariant.added
          ∙ sym (sections_next all i one next);
      fits = add_next all i one next c.loop-text.invariant.fits
          (ap (λ ss. first_clash ss one) (sym c.loop-text.invariant.added) ∙ c.in-Ok.ensures.fits);
    }
