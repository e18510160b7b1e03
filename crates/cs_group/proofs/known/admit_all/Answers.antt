use Rattle.std.proofs.Common.{◌≡◌, ◌∙◌, ◌∷◌, ◌++◌, [], ◌+◌, Bool, true, false, not, List, take, drop, refl, sym}
use Rattle.std.proofs.Common.{ap, subst, append_assoc}
use Rattle.std.proofs.lemmas.List.{take_more, drop_more}
use Rattle.std.specs.Prelude.{option_map}
use Rattle.cs_model.specs.Section.{Section}
use Rattle.cs_group.specs.Adding.{Knows, differs_by, known_as}
use Rattle.cs_group.specs.Group.{clashes, first_clash}
use Rattle.cs_group.proofs.schemas.Knowing.{clash_next, kept_on}
use Rattle.cs_group.proofs.known.admit_all.Goals as goal

not_is : (b : Bool) → true ≡ not b → b ≡ false
not_is true e = e
not_is false e = refl

pub loop-section-preserved : goal.loop-section-preserved
loop-section-preserved c =
    let i = c.loop-section.section in
    let all = c.args.sections.now in
    let section = c.index-sections-section.result in
    let now = c.loop-section.tables.entries in
    let shape = c.shape.ensures in
    let so_far = c.loop-section.invariant in
    let next : take (i + 1) all ≡ take i all ++ section ∷ [] =
    take_more all i section c.loop-section-test.true
    ∙ ap (λ s. take i all ++ s ∷ []) (sym c.index-sections-section.is) in
    let rest : drop i all ≡ section ∷ drop (i + 1) all =
    drop_more all i section c.loop-section-test.true
    ∙ ap (λ s. s ∷ drop (i + 1) all) (sym c.index-sections-section.is) in
    let same : differs_by (known_as now section.shape.name) section.shape ≡ false =
    ap (λ s. differs_by (known_as now s.name) s) (sym shape)
    ∙ not_is _ (sym c.if-not-branch.false ∙ c.in_ok-admit.ensures.admits) in
    let fits : (earlier : List Section) → Knows earlier c.args.tables.now.entries
    → clashes (earlier ++ take i all) section ≡ false =
    λ earlier known. so_far.knows earlier known section ∙ same in
    record {
      knows = λ earlier known. subst (λ ss. Knows ss c.admit.new.tables.entries)
          (append_assoc earlier (take i all) (section ∷ []) ∙ ap (λ ss. earlier ++ ss) (sym next))
          (c.in_ok-admit.ensures.knows (earlier ++ take i all) section (sym shape) (so_far.knows earlier known)
          (fits earlier known));
      fits = λ earlier known. clash_next earlier (take i all) section (drop (i + 1) all) i (first_clash earlier all)
          (fits earlier known) (so_far.fits earlier known
          ∙ ap (λ ss. option_map (λ n. i + n) (first_clash (earlier ++ take i all) ss)) rest)
          ∙ ap (λ ss. option_map (λ n. (i + 1) + n) (first_clash (earlier ++ ss) (drop (i + 1) all))) (sym next);
      kept = kept_on c.args.tables.now.entries now c.admit.new.tables.entries so_far.kept c.in_ok-admit.ensures.kept;
    }
