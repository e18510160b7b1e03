use Rattle.std.proofs.Common.{◌≡◌, ◌∙◌, ◌++◌, ◌∷◌, [], List, ℕ, ◌+◌, length, take, drop, sym, ap, subst}
use Rattle.std.proofs.lemmas.List.{take_more, take-append-drop, append-nil}
use Rattle.std.specs.List.{AllByRecursion}
use Rattle.cs_model.specs.declared.change.Change.{Change}
use Rattle.cs_model.specs.Changeset.{all_changes}
use Rattle.cs_group.specs.Table.{HoldSlots, HasColumnsOf, IsOfTable, row_place, slots_seen}
use Rattle.cs_group.proofs.all_tables.Lists.{all_of_front, all_of_back, all_held}
use Rattle.cs_group.proofs.one_more.StepLaw.{flat_map_both}
use Rattle.cs_group.proofs.rows.Rows.of.Goals as goal

pub loop-section-preserved : goal.loop-section-preserved
loop-section-preserved c =
    let flags = c.args.shape.now.flags in
    let now = c.loop-section.table in
    let later = c.add_all.new.self in
    let same = c.loop-section.invariant.flags in
    let i = c.loop-section.section-index in
    let all = c.args.sections.now in
    let section = c.section-item.result in
    let before = all_changes (take i all) in
    let more : all_changes (take (i + 1) all) ≡ before ++ section.changes =
    ap all_changes (take_more all i section c.loop-section-test.true
    ∙ ap (λ s. take i all ++ s ∷ []) (sym c.section-item.is))
    ∙ flat_map_both (λ s. s.changes) (take i all) (section ∷ [])
    ∙ ap (λ xs. before ++ xs) (append-nil section.changes) in
    let whole : all_changes all ≡ all_changes (take (i + 1) all) ++ all_changes (drop (i + 1) all) =
    ap all_changes (sym (take-append-drop (i + 1) all))
    ∙ flat_map_both (λ s. s.changes) (take (i + 1) all) (drop (i + 1) all) in
    let mine : AllByRecursion (IsOfTable flags) (before ++ section.changes) =
    subst (AllByRecursion (IsOfTable flags)) more (all_of_front (IsOfTable flags) (all_changes (take (i + 1) all))
    (all_changes (drop (i + 1) all)) (subst (AllByRecursion (IsOfTable flags)) whole c.requires)) in
    let step = subst (λ (f : List ℕ). (first : List Change) → AllByRecursion (IsOfTable f) first
    → AllByRecursion (IsOfTable f) section.changes
    → HoldSlots f (row_place now.places.entries) (slots_seen now.slots.items) first
    → HoldSlots f (row_place later.places.entries) (slots_seen later.slots.items) (first ++ section.changes))
    same c.in_ok-add_all.ensures.ok in
    record {
      flags = c.in_ok-add_all.ensures.flags ∙ same;
      holds = subst (HoldSlots flags (row_place later.places.entries) (slots_seen later.slots.items)) (sym more)
          (step before (all_of_front (IsOfTable flags) before section.changes mine)
          (all_of_back (IsOfTable flags) before section.changes mine)
          c.loop-section.invariant.holds);
    }

pub returns-clause-columns : goal.returns-clause-columns
returns-clause-columns c =
    let shape = c.args.shape.now in
    all_held (HasColumnsOf (length shape.flags)) (slots_seen c.loop-section.table.slots.items)
    (λ place change is. (c.changes_fit.ensures shape change
    (c.loop-section.invariant.holds.valid place change is)).long)
