use Rattle.std.proofs.Common.{◌≡◌, ◌∙◌, ◌++◌, ◌∷◌, [], List, ℕ, sym, ap, subst, append_assoc}
use Rattle.std.specs.List.{AllByRecursion}
use Rattle.cs_model.proofs.CallerLemmas.{all_append}
use Rattle.cs_model.specs.declared.change.Change.{Change}
use Rattle.cs_group.specs.Table.{HoldSlots, IsOfTable, row_place, slots_seen}
use Rattle.cs_group.proofs.all_tables.Lists.{all_of_front, all_of_back}
use Rattle.cs_group.proofs.table.Table.add_all.Goals as goal

pub loop-change-preserved : goal.loop-change-preserved
loop-change-preserved c =
    let flags = c.args.self.now.flags.now in
    let now = c.loop-change.self in
    let later = c.add.new.self in
    let change = c.in-Some.change in
    let same = c.loop-change.invariant.flags in
    let step = subst (λ (f : List ℕ). (changes : List Change) → AllByRecursion (IsOfTable f) changes
    → IsOfTable f change → HoldSlots f (row_place now.places.entries) (slots_seen now.slots.items) changes
    → HoldSlots f (row_place later.places.entries) (slots_seen later.slots.items) (changes ++ change ∷ []))
    same c.in_ok-add.ensures.ok in
    record {
      flags = c.in_ok-add.ensures.flags ∙ same;
      holds = λ before valid fits holds.
          let so_far = c.loop-change.invariant.holds before valid fits holds in
          let done = so_far.0 ++ change ∷ [] in
          let whole : done ++ c.next.new.self ≡ c.args.section.now.changes =
          append_assoc so_far.0 (change ∷ []) c.next.new.self
          ∙ ap (λ rest. so_far.0 ++ rest) (sym c.in-Some.ensures.steps) ∙ so_far.1 in
          let mine = all_of_front (IsOfTable flags) done c.next.new.self
          (subst (AllByRecursion (IsOfTable flags)) (sym whole) fits) in (
            done,
            whole,
            subst (HoldSlots flags (row_place later.places.entries) (slots_seen later.slots.items))
                (append_assoc before so_far.0 (change ∷ []))
                (step (before ++ so_far.0)
                (all_append (IsOfTable flags) before so_far.0 valid (all_of_front (IsOfTable flags) so_far.0
                (change ∷ []) mine))
                (all_of_back (IsOfTable flags) so_far.0 (change ∷ []) mine).0 so_far.2),
          );
    }
