use Rattle.std.proofs.Common.{◌≡◌, ◌∙◌, ◌++◌, ◌∷◌, [], ℕ, List, None, Some, cond, length, ap, arith, subst, sym}
use Rattle.std.proofs.lemmas.List.{length-map, map-append}
use Rattle.std.specs.Option.{option_map}
use Rattle.cs_model.specs.Schema.{same_bytes}
use Rattle.cs_group.specs.Group.{changed_row}
use Rattle.cs_group.specs.Merge.{only_change}
use Rattle.cs_group.specs.Slots.{slot_seen}
use Rattle.cs_group.specs.Table.{HoldSlots, met_at, row_place, slots_seen}
use Rattle.cs_group.proofs.one_more.Holding.{begun, idle}
use Rattle.cs_group.proofs.table.Table.begin.Goals as goal

pub returns-in_default-clause-ok : goal.returns-in_default-clause-ok
returns-in_default-clause-ok c = λ changes valid fits own none holds.
    let old = c.args.self.now in
    idle old.flags.now (row_place old.places.entries) (slots_seen old.slots.items) changes c.args.new valid fits holds
    (subst (λ k. met_at (slots_seen old.slots.items) (row_place old.places.entries k) ≡ None) own none)
    (sym c.in_ok-first.ensures ∙ ap (option_map slot_seen) c.in_default.is)

pub returns-clause-ok : goal.returns-clause-ok
returns-clause-ok c = λ changes valid fits own none holds.
    let old = c.args.self.now in
    let flags = old.flags.now in
    let at = row_place old.places.entries in
    let later = row_place c.insert.new.self.entries in
    let slots = slots_seen old.slots.items in
    let first = slot_seen c.in-Some.first in
    let is : only_change flags c.args.new ≡ Some first =
    sym c.in_ok-first.ensures ∙ ap (option_map slot_seen) c.in-Some.is in
    let count : c.len.result ≡ length slots =
    grind (arith, c.len.ensures, old.slots.ok.0, length-map old.slots.items (option_map slot_seen)) in
    let moved : (other : List ℕ) → later other
    ≡ cond (same_bytes (changed_row flags c.args.new) other) (Some (length slots)) (at other) =
    λ other. c.in_ok-insert.ensures.updates.0 other
    ∙ (λ i. cond (same_bytes (own i) other) (Some (count i)) (at other)) in
    let pushed : slots_seen c.push.new.self.items ≡ slots ++ Some first ∷ [] =
    ap slots_seen c.in_ok-push.ensures.items
    ∙ map-append (option_map slot_seen) old.slots.items (Some c.in-Some.first ∷ []) in
    subst (λ s. HoldSlots flags later s (changes ++ c.args.new ∷ [])) (sym pushed)
    (begun flags at slots changes c.args.new valid fits holds
    (subst (λ k. met_at slots (at k) ≡ None) own none) first is later moved)
