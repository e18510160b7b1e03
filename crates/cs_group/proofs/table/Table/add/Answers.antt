use Rattle.std.proofs.Common.{◌≡◌, ◌∙◌, Some, ap, sym}
use Rattle.std.proofs.lemmas.Result.{on_ok_weaker}
use Rattle.cs_group.specs.Group.{changed_row}
use Rattle.cs_group.specs.Merge.{two_changes}
use Rattle.cs_group.specs.Table.{met_at, put_at, row_place, slots_seen}
use Rattle.cs_group.proofs.one_more.Holding.{met_is, slots_met}
use Rattle.cs_group.proofs.table.Table.add.Goals as goal

pub returns-in-Some-clause-ok : goal.returns-in-Some-clause-ok
returns-in-Some-clause-ok c =
    let old = c.args.self.now in
    let flags = old.flags.now in
    let new = c.args.change in
    let at = row_place old.places.entries in
    let slots = slots_seen old.slots.items in
    let place = c.in-Some.place in
    let found : c.copied-found.result ≡ at (changed_row flags new) =
    c.copied-found.ensures ∙ c.get.ensures.value ∙ ap at c.in_ok-key.ensures in
    let met_here : met_at slots (at (changed_row flags new)) ≡ Some place =
    ap (met_at slots) (sym found)
    ∙ ap (λ items. met_at (slots_seen items) c.copied-found.result) (sym c.deref.ensures.value)
    ∙ sym c.met.ensures ∙ c.in-Some.is in
    let met = met_is slots (at (changed_row flags new)) place met_here in
    on_ok_weaker c.merge_at.result (λ merged. λ changes valid fits holds.
    slots_met flags at slots (slots_seen c.merge_at.new.slots.items) changes new place met.1.0 valid fits holds met.0
    met.1.1 (merged met.1.0 met.1.1 ∙ ap (λ d. put_at place (two_changes flags met.1.0 d) slots) c.unpack.ensures))
    c.merge_at.ensures
