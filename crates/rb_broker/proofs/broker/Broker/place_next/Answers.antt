use Rattle.std.proofs.Common.{◌≡◌, ◌∙◌, ap, subst, sym, IfErr}
use Rattle.rb_sequence.specs.Cells.{Cells, IsReadyFor}
use Rattle.rb_sequence.specs.Entry.{Entry}
use Rattle.rb_subscriber.specs.Owner.{has_seen}
use Rattle.rb_broker.specs.declared.refusal.RefusedItem.{RefusedItem}
use Rattle.rb_broker.specs.Placing.{DeskRefuses, ShowsWhy}
use Rattle.rb_broker.proofs.WhyLaws.{placing_places, placing_refuses, placing_shows, told_of_desk}
use Rattle.rb_broker.proofs.broker.Broker.place_next.Goals as goal

-- the entry is ready for a cell of the broker
pub place-requires : goal.place-requires
place-requires g c =
    subst (λ (s : Cells). IsReadyFor s c.in-Ok-ready.ready) c.args.self.now.prepares c.in-Ok-ready.ensures.ok.0

-- the desk refuses, as it was when the lock was taken
pub returns-then-number-capacity-clause-desk : goal.returns-then-number-capacity-clause-desk
returns-then-number-capacity-clause-desk g c =
    let h = c.refuses.ensures in
    subst (λ why. DeskRefuses g.L.BrokerBrand.limits g.L.StepLedger.cells c.args.number why c.args.placer.now
    c.refuses.new.placer)
    (ap (λ (r : RefusedItem). r.why) (sym c.refused.ensures))
    (told_of_desk g.L.BrokerBrand.limits g.L.StepLedger.cells c.args.number c.refuses.result _ _ _ _ h.others h.held.0
    (h.seen ∙ ap (has_seen c.args.placer.now) h.log) h.why)

pub returns-in-Ok-ready-clause-desk : goal.returns-in-Ok-ready-clause-desk
returns-in-Ok-ready-clause-desk g c =
    subst (λ (e : Entry). IfErr c.place.result
    (λ refused. DeskRefuses g.L.BrokerBrand.limits g.L.StepLedger.cells e.number refused.why c.args.placer.now
    c.place.new.placer))
    (c.in-Ok-ready.ensures.ok.1 ∙ c.new-entry.ensures)
    (placing_refuses g.L.BrokerBrand.limits c.place.result g.L.StepLedger.cells c.in-Ok-ready.ready.entry _ _ _ _ _ _
    c.place.ensures.others c.place.ensures.held c.place.ensures.log c.place.ensures.seen c.place.ensures.placed)

-- the item comes back, with what the refusal shows
pub returns-in-Ok-ready-clause-err : goal.returns-in-Ok-ready-clause-err
returns-in-Ok-ready-clause-err g c =
    subst (λ (e : Entry). IfErr c.place.result
    (λ refused. (refused.item ≡ e.item) × ShowsWhy g.L.StepLedger.cells e.number refused.why))
    (c.in-Ok-ready.ensures.ok.1 ∙ c.new-entry.ensures)
    (placing_shows c.place.result g.L.StepLedger.cells c.in-Ok-ready.ready.entry _ _ c.place.ensures.placed)

-- the desk that the lock holds has placed the number
pub returns-in-Ok-ready-clause-placed : goal.returns-in-Ok-ready-clause-placed
returns-in-Ok-ready-clause-placed g c =
    placing_places g.L.BrokerBrand.limits c.place.result g.L.StepLedger.cells _ _ _ _ _ _ _ c.place.ensures.others
    c.place.ensures.held c.place.ensures.log c.place.ensures.seen c.place.ensures.placed
