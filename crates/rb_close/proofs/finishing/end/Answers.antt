use Rattle.std.proofs.Common.{◌≡◌, ◌∙◌, ap, sym, subst, arith}
use Rattle.rb_intake.specs.Joined.{HasEndedAs}
use Rattle.rb_intake.specs.Passes.{LastKnows, MakerKnows}
use Rattle.rb_close.proofs.FinishLaws.{broker_finishes, last_queue, order_of_pulls, present_has_ended, room_is, taken_apart}
use Rattle.rb_close.proofs.finishing.end.Goals as goal

-- each publisher that was made is joined
pub drain-pass-requires-clause-all : goal.drain-pass-requires-clause-all
drain-pass-requires-clause-all g c p below =
    let ps = c.args.publishers.items in
    let is = taken_apart ps c.args.sequencer _ _ _ _ _ _ _ c.into_parts-pass.ensures.pass
    c.into_parts-pass.ensures.pulled c.into_parts-pass.ensures.hand c.join_all.ensures c.end-last.ensures
    c.with_hand-left.ensures.items in
    let made = ap (λ (l : LastKnows). l.made) c.end-last.ensures
    ∙ ap (λ (m : MakerKnows). m.made) c.into_pass.ensures in
    subst (λ es. HasEndedAs p es) (sym is.joined)
    (present_has_ended p ps (c.requires.given p (omega (arith, below, made))))

-- there is room for what waits
pub drain-pass-requires-clause-room : goal.drain-pass-requires-clause-room
drain-pass-requires-clause-room g c =
    let ps = c.args.publishers.items in
    let is = taken_apart ps c.args.sequencer _ _ _ _ _ _ _ c.into_parts-pass.ensures.pass
    c.into_parts-pass.ensures.pulled c.into_parts-pass.ensures.hand c.join_all.ensures c.end-last.ensures
    c.with_hand-left.ensures.items in
    let cap = c.with_hand-left.ensures.capacity in
    let room = c.requires.room in
    room_is ps c.args.sequencer _ _ _ _ is (omega (arith, c.with_hand-left.result.ok.0)) (omega (arith, cap, room))

pub returns-clause-finishes : goal.returns-clause-finishes
returns-clause-finishes g c =
    let ps = c.args.publishers.items in
    let is = taken_apart ps c.args.sequencer _ _ _ _ _ _ _ c.into_parts-pass.ensures.pass
    c.into_parts-pass.ensures.pulled c.into_parts-pass.ensures.hand c.join_all.ensures c.end-last.ensures
    c.with_hand-left.ensures.items in
    broker_finishes g.L.StepLedger.cells ps c.args.sequencer _ _ _ _ _ _ is c.drain-pass.ensures c.placed-placed.ensures.count
    c.requires.closing

pub returns-clause-order : goal.returns-clause-order
returns-clause-order g c =
    let ps = c.args.publishers.items in
    let is = taken_apart ps c.args.sequencer _ _ _ _ _ _ _ c.into_parts-pass.ensures.pass
    c.into_parts-pass.ensures.pulled c.into_parts-pass.ensures.hand c.join_all.ensures c.end-last.ensures
    c.with_hand-left.ensures.items in
    let queue = last_queue ps c.args.sequencer _ _ _ _ _ c.into_parts-pass.ensures.pass c.join_all.ensures
    c.end-last.ensures in
    order_of_pulls ps c.args.sequencer _ _ _ _ _ is queue c.drain-pass.ensures
