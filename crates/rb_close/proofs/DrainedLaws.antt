-- What a drained subscription has accepted.
use Rattle.std.proofs.Common.{◌≡◌, ◌∙◌, ℕ, ◌-◌, ◌≤◌, List, ◌++◌, length, take, drop, ap, arith}
use Rattle.std.proofs.lemmas.List.{length-drop, length-map, length-take-le, take-append-drop, take_all}
use Rattle.rb_sequence.specs.Cells.{CellToken, Cells, LastToken}
use Rattle.rb_sequence.specs.Entry.{Entry}
use Rattle.rb_sequence.specs.Item.{Item}
use Rattle.rb_broker.specs.Publishers.{PublisherView}
use Rattle.rb_sequencer.specs.Turns.{SequencerState}
use Rattle.rb_subscriber.specs.Shown.{entries_told}
use Rattle.rb_subscriber.specs.Subscription.{SubscriptionState, cursor_of}
use Rattle.rb_close.specs.Finishing.{Finishes}
use Rattle.rb_close.specs.Headline.{HasAcceptedAll}
use Rattle.rb_close.specs.Meeting.{HasMet}

-- its cursor is how many were placed, so what it accepted are all of these after its start
pub drained_accepted : (cells : Cells) (publishers : List PublisherView) (sequencer : SequencerState) (placed : ℕ)
    (left : List Item) (closing drained : LastToken) (subscription : SubscriptionState)
    → Finishes cells publishers sequencer placed left closing → HasMet sequencer subscription
    → drained.last ≡ cursor_of subscription → drained.last ≡ closing.last → HasAcceptedAll sequencer subscription
drained_accepted cells publishers sequencer placed left closing drained subscription finished met at_cursor at_last =
    let start = subscription.start in
    let entries = entries_told sequencer.placed in
    let many = length-map sequencer.placed (λ (t : CellToken). t.entry) in
    let ends = length-drop start entries in
    let most = finished.many in
    let last = finished.last in
    let few : start ≤ length entries = omega (arith, many, most, last, at_cursor, at_last) in
    let all : length (drop start entries) ≤ cursor_of subscription - start =
    omega (arith, ends, many, most, last, at_cursor, at_last) in
    let rest = met ∙ take_all (cursor_of subscription - start) (drop start entries) all in (
      take start entries,
      length-take-le start entries few,
      ap (λ (es : List Entry). take start entries ++ es) rest ∙ take-append-drop start entries,
    )
