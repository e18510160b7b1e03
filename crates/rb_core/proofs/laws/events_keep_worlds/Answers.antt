use Rattle.std.proofs.Common.{subst}
use Rattle.rb_core.specs.declared.reply.Reply.{Reply}
use Rattle.rb_core.specs.State.{State, IsWorld}
use Rattle.rb_core.proofs.invariants.DeskLaws.{DeskShows, KeepsPictures}
use Rattle.rb_core.proofs.invariants.WorldEvents.{event_keeps}
use Rattle.rb_subscriber.specs.Accept.{brought}
use Rattle.rb_core.proofs.laws.events_keep_worlds.Goals as goal

pub returns : goal.returns
returns c = λ old event given new good is.
    let shows : DeskShows = record {
      subscribes = c.calls_show_in_outline.ensures.subscribe;
      takes = c.calls_show_in_outline.ensures.take;
      takes_any = c.calls_show_in_outline.ensures.take_any;
      acks = c.calls_show_in_outline.ensures.ack;
      nacks = c.calls_show_in_outline.ensures.nack;
      opens = c.calls_show_in_outline.ensures.nack_opened;
      expires = c.calls_show_in_outline.ensures.expire;
      reconnects = c.calls_show_in_outline.ensures.reconnect;
      unsubscribes = c.calls_show_in_outline.ensures.unsubscribe;
      places = c.calls_show_in_outline.ensures.place;
      closes = c.calls_show_in_outline.ensures.close;
    } in
    let keeps : KeepsPictures = λ old step good.
    (c.calls_keep_pictures.ensures old step good, c.calls_keep_limits.ensures old step) in
    subst (λ (x : Reply × State). IsWorld x.1) is
    (event_keeps keeps shows
    (λ old sequence delivery. c.accepting_is_step.ensures old (brought sequence delivery) delivery)
    c.withdrawals_are_admitted.ensures old event good)
