use Rattle.std.proofs.Common.{◌≡◌, ◌≤◌, ◌∙◌, Some, sym, ap, subst}
use Rattle.rb_desk.specs.Picture.{Picture}
use Rattle.rb_desk.specs.Steps.{FloorsRise}
use Rattle.rb_desk.proofs.pictures.Replays.{front_rises_all, replay_keeps, replayed_rise}
use Rattle.rb_subscriber.specs.Owner.{desk_after, steps_made}
use Rattle.rb_broker.proofs.SeenLaws.{at_closing, later_picture, closing_stays_after}
use Rattle.rb_broker.proofs.laws.what_is_seen_stays.Goals as goal

pub returns-clause-front : goal.returns-clause-front
returns-clause-front c = λ limits early late p.
    let was = (desk_after limits early).picture in
    subst (λ (q : Picture). was.front ≤ q.front) (later_picture limits early late p) (front_rises_all was (steps_made p.0))

pub returns-clause-floors : goal.returns-clause-floors
returns-clause-floors c = λ limits early late in_range p.
    let was = (desk_after limits early).picture in
    subst (FloorsRise was) (later_picture limits early late p)
    (replayed_rise was (steps_made p.0) (replay_keeps limits (steps_made early) in_range))

pub returns-clause-closed : goal.returns-clause-closed
returns-clause-closed c = λ limits early late last in_range p is.
    let was = (desk_after limits early).picture in
    let closed = subst (λ (q : Picture). q.closing ≡ Some last) (later_picture limits early late p)
    (closing_stays_after was (steps_made p.0) last is) in (
      closed,
      at_closing (desk_after limits late).picture last closed
          (replay_keeps limits (steps_made late) in_range).closed,
    )
