-- What a board's calls leave: its deliveries have its limits.
use Rattle.std.proofs.Common.{◌≡◌, ℕ, ap, arith, sym, ◌∙◌, Option}
use Rattle.rb_deliveries.specs.Changes.{grown_picture}
use Rattle.rb_deliveries.specs.Picture.{DeliveryPicture}
use Rattle.rb_desk.specs.Calls.{place}
use Rattle.rb_desk.specs.Limits.{Limits}
use Rattle.rb_desk.specs.Picture.{deliveries_of, with_deliveries}
use Rattle.rb_desk.specs.Shown.{IsWithin, shown}

pub still_within : (limits : Limits) (old new : DeliveryPicture) → IsWithin limits old → new.batch ≡ old.batch
    → new.window ≡ old.window → new.front ≡ old.front → IsWithin limits new
still_within limits old new w batch window front = record {
  batch = batch ∙ w.batch;
  window = window ∙ w.window;
  capacity = w.capacity;
  front = omega (arith, w.front, front);
}

-- the deliveries of the picture that is shown are those that are stored
pub same_deliveries : (limits : Limits) (closing : Option ℕ) (clock next_link : ℕ) (d : DeliveryPicture)
    → IsWithin limits d → deliveries_of (shown limits closing clock next_link d) ≡ d
same_deliveries limits closing clock next_link d w = λ i. record {
  batch = sym w.batch i;
  window = sym w.window i;
  front = d.front;
  next_delivery = d.next_delivery;
  subscriptions = d.subscriptions;
  ready = d.ready;
  in_flight = d.in_flight;
}

pub placed_is : (limits : Limits) (closing : Option ℕ) (clock next_link : ℕ) (d : DeliveryPicture)
    → IsWithin limits d → place (shown limits closing clock next_link d)
    ≡ shown limits closing clock next_link (grown_picture d)
unfolding place
placed_is limits closing clock next_link d w =
    ap (λ x. with_deliveries (shown limits closing clock next_link d) (grown_picture x))
    (same_deliveries limits closing clock next_link d w)
