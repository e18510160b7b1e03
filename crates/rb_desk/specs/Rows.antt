-- Worked examples: what calls return one after another, by the definitions.
use Rattle.std.specs.Prelude.{◌≡◌, [], ◌∷◌, Ok, Err, refl}
use Rattle.rb_desk.specs.declared.refusal.DeskRefusal.TheVariants as refusal
use Rattle.rb_desk.specs.declared.step.Step.TheVariants.{Subscribe, Take, Ack, Nack, Reconnect}
use Rattle.rb_desk.specs.declared.step.Step.TheVariants.{Place, Close, NackOpened, TakeAny}
use Rattle.rb_desk.specs.Limits.{Limits, six_limits}
use Rattle.rb_desk.specs.Picture.{Picture}
use Rattle.rb_deliveries.specs.Spans.{cut_spans}
use Rattle.rb_desk.specs.Calls.{subscribe, take, take_any, ack, nack, expire, reconnect, prepare}
use Rattle.rb_desk.specs.Calls.{place, close, nack_opened}
use Rattle.rb_desk.specs.Steps.{after_step, replay, replayed}

-- batches of one number with two deliveries in flight; batches of up to 256
abbrev pub two_in_flight : Limits
two_in_flight = six_limits 1 2 10 9 1 1

abbrev large_batches : Limits
large_batches = record two_in_flight { batch = 256; window = 4 }

-- three numbers are placed, and two are taken
abbrev two_taken : Picture
two_taken = replay two_in_flight
    (Subscribe 0 ∷ Place ∷ Place ∷ Place ∷ Take 0 1 0 0 ∷ Take 0 1 0 0 ∷ [])

-- The window is full. An ack requires that all is accepted, and an ack of the second delivery does
-- not raise the floor over the first.
pub window : (take two_taken 0 1 0 0).0 ≡ Err refusal.WindowFull
unfolding subscribe take prepare place after_step cut_spans
window = refl

pub not_accepted : (ack two_taken 0 1 1 0).0 ≡ Err (refusal.NotAccepted 0)
unfolding subscribe take ack prepare place after_step cut_spans
not_accepted = refl

pub floor_stays : (ack two_taken 0 1 2 2).0 ≡ Ok 0
unfolding subscribe take ack prepare place after_step cut_spans
floor_stays = refl

pub floor_rises : (ack (after_step two_taken (Ack 0 1 2 2)) 0 1 1 2).0 ≡ Ok 2
unfolding subscribe take ack prepare place after_step cut_spans
floor_rises = refl

-- a returned delivery is ready after all others
pub behind_the_rest : (take_any (after_step two_taken (Nack 0 1 2)) 0).0
    ≡ Ok (record { number = 3; sub = 0; link = 1; first = 3; last = 3 })
unfolding subscribe take take_any nack prepare place after_step cut_spans
behind_the_rest = refl

-- a delivery expires at its tick, and not before
abbrev one_taken : Picture
one_taken = replay large_batches (Subscribe 0 ∷ Place ∷ Take 0 1 0 5 ∷ [])

pub not_due : (expire one_taken 14).0 ≡ 0
unfolding subscribe take expire prepare place after_step cut_spans
not_due = refl

pub due : (expire one_taken 15).0 ≡ 1
unfolding subscribe take expire prepare place after_step cut_spans
due = refl

-- a span that was taken does not grow, and a reconnect cuts anew
abbrev taken_and_placed : Picture
taken_and_placed = replay large_batches (Subscribe 0 ∷ Place ∷ Take 0 1 0 0 ∷ Place ∷ Place ∷ [])

pub not_lengthened : (take taken_and_placed 0 1 0 0).0
    ≡ Ok (record { number = 2; sub = 0; link = 1; first = 2; last = 3 })
unfolding subscribe take prepare place after_step cut_spans
not_lengthened = refl

pub cut_anew : (take (after_step taken_and_placed (Reconnect 0 0)) 0 2 0 0).0
    ≡ Ok (record { number = 2; sub = 0; link = 2; first = 1; last = 3 })
unfolding subscribe take reconnect prepare place after_step cut_spans
cut_anew = refl

pub stale : (take (after_step taken_and_placed (Reconnect 0 0)) 0 1 0 0).0 ≡ Err refusal.StaleLink
unfolding subscribe take reconnect prepare place after_step cut_spans
stale = refl

-- A delivery of three numbers is opened, and another number is placed. Each number is delivered
-- alone: by `take` the lowest first, and by `take_any` too. The delivery isn't in flight any more.
abbrev three_taken : Picture
three_taken = replay large_batches
    (Subscribe 0 ∷ Place ∷ Place ∷ Place ∷ Take 0 1 0 0 ∷ [])

abbrev three_opened : Picture
three_opened = replayed three_taken (NackOpened 0 1 1 ∷ Place ∷ [])

pub opens_three : (nack_opened three_taken 0 1 1).0 ≡ Ok 3
unfolding subscribe take nack_opened prepare place after_step cut_spans
opens_three = refl

pub taken_alone : (take three_opened 0 1 0 0).0
    ≡ Ok (record { number = 2; sub = 0; link = 1; first = 1; last = 1 })
unfolding subscribe take nack_opened prepare place after_step cut_spans
taken_alone = refl

pub by_rising_number : (take_any (replayed three_opened (TakeAny 0 ∷ TakeAny 0 ∷ [])) 0).0
    ≡ Ok (record { number = 4; sub = 0; link = 1; first = 3; last = 3 })
unfolding subscribe take take_any nack_opened prepare place after_step cut_spans
by_rising_number = refl

pub placed_after_opening :
    (take_any (replayed three_opened (TakeAny 0 ∷ TakeAny 0 ∷ TakeAny 0 ∷ [])) 0).0
    ≡ Ok (record { number = 5; sub = 0; link = 1; first = 4; last = 4 })
unfolding subscribe take take_any nack_opened prepare place after_step cut_spans
placed_after_opening = refl

pub opened_once : (nack_opened three_opened 0 1 1).0 ≡ Err refusal.NotInFlight
unfolding subscribe take nack_opened prepare place after_step cut_spans
opened_once = refl

pub cut_together_again : (take (after_step three_opened (Reconnect 0 0)) 0 2 0 0).0
    ≡ Ok (record { number = 2; sub = 0; link = 2; first = 1; last = 4 })
unfolding subscribe take nack_opened reconnect prepare place after_step cut_spans
cut_together_again = refl

-- after a close, placed numbers can still be taken; then the subscription is drained
pub delivers_after_close :
    (take (replay large_batches (Subscribe 0 ∷ Place ∷ Close ∷ [])) 0 1 0 0).0
    ≡ Ok (record { number = 1; sub = 0; link = 1; first = 1; last = 1 })
unfolding subscribe take prepare place close after_step cut_spans
delivers_after_close = refl

pub drained :
    (take (replay large_batches (Subscribe 0 ∷ Place ∷ Close ∷ Take 0 1 0 0 ∷ Ack 0 1 1 1 ∷ [])) 0 1
    1 0).0 ≡ Err (refusal.Drained 1)
unfolding subscribe take ack prepare place close after_step cut_spans
drained = refl
