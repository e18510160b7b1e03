-- The picture that a desk shows, computed from what it stores, what its calls find, and how many
-- numbers a call draws.
use Rattle.std.specs.Prelude.{◌≡◌, ◌≤◌, ◌<◌, ◌+◌, ◌*◌, ℕ, suc, false, true, Option, None, Some}
use Rattle.std.specs.Prelude.{Result, Ok, Err, slice_get, ⊤}
use Rattle.rb_deliveries.specs.declared.span.Span.{Span}
use Rattle.rb_deliveries.specs.Changes.{Continues, has_room}
use Rattle.rb_deliveries.specs.Picture.{DeliveryPicture, Subscription}
use Rattle.rb_deliveries.specs.Queues.{most_numbers}
use Rattle.rb_deliveries.specs.Spans.{first_ready, out_as}
use Rattle.rb_desk.specs.declared.refusal.DeskRefusal.{DeskRefusal}
use Rattle.rb_desk.specs.Calls.{take, ack, nack, nack_opened, reconnect, refused_call, unsubscribe}
use Rattle.rb_desk.specs.Limits.{Limits}
use Rattle.rb_desk.specs.Picture.{Picture, empty_picture, with_deliveries}

-- a board: its picture, and how many turns its deliveries drew
pub record BoardSeen : Type 0 where
  pub picture : Picture
  pub turns : ℕ

abbrev pub shown : Limits → Option ℕ → ℕ → ℕ → DeliveryPicture → Picture
shown limits closing clock next_link = with_deliveries
    (record (empty_picture limits) { closing = closing; clock = clock; next_link = next_link })

-- the deliveries have these limits, and the front is within the capacity
pub record IsWithin (limits : Limits) (deliveries : DeliveryPicture) : Type 0 where
  pub batch : deliveries.batch ≡ limits.batch
  pub window : deliveries.window ≡ limits.window
  pub capacity : limits.capacity ≤ most_numbers
  pub front : deliveries.front ≤ limits.capacity

-- ---- numbers

-- Another link, another delivery and this many turns are left below 2^64.
pub record AreLeft (many : ℕ) (board : BoardSeen) : Type 0 where
  pub turns : board.turns + many < 18446744073709551616
  pub links : suc board.picture.next_link < 18446744073709551616
  pub deliveries : suc board.picture.next_delivery < 18446744073709551616

-- a call draws at most so many turns, one link and one delivery's number
pub record Draws (many : ℕ) (old new : BoardSeen) : Type 0 where
  pub turns : new.turns ≤ old.turns + many
  pub links : new.picture.next_link ≤ suc old.picture.next_link
  pub deliveries : new.picture.next_delivery ≤ suc old.picture.next_delivery
  pub front : new.picture.front ≤ suc old.picture.front

-- After so many steps, which a journal has room for, the counters have at most these values. One
-- step is kept for the closing.
pub record IsTallied (board : BoardSeen) (steps : ℕ) : Type 0 where
  pub few : steps ≤ 268435456
  pub kept : board.picture.closing ≡ None → steps ≤ 268435455
  pub turns : board.turns ≤ steps * 268435456
  pub links : board.picture.next_link ≤ suc steps
  pub deliveries : board.picture.next_delivery ≤ suc steps
  pub front : board.picture.front ≤ steps

-- ---- what the calls find

-- the subscription of this number, which has this link
abbrev pub FindsLinked : Result Subscription DeskRefusal → Picture → ℕ → ℕ → Type 0
FindsLinked (Ok q) p s link = (slice_get p.subscriptions s ≡ Some q) × (q.link ≡ link)
FindsLinked (Err why) p s link = ((cursor now : ℕ) → take p s link cursor now ≡ refused_call p why)
    × ((number cursor : ℕ) → ack p s link number cursor ≡ refused_call p why)
    × ((number : ℕ) → nack p s link number ≡ refused_call p why)
    × ((number : ℕ) → nack_opened p s link number ≡ refused_call p why)
    × (unsubscribe p s link ≡ refused_call p why)

-- The span is the one that `take` delivers: the first ready span of this subscription, which is
-- open, has this link, and has room in its window.
pub record IsToTake (p : Picture) (s link : ℕ) (span : Span) : Type 0 where
  pub sub : Subscription
  pub found : slice_get p.subscriptions s ≡ Some sub
  pub linked : sub.link ≡ link
  pub is_open : sub.closed ≡ false
  pub room : has_room p.limits.window sub ≡ true
  pub first : first_ready sub.spans ≡ Some span

abbrev pub FindsToTake : Result Span DeskRefusal → Picture → ℕ → ℕ → ℕ → Type 0
FindsToTake (Ok span) p s link cursor = IsToTake p s link span
FindsToTake (Err why) p s link cursor = (now : ℕ) → take p s link cursor now ≡ refused_call p why

-- The span is in flight to this subscription, which has this link, as the delivery of this number.
pub record IsInFlight (p : Picture) (s link number : ℕ) (span : Span) : Type 0 where
  pub sub : Subscription
  pub found : slice_get p.subscriptions s ≡ Some sub
  pub linked : sub.link ≡ link
  pub out : out_as number sub.spans ≡ Some span

abbrev pub FindsInFlight : Result Span DeskRefusal → Picture → ℕ → ℕ → ℕ → Type 0
FindsInFlight (Ok span) p s link number = IsInFlight p s link number span
FindsInFlight (Err why) p s link number =
    ((cursor : ℕ) → ack p s link number cursor ≡ refused_call p why)
    × (nack p s link number ≡ refused_call p why)
    × (nack_opened p s link number ≡ refused_call p why)

-- the span is accepted up to its last number
abbrev pub FindsToAck : Result Span DeskRefusal → Picture → ℕ → ℕ → ℕ → ℕ → Type 0
FindsToAck (Ok span) p s link number cursor = IsInFlight p s link number span
    × (span.last ≤ cursor)
FindsToAck (Err why) p s link number cursor = ack p s link number cursor ≡ refused_call p why

-- the subscription is open, and may continue after this cursor
abbrev pub MayReconnect : Picture → ℕ → ℕ → Type 0
MayReconnect p = Continues p.subscriptions

abbrev pub FindsToReconnect : Result ⊤ DeskRefusal → Picture → ℕ → ℕ → Type 0
FindsToReconnect (Ok done) p s cursor = MayReconnect p s cursor
FindsToReconnect (Err why) p s cursor = reconnect p s cursor ≡ refused_call p why

-- the subscription is open, and has this link
pub record MayClose (p : Picture) (s link : ℕ) : Type 0 where
  pub sub : Subscription
  pub found : slice_get p.subscriptions s ≡ Some sub
  pub linked : sub.link ≡ link
  pub is_open : sub.closed ≡ false

abbrev pub FindsToClose : Result ⊤ DeskRefusal → Picture → ℕ → ℕ → Type 0
FindsToClose (Ok done) p s link = MayClose p s link
FindsToClose (Err why) p s link = unsubscribe p s link ≡ refused_call p why
