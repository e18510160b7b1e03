-- Calls as steps, lists of them, and the numbers that they issue.
use Rattle.std.specs.List.{cons_option}
use Rattle.std.specs.Prelude.{◌≡◌, ◌≤◌, suc, length, slice_get, ⊤, ℕ, List, [], ◌∷◌, Option, Some}
use Rattle.std.specs.Prelude.{None}
use Rattle.std.specs.Prelude.{Result, Ok, Err}
use Rattle.rb_desk.specs.declared.refusal.DeskRefusal.{DeskRefusal}
use Rattle.rb_desk.specs.declared.delivery.Delivery.{Delivery}
use Rattle.rb_desk.specs.declared.step.Step.{Step}
use Rattle.rb_desk.specs.declared.step.Step.TheVariants.{Subscribe, Take, TakeAny, Ack, Nack}
use Rattle.rb_desk.specs.declared.step.Step.TheVariants.{Expire, Reconnect, Unsubscribe, Place}
use Rattle.rb_desk.specs.declared.step.Step.TheVariants.{Close, NackOpened}
use Rattle.rb_desk.specs.Limits.{Limits}
use Rattle.rb_desk.specs.Picture.{Picture, empty_picture}
use Rattle.rb_deliveries.specs.Picture.{Subscription}
use Rattle.rb_desk.specs.Calls.{subscribe, take, take_any, ack, nack, expire, reconnect}
use Rattle.rb_desk.specs.Calls.{unsubscribe, prepare, place, close, nack_opened}

-- a placement that isn't prepared changes nothing
abbrev pub placed_if : Picture → Result ℕ DeskRefusal → Picture
placed_if old (Ok number) = place old
placed_if old (Err why) = old

-- the picture after a step; a refused one changes nothing
unfoldable pub after_step : Picture → Step → Picture
after_step old (Subscribe start) = (subscribe old start).1
after_step old (Take s link cursor now) = (take old s link cursor now).1
after_step old (TakeAny now) = (take_any old now).1
after_step old (Ack s link delivery cursor) = (ack old s link delivery cursor).1
after_step old (Nack s link delivery) = (nack old s link delivery).1
after_step old (NackOpened s link delivery) = (nack_opened old s link delivery).1
after_step old (Expire now) = (expire old now).1
after_step old (Reconnect s cursor) = (reconnect old s cursor).1
after_step old (Unsubscribe s link) = (unsubscribe old s link).1
after_step old Place = placed_if old (prepare old)
after_step old Close = (close old).1

-- the picture after a list of steps
abbrev pub replayed : Picture → List Step → Picture
replayed p [] = p
replayed p (step ∷ steps) = replayed (after_step p step) steps

-- the picture that a list of steps leads to from an empty one
abbrev pub replay : Limits → List Step → Picture
replay limits steps = replayed (empty_picture limits) steps

-- what only `subscribe` and `close` change stays: how many subscriptions there are, and the closing
-- number; and so do the limits
pub record KeepsFrame (old new : Picture) : Type 0 where
  pub limits : new.limits ≡ old.limits
  pub closing : new.closing ≡ old.closing
  pub count : length new.subscriptions ≡ length old.subscriptions

-- the link, and the delivery's number, that a step issues, if it issues one
abbrev pub second_of : Result (ℕ × ℕ) DeskRefusal → Option ℕ
second_of (Ok pair) = Some pair.1
second_of (Err why) = None

abbrev pub link_of : Result ℕ DeskRefusal → Option ℕ
link_of (Ok link) = Some link
link_of (Err why) = None

abbrev pub delivery_number : Result Delivery DeskRefusal → Option ℕ
delivery_number (Ok delivery) = Some delivery.number
delivery_number (Err why) = None

-- how many subscriptions a step makes: a subscription that isn't refused makes one
abbrev pub made_of : Result (ℕ × ℕ) DeskRefusal → ℕ
made_of (Ok pair) = 1
made_of (Err why) = 0

abbrev pub subscriptions_made : Picture → Step → ℕ
subscriptions_made old (Subscribe start) = made_of (subscribe old start).0
subscriptions_made old (Take s link cursor now) = 0
subscriptions_made old (TakeAny now) = 0
subscriptions_made old (Ack s link delivery cursor) = 0
subscriptions_made old (Nack s link delivery) = 0
subscriptions_made old (NackOpened s link delivery) = 0
subscriptions_made old (Expire now) = 0
subscriptions_made old (Reconnect s cursor) = 0
subscriptions_made old (Unsubscribe s link) = 0
subscriptions_made old Place = 0
subscriptions_made old Close = 0

abbrev pub link_given : Picture → Step → Option ℕ
link_given old (Subscribe start) = second_of (subscribe old start).0
link_given old (Take s link cursor now) = None
link_given old (TakeAny now) = None
link_given old (Ack s link delivery cursor) = None
link_given old (Nack s link delivery) = None
link_given old (NackOpened s link delivery) = None
link_given old (Expire now) = None
link_given old (Reconnect s cursor) = link_of (reconnect old s cursor).0
link_given old (Unsubscribe s link) = None
link_given old Place = None
link_given old Close = None

abbrev pub number_given : Picture → Step → Option ℕ
number_given old (Subscribe start) = None
number_given old (Take s link cursor now) = delivery_number (take old s link cursor now).0
number_given old (TakeAny now) = delivery_number (take_any old now).0
number_given old (Ack s link delivery cursor) = None
number_given old (Nack s link delivery) = None
number_given old (NackOpened s link delivery) = None
number_given old (Expire now) = None
number_given old (Reconnect s cursor) = None
number_given old (Unsubscribe s link) = None
number_given old Place = None
number_given old Close = None

-- the links, and the deliveries' numbers, that these steps issue
abbrev pub links_given : Picture → List Step → List ℕ
links_given p [] = []
links_given p (step ∷ steps) =
    cons_option (link_given p step) (links_given (after_step p step) steps)

abbrev pub numbers_given : Picture → List Step → List ℕ
numbers_given p [] = []
numbers_given p (step ∷ steps) =
    cons_option (number_given p step) (numbers_given (after_step p step) steps)

-- each number is at least `low`, and all after it are above it
abbrev pub RisesAbove : ℕ → List ℕ → Type 0
RisesAbove low [] = ⊤
RisesAbove low (n ∷ rest) = (low ≤ n) × RisesAbove (suc n) rest

-- each subscription is still there, and its floor doesn't fall
abbrev pub FloorsRise : Picture → Picture → Type 0
FloorsRise old new = (i : ℕ) (a : Subscription) → slice_get old.subscriptions i ≡ Some a
    → (b : Subscription) × (slice_get new.subscriptions i ≡ Some b) × (a.floor ≤ b.floor)
