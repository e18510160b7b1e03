-- What each call does to the next link and the next delivery's number, which rise where it gives one, to the front,
-- which doesn't fall, and to how many subscriptions there are.
use Rattle.std.proofs.Common.{◌≡◌, ℕ, suc, max, ◌+◌, ◌<◌, ◌≤◌, List, [], ◌∷◌, length, Option, Some, None, Result, Ok}
use Rattle.std.proofs.Common.{Err, slice_set, refl, arith, length-append, ◌++◌}
use Rattle.std.proofs.lemmas.List.{length-map, length-set}
use Rattle.rb_desk.specs.declared.delivery.Delivery.{Delivery}
use Rattle.rb_desk.specs.declared.refusal.DeskRefusal.{DeskRefusal}
use Rattle.rb_deliveries.specs.declared.span.Span.{Span}
use Rattle.rb_desk.specs.declared.step.Step.{Step}
use Rattle.rb_desk.specs.declared.step.Step.TheVariants.{Subscribe, Take, TakeAny, Ack, Nack, Expire, Reconnect}
use Rattle.rb_desk.specs.declared.step.Step.TheVariants.{Unsubscribe, Place, Close, NackOpened}
use Rattle.rb_desk.specs.Picture.{Picture}
use Rattle.rb_deliveries.specs.Picture.{Subscription}
use Rattle.rb_desk.specs.Calls.{subscribe, take, take_any, ack, nack, nack_opened, expire, reconnect, unsubscribe}
use Rattle.rb_desk.specs.Calls.{prepare, place, close, delivery_from, delivered_picture}
use Rattle.rb_deliveries.specs.Changes.{goes_back, grown_subscription}
use Rattle.rb_desk.specs.Steps.{placed_if, after_step, second_of, link_of, delivery_number, link_given, number_given}
use Rattle.rb_desk.specs.Steps.{made_of, subscriptions_made}
use Rattle.rb_desk.proofs.calls.CallCases.{LeavesPicture, subscribe_case, take_case, take_any_case, ack_case, nack_case}
use Rattle.rb_desk.proofs.calls.CallCases.{nack_opened_case, reconnect_case, unsubscribe_case}

-- where a number was given it was the next one, and it is below the next one then; else the next one isn't lower
abbrev pub ReplaysGoesOn : ℕ → ℕ → Option ℕ → Type 0
ReplaysGoesOn next next' None = next ≤ next'
ReplaysGoesOn next next' (Some n) = (n ≡ next) × (next < next')

-- a call that gave this link and this delivery's number, or none, made so many subscriptions and left this closing number:
-- the limits stay, the front doesn't fall, no subscription goes, and both go on
pub record ReplaysRises (old new : Picture) (link number : Option ℕ) (made : ℕ) (closed : Option ℕ) : Type 0 where
  pub limits : new.limits ≡ old.limits
  pub closing : new.closing ≡ closed
  pub front : old.front ≤ new.front
  pub count : length new.subscriptions ≡ length old.subscriptions + made
  pub links : ReplaysGoesOn old.next_link new.next_link link
  pub numbers : ReplaysGoesOn old.next_delivery new.next_delivery number

-- one subscription changes, or comes to the others
set_count : (p : Picture) (s : ℕ) (q : Subscription)
    → length (slice_set p.subscriptions s q) ≡ length p.subscriptions + 0
set_count p s q = omega (arith, length-set p.subscriptions s q)

added_count : (p : Picture) (q : Subscription) → length (p.subscriptions ++ q ∷ []) ≡ length p.subscriptions + 1
added_count p q = omega (arith, length-append p.subscriptions (q ∷ []))

-- a call that gives neither, and makes no subscription; a refused call is one
abbrev GivesNone : Picture → Picture → Type 0
GivesNone p new = ReplaysRises p new None None 0 p.closing

-- whatever front, clock, closing number, subscriptions and orders it leaves
others_rise : (p : Picture) (front clock : ℕ) (closing : Option ℕ) (subs : List Subscription) (ready out : List (ℕ × ℕ))
    → p.front ≤ front → length subs ≡ length p.subscriptions
    → ReplaysRises p (record p {
      front = front;
      closing = closing;
      clock = clock;
      subscriptions = subs;
      ready = ready;
      in_flight = out;
    }) None None 0 closing
others_rise p front clock closing subs ready out le same = record {
  limits = refl;
  closing = refl;
  front = le;
  count = omega (arith, same);
  links = omega arith;
  numbers = omega arith;
}

rises_same : (p : Picture) → GivesNone p p
rises_same p = others_rise p p.front p.clock p.closing p.subscriptions p.ready p.in_flight (omega arith) refl

pub one_rises : (p : Picture) (s : ℕ) (q : Subscription) (ready out : List (ℕ × ℕ))
    → GivesNone p (record p { subscriptions = slice_set p.subscriptions s q; ready = ready; in_flight = out })
one_rises p s q ready out =
    others_rise p p.front p.clock p.closing _ ready out (omega arith) (length-set p.subscriptions s q)

-- each call
pub subscribe_rises : (p : Picture) (start : ℕ)
    → ReplaysRises p (subscribe p start).1 (second_of (subscribe p start).0) None (made_of (subscribe p start).0)
    p.closing
subscribe_rises p start =
    subscribe_case (λ x. ReplaysRises p x.1 (second_of x.0) None (made_of x.0) p.closing) p start (λ why. rises_same p)
    (λ behind room. record {
      limits = refl;
      closing = refl;
      front = omega arith;
      count = added_count p _;
      links = (refl, omega arith);
      numbers = omega arith;
    })

-- a span is handed over
abbrev TakeRises : Picture → Result Delivery DeskRefusal × Picture → Type 0
TakeRises p x = ReplaysRises p x.1 None (delivery_number x.0) 0 p.closing

pub handed_rises : (p : Picture) (s : ℕ) (q : Subscription) (span : Span) (clock : ℕ)
    → TakeRises p (Ok (delivery_from p s q span), delivered_picture p s q span clock)
handed_rises p s q span clock = record {
  limits = refl;
  closing = refl;
  front = omega arith;
  count = set_count p s _;
  links = omega arith;
  numbers = (refl, omega arith);
}

pub take_rises : (p : Picture) (s link cursor now : ℕ) → TakeRises p (take p s link cursor now)
take_rises p s link cursor now = take_case (TakeRises p) p s link cursor now (λ why. rises_same p)
    (λ q span here runs room is. handed_rises p s q span (max p.clock now))

pub take_any_rises : (p : Picture) (now : ℕ) → TakeRises p (take_any p now)
take_any_rises p now = take_any_case (TakeRises p) p now (λ why. rises_same p)
    (λ at q span first here is. handed_rises p at.0 q span (max p.clock now))

pub ack_rises : (p : Picture) (s link delivery cursor : ℕ) → GivesNone p (ack p s link delivery cursor).1
ack_rises p s link delivery cursor =
    ack_case (LeavesPicture (GivesNone p)) p s link delivery cursor (λ why. rises_same p)
    (λ q span here is. one_rises p s _ _ _)

pub nack_rises : (p : Picture) (s link delivery : ℕ) → GivesNone p (nack p s link delivery).1
nack_rises p s link delivery = nack_case (LeavesPicture (GivesNone p)) p s link delivery (λ why. rises_same p)
    (λ q span here is. one_rises p s _ _ _)

pub nack_opened_rises : (p : Picture) (s link delivery : ℕ) → GivesNone p (nack_opened p s link delivery).1
nack_opened_rises p s link delivery =
    nack_opened_case (LeavesPicture (GivesNone p)) p s link delivery (λ why. rises_same p)
    (λ q span here is. one_rises p s _ _ _)

pub expire_rises : (p : Picture) (now : ℕ) → GivesNone p (expire p now).1
unfolding expire
expire_rises p now = others_rise p p.front (max p.clock now) p.closing _ _ _ (omega arith)
    (length-map p.subscriptions (goes_back p.limits.timeout (max p.clock now)))

pub reconnect_rises : (p : Picture) (s cursor : ℕ)
    → ReplaysRises p (reconnect p s cursor).1 (link_of (reconnect p s cursor).0) None 0 p.closing
reconnect_rises p s cursor =
    reconnect_case (λ x. ReplaysRises p x.1 (link_of x.0) None 0 p.closing) p s cursor (λ why. rises_same p)
    (λ q here runs low high. record {
      limits = refl;
      closing = refl;
      front = omega arith;
      count = set_count p s _;
      links = (refl, omega arith);
      numbers = omega arith;
    })

pub unsubscribe_rises : (p : Picture) (s link : ℕ) → GivesNone p (unsubscribe p s link).1
unsubscribe_rises p s link = unsubscribe_case (LeavesPicture (GivesNone p)) p s link (λ why. rises_same p)
    (λ q here runs. one_rises p s _ _ _)

pub place_rises : (p : Picture) → GivesNone p (place p)
unfolding place
place_rises p = others_rise p (suc p.front) p.clock p.closing _ _ _ (omega arith)
    (length-map p.subscriptions (grown_subscription p.limits.batch (suc p.front)))

pub close_rises : (p : Picture) → ReplaysRises p (close p).1 None None 0 (close p).1.closing
unfolding close
close_rises p = others_rise p p.front p.clock _ p.subscriptions p.ready p.in_flight (omega arith) refl

pub placed_if_rises : (p : Picture) (r : Result ℕ DeskRefusal) → GivesNone p (placed_if p r)
placed_if_rises p (Ok n) = place_rises p
placed_if_rises p (Err why) = rises_same p

-- the closing number after a step
abbrev pub closing_after : Picture → Step → Option ℕ
closing_after p (Subscribe start) = p.closing
closing_after p (Take s link cursor now) = p.closing
closing_after p (TakeAny now) = p.closing
closing_after p (Ack s link delivery cursor) = p.closing
closing_after p (Nack s link delivery) = p.closing
closing_after p (NackOpened s link delivery) = p.closing
closing_after p (Expire now) = p.closing
closing_after p (Reconnect s cursor) = p.closing
closing_after p (Unsubscribe s link) = p.closing
closing_after p Place = p.closing
closing_after p Close = (close p).1.closing

-- each step
pub after_rises : (p : Picture) (step : Step)
    → ReplaysRises p (after_step p step) (link_given p step) (number_given p step) (subscriptions_made p step)
    (closing_after p step)
unfolding after_step
after_rises p (Subscribe start) = subscribe_rises p start
after_rises p (Take s link cursor now) = take_rises p s link cursor now
after_rises p (TakeAny now) = take_any_rises p now
after_rises p (Ack s link delivery cursor) = ack_rises p s link delivery cursor
after_rises p (Nack s link delivery) = nack_rises p s link delivery
after_rises p (NackOpened s link delivery) = nack_opened_rises p s link delivery
after_rises p (Expire now) = expire_rises p now
after_rises p (Reconnect s cursor) = reconnect_rises p s cursor
after_rises p (Unsubscribe s link) = unsubscribe_rises p s link
after_rises p Place = placed_if_rises p (prepare p)
after_rises p Close = close_rises p
