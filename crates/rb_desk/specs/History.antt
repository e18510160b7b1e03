-- What a journal says of a number of a subscription: it was settled by a call, or a span has it. A
-- fact of the past is a place in the journal: the calls before it, the call, the calls after it.
use Rattle.std.specs.Prelude.{◌≡◌, ℕ, ◌≤◌, Bool, ◌&&◌, nat_le, List, ◌∷◌, ◌++◌, length, Option}
use Rattle.std.specs.Prelude.{None, Some, Ok, ◌⊎◌}
use Rattle.std.specs.List.{filter}
use Rattle.std.specs.Result.{result_ok}
use Rattle.rb_deliveries.specs.declared.span.Span.{Span}
use Rattle.rb_deliveries.specs.Picture.{Subscription}
use Rattle.rb_desk.specs.declared.delivery.Delivery.{Delivery}
use Rattle.rb_desk.specs.declared.step.Step.{Step}
use Rattle.rb_desk.specs.declared.step.Step.TheVariants.{Subscribe, Take, TakeAny, Ack, Nack}
use Rattle.rb_desk.specs.declared.step.Step.TheVariants.{Expire, Reconnect, Unsubscribe, Place}
use Rattle.rb_desk.specs.declared.step.Step.TheVariants.{Close, NackOpened}
use Rattle.rb_desk.specs.Calls.{take, take_any, ack, reconnect}
use Rattle.rb_desk.specs.Limits.{Limits}
use Rattle.rb_desk.specs.Picture.{Picture}
use Rattle.rb_desk.specs.Steps.{replay}

-- the delivery that a call returns, if it returns one
abbrev pub delivery_made : Picture → Step → Option Delivery
delivery_made old (Subscribe start) = None
delivery_made old (Take s link cursor now) = result_ok (take old s link cursor now).0
delivery_made old (TakeAny now) = result_ok (take_any old now).0
delivery_made old (Ack s link number cursor) = None
delivery_made old (Nack s link number) = None
delivery_made old (NackOpened s link number) = None
delivery_made old (Expire now) = None
delivery_made old (Reconnect s cursor) = None
delivery_made old (Unsubscribe s link) = None
delivery_made old Place = None
delivery_made old Close = None

-- a `take` or a `take_any` returned this delivery
pub record WasDelivered (limits : Limits) (steps : List Step) (delivery : Delivery) : Type 0 where
  pub before : List Step
  pub step : Step
  pub after : List Step
  pub calls : steps ≡ before ++ step ∷ after
  pub answers : delivery_made (replay limits before) step ≡ Some delivery

-- An `ack` under this link was Ok. It named a delivery to this subscription that an earlier call
-- returned, and this delivery has number n.
pub record WasAckedUnder (limits : Limits) (steps : List Step) (s link n : ℕ) : Type 0 where
  pub before : List Step
  pub number : ℕ
  pub cursor : ℕ
  pub floor : ℕ
  pub after : List Step
  pub delivery : Delivery
  pub calls : steps ≡ before ++ Ack s link number cursor ∷ after
  pub is_ok : (ack (replay limits before) s link number cursor).0 ≡ Ok floor
  pub made : WasDelivered limits before delivery
  pub is_of : (delivery.number ≡ number) × (delivery.sub ≡ s)
  pub has : (delivery.first ≤ n) × (n ≤ delivery.last)

-- a `reconnect` to number n or to a later one was Ok
pub record WasReconnectedPast (limits : Limits) (steps : List Step) (s n : ℕ) : Type 0 where
  pub before : List Step
  pub cursor : ℕ
  pub link : ℕ
  pub after : List Step
  pub calls : steps ≡ before ++ Reconnect s cursor ∷ after
  pub is_ok : (reconnect (replay limits before) s cursor).0 ≡ Ok link
  pub reaches : n ≤ cursor

-- a number is settled under a link: a reconnect went to it or past it, or it was acknowledged under
-- the link
abbrev pub WasSettled : Limits → List Step → ℕ → ℕ → ℕ → Type 0
WasSettled limits steps s link n = WasReconnectedPast limits steps s n
    ⊎ WasAckedUnder limits steps s link n

-- whether a span has a number, and how many spans have it
abbrev pub span_has : ℕ → Span → Bool
span_has n p = nat_le p.first n && nat_le n p.last

abbrev pub how_many_have : ℕ → List Span → ℕ
how_many_have n spans = length (filter (span_has n) spans)

-- a number of subscription s, which is q, is settled under its link, or exactly one span has it
abbrev pub IsAccountedFor : Limits → List Step → ℕ → Subscription → ℕ → Type 0
IsAccountedFor limits steps s q n = WasSettled limits steps s q.link n
    ⊎ (how_many_have n q.spans ≡ 1)
