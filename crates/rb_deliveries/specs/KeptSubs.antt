-- What `Deliveries` keeps, as a value: the window, and the subscriptions in order of their numbers.
use Rattle.std.specs.Prelude.{ℕ, List, slice_set}
use Rattle.rb_deliveries.specs.declared.sub.Sub.{Sub}

-- how many deliveries may be in flight to a subscription, and the subscriptions
pub record KeptSubs : Type 0 where
  pub window : ℕ
  pub subs : List Sub

-- replaces the subscription with this number
abbrev pub with_sub : KeptSubs → ℕ → Sub → KeptSubs
with_sub kept s sub = record kept { subs = slice_set kept.subs s sub }
