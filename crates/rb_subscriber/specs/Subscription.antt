-- A subscription as a value.
use Rattle.std.specs.Prelude.{ℕ, ◌+◌, ◌-◌, suc, Bool, List, [], false, length, map}
use Rattle.std.specs.Prelude.{Option, None, slice_get, if◌then◌else◌, nat_lt}
use Rattle.std.specs.Option.{is_some}
use Rattle.cs_apply.specs.State as tables
use Rattle.par_apply.specs.RowChanges.{RowChanges}
use Rattle.rb_sequence.specs.Cells.{CellToken}
use Rattle.rb_sequence.specs.Entry.{Entry}
use Rattle.rb_subscriber.specs.Endpoint.{Endpoint}
use Rattle.rb_subscriber.specs.Owner.{Owner}
use Rattle.rb_subscriber.specs.Shown.{entries_told}

-- What a durable store may have beyond a subscription that fell: the entries of the delivery that
-- it was accepting, by their tokens, and the changes of rows that they make.
pub record PendingAccept : Type 0 where
  pub tokens : List CellToken
  pub changes : RowChanges

-- A subscription: its number at the desk, the number after which it began, its link, whether it is
-- closed, the tables that it began with, its tables, the tokens of what it accepted, in order, the
-- same tokens by accepted deliveries, what is pending if it has fallen, how many of its steps were
-- counted, and what it has seen of its broker's history.
pub record SubscriptionState : Type 0 where
  pub sub : ℕ
  pub start : ℕ
  pub link : ℕ
  pub closed : Bool
  pub base : tables.TableState
  pub tables : tables.TableState
  pub told : List CellToken
  pub batches : List (List CellToken)
  pub pending : Option PendingAccept
  pub steps : ℕ
  pub owner : Owner

-- the entries of accepted deliveries, each delivery's together
abbrev pub batches_told : List (List CellToken) → List (List Entry)
batches_told batches = map entries_told batches

-- the last number that it accepted; at first, its start
abbrev pub cursor_of : SubscriptionState → ℕ
cursor_of s = s.start + length s.told

-- the endpoint that it is
abbrev pub own_endpoint : SubscriptionState → Endpoint
own_endpoint s = record {
  start = s.start;
  cursor = cursor_of s;
  link = s.link;
  closed = s.closed;
  fallen = is_some s.pending;
  tables = s.tables;
}

-- a subscription that has accepted nothing
abbrev pub new_subscription : ℕ → ℕ → ℕ → tables.TableState → Owner → SubscriptionState
new_subscription sub start link tables owner = record {
  sub = sub;
  start = start;
  link = link;
  closed = false;
  base = tables;
  tables = tables;
  told = [];
  batches = [];
  pending = None;
  steps = 0;
  owner = owner;
}

-- the same subscription, when its owner has seen more
abbrev pub with_owner : SubscriptionState → Owner → SubscriptionState
with_owner s owner = record s { owner = owner }

-- the token of the entry with this number, if it is accepted
abbrev pub accepted_token : ℕ → List CellToken → ℕ → Option CellToken
accepted_token start told number =
    if nat_lt start number then slice_get told (number - suc start) else None
