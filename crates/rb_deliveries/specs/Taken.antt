-- How the spans of a subscription that were taken before are stored: as records under keys, in
-- three lists of keys. The first lane has the ready ones by their ranks, and those in flight by
-- their deliveries' numbers; the second lane has all of them by their own numbers.
use Rattle.std.specs.Prelude.{◌≡◌, ℕ, ◌<◌, Bool, true, false, ◌&&◌, nat_eq, ◌==◌, List, [], ◌∷◌}
use Rattle.std.specs.Prelude.{length, map, Option, Some, None, IsSome, slice_index_or, slice_set}
use Rattle.std.specs.Prelude.{◌+◌, is_some, if◌then◌else◌}
use Rattle.std.specs.List.{list_any, AllByRecursion}
use Rattle.link_lists.specs.Lanes.{Lanes, ChangesSlot, StandsIn, pushed_back, put_after}
use Rattle.link_lists.specs.Lanes.{value_under, without_key}
use Rattle.rb_deliveries.specs.declared.span.Status.{Status}
use Rattle.rb_deliveries.specs.declared.span.Status.TheVariants.{Ready, InFlight}
use Rattle.rb_deliveries.specs.declared.rank.Rank.{Rank}
use Rattle.rb_deliveries.specs.declared.rank.Held.{Held}
use Rattle.rb_deliveries.specs.Expiry.{expired_by}
use Rattle.rb_deliveries.specs.Queues.{earlier}
use Rattle.rb_deliveries.specs.Spans.{is_due, is_ready, is_out}
use Rattle.rb_deliveries.specs.Subs.{ComesLast, IsNewest}

-- a list of a lane, and whether it has a key
abbrev pub nth_list : ℕ → List (List ℕ) → List ℕ
nth_list i lane = slice_index_or lane i []

abbrev pub lists_key : ℕ → List ℕ → Bool
lists_key key keys = list_any (nat_eq key) keys

-- the record under a key, and whether its status passes a test
abbrev pub no_rank : Rank
no_rank = record { front = 0; turn = 0 }

abbrev pub no_record : Held
no_record = record {
  span = record { first = 0; last = 0; status = InFlight 0 0 };
  rank = no_rank;
}

abbrev pub held_or : Option Held → Held
held_or None = no_record
held_or (Some h) = h

abbrev pub held_under : List (Option Held) → ℕ → Held
held_under slots key = held_or (slice_index_or slots key None)

abbrev pub status_passes : (Status → Bool) → Option Held → Bool
status_passes test None = false
status_passes test (Some h) = test h.span.status

abbrev pub slot_passes : (Status → Bool) → List (Option Held) → ℕ → Bool
slot_passes test slots key = status_passes test (slice_index_or slots key None)

-- a record with another status and rank
abbrev pub with_state : Status → Rank → Held → Held
with_state status rank h = record {
  span = record h.span { status = status };
  rank = rank;
}

-- the spans by their numbers; before the first one is taken there are no lists
abbrev pub held_in : Lanes Held → List Held
held_in lanes = map (held_under lanes.slots) (nth_list 0 lanes.second)

abbrev pub taken_seen : Option (Lanes Held) → List Held
taken_seen None = []
taken_seen (Some lanes) = held_in lanes

-- ranks that rise, and numbers that rise
abbrev pub RisingRanks : List Rank → Type 0
RisingRanks [] = Unit {0}
RisingRanks (t ∷ rest) = AllByRecursion (λ u. earlier t u ≡ true) rest × RisingRanks rest

abbrev pub RisingNumbers : List ℕ → Type 0
RisingNumbers [] = Unit {0}
RisingNumbers (n ∷ rest) = AllByRecursion (λ m. n < m) rest × RisingNumbers rest

-- a delivery's number
abbrev pub number_of : Status → ℕ
number_of (Ready taken) = 0
number_of (InFlight number moment) = number

abbrev pub rank_under : List (Option Held) → ℕ → Rank
rank_under slots key = (held_under slots key).rank

abbrev pub number_under : List (Option Held) → ℕ → ℕ
number_under slots key = number_of (held_under slots key).span.status

-- the ready ones stand in the first list, those in flight in the second, each once; each record's
-- key is one of all
pub record AreListed (slots : List (Option Held)) (ready out all : List ℕ) : Type 0 where
  pub ready_keys : (key : ℕ) → lists_key key ready
      ≡ (lists_key key all && slot_passes is_ready slots key)
  pub out_keys : (key : ℕ) → lists_key key out
      ≡ (lists_key key all && slot_passes is_out slots key)
  pub all_keys : (key : ℕ) → lists_key key all ≡ is_some (slice_index_or slots key None)
  pub in_line : RisingRanks (map (rank_under slots) ready)
  pub by_number : RisingNumbers (map (number_under slots) out)

pub record AreWoven (lanes : Lanes Held) : Type 0 where
  pub two : lanes.first ≡ nth_list 0 lanes.first ∷ nth_list 1 lanes.first ∷ []
  pub one : lanes.second ≡ nth_list 0 lanes.second ∷ []
  pub listed : AreListed lanes.slots (nth_list 0 lanes.first) (nth_list 1 lanes.first)
      (nth_list 0 lanes.second)

-- the records, and how many are in flight
abbrev pub AreKept : Option (Lanes Held) → ℕ → Type 0
AreKept None flying = flying ≡ 0
AreKept (Some lanes) flying = AreWoven lanes × (flying ≡ length (nth_list 1 lanes.first))

-- a span goes in flight as a delivery whose number is greater than all others
abbrev pub GoesLast : Status → List Held → Type 0
GoesLast (Ready taken) held = ⊥
GoesLast (InFlight number moment) held = IsNewest number held

-- a span that gets this status and this rank stands after all others in its list
abbrev pub StandsLast : Status → Rank → List Held → Type 0
StandsLast (Ready taken) rank held = ComesLast rank held
StandsLast (InFlight number moment) rank held = IsNewest number held

-- a key under which a span is kept that begins with this number
pub record IsKeyOf (lanes : Lanes Held) (first key : ℕ) : Type 0 where
  pub there : lists_key key (nth_list 0 lanes.second) ≡ true
  pub kept : IsSome (value_under lanes key)
  pub begins : (held_under lanes.slots key).span.first ≡ first

-- no span begins with this number
abbrev pub NoSpanBegins : ℕ → List Held → Type 0
NoSpanBegins first = AllByRecursion (λ h. (h.span.first == first) ≡ false)

-- the lanes after a key's span, if it is due, goes back to the end of the line
abbrev pub expired_key : ℕ → ℕ → Rank → ℕ → Lanes Held → Lanes Held
expired_key timeout clock latest key lanes =
    if slot_passes (is_due timeout clock) lanes.slots key then
    record lanes {
      slots = slice_set lanes.slots key
          (Some (expired_by timeout clock latest (held_under lanes.slots key)));
      first = pushed_back 0 key (without_key key lanes.first);
    } else lanes

-- a record under a new key stands at the end of the line, and directly after `at` among all
pub record AddsAfter (old new : Lanes Held) (at key : ℕ) (h : Held) : Type 0 where
  pub free : StandsIn key old.second → ⊥
  pub slots : ChangesSlot old new key (Some h)
  pub first : new.first ≡ pushed_back 0 key old.first
  pub second : new.second ≡ put_after at key old.second
  pub spare : old.spare ≡ new.spare + 1
