-- How a delivery is settled; the conflict by which a subscriber ends, and what shows it.
use Rattle.std.specs.Prelude.{◌≡◌, ℕ, suc, List, [], ◌∷◌, ◌++◌, length, Result, Ok, Err, ◌==◌}
use Rattle.std.specs.Prelude.{if◌then◌else◌}
use Rattle.std.specs.Coded.{Unit-prop, le_prop, Coded-set, coded_ℕ, coded_result}
use Rattle.cs_apply.specs.contracts.conflict.Conflict as conflict_row
use Rattle.cs_apply.specs.Single.{single}
use Rattle.cs_apply.specs.State.{TableState, state_code}
use Rattle.cs_apply.specs.declared.conflict.Conflict.{Conflict}
use Rattle.cs_group.specs.Group.{group_of}
use Rattle.rb_desk.specs.declared.delivery.Delivery.{Delivery}
use Rattle.rb_desk.specs.declared.step.Step.{Step}
use Rattle.rb_desk.specs.declared.step.Step.TheVariants as step
use Rattle.rb_history.specs.Kept.{count_under}
use Rattle.rb_sequence.specs.Cells.{AreInCells, Cells, CellToken, IsTokenOf}
use Rattle.rb_subscriber.specs.Accept.{joined_bodies}
use Rattle.rb_subscriber.specs.Owner.{Owner, has_seen}
use Rattle.rb_subscriber.specs.Shown.{entries_told, tokens_shown}
use Rattle.rb_subscriber.specs.Subscription.{SubscriptionState, cursor_of}
use Rattle.rb_subscriber.specs.declared.refusal.AcceptRefusal.TheVariants as refusal
use Rattle.rb_subscriber.specs.declared.refusal.SubscriptionError.{SubscriptionError}
use Rattle.rb_subscriber.specs.declared.refusal.SubscriptionError.TheVariants.{RefusedEntries}
use Rattle.rb_subscriber.specs.declared.refusal.SubscriptionError.TheVariants.{Unseen}
use Rattle.rb_subscriber.specs.declared.shown.Shown.{Shown}
use Rattle.rb_drive.specs.declared.ending.Settling.{Settling}
use Rattle.rb_drive.specs.declared.ending.Settling.TheVariants as settling
use Rattle.rb_drive.specs.declared.ending.SubscriberEnd.{SubscriberEnd}
use Rattle.rb_drive.specs.declared.ending.SubscriberEnd.TheVariants as way

-- The tokens show the one entry after a subscription's cursor, and the group of its changeset has
-- this conflict with the subscription's tables.
abbrev pub ShowsConflict : Cells → SubscriptionState → Conflict → List CellToken → Type 0
ShowsConflict cells s conflict tokens = AreInCells cells (suc (cursor_of s)) tokens
    × (length tokens ≡ 1)
    × (single s.tables (group_of (joined_bodies (entries_told tokens))) ≡ Err conflict)

-- a subscriber that ended by a conflict has what shows it
abbrev pub HasShownConflict : Cells → SubscriptionState → SubscriberEnd → Type 0
HasShownConflict cells s (way.Conflict conflict shown) =
    ShowsConflict cells s conflict (tokens_shown shown)
HasShownConflict cells s ending = Unit {0}

-- an accept that refuses one entry for a conflict shows it
abbrev pub ShowsOneConflict : Cells → Delivery → Result ℕ SubscriptionError → SubscriptionState
    → Type 0
ShowsOneConflict cells delivery result s = (conflict : Conflict) (shown : Shown)
    → result ≡ Err (RefusedEntries (refusal.Conflict conflict) shown)
    → delivery.first ≡ delivery.last → ShowsConflict cells s conflict (tokens_shown shown)

-- How a delivery is settled after this answer to its accept, or how the subscriber ends: by a
-- conflict only if one entry was refused for it.
abbrev pub settling_of : Delivery → Result ℕ SubscriptionError → Result Settling SubscriberEnd
settling_of delivery (Ok cursor) = Ok settling.Ack
settling_of delivery (Err (Unseen number shown)) = Ok settling.Nack
settling_of delivery (Err (RefusedEntries (refusal.Conflict conflict) shown)) =
    if delivery.first == delivery.last then Err (way.Conflict conflict shown)
    else Ok settling.NackOpened
settling_of delivery (Err other) = Err way.Stopped

-- the step by which a delivery to this subscription is settled so
abbrev pub settling_step : Settling → Delivery → SubscriptionState → Step
settling_step settling.Ack delivery s =
    step.Ack s.sub delivery.link delivery.number (cursor_of s)
settling_step settling.Nack delivery s = step.Nack s.sub delivery.link delivery.number
settling_step settling.NackOpened delivery s =
    step.NackOpened s.sub delivery.link delivery.number

-- since the owner looked, others made steps, and then it made this one alone
abbrev pub HasStepped : Step → Owner → Owner → Type 0
HasStepped step old new = (others : List (ℕ × Step)) × (count_under old.number others ≡ 0)
    × (new ≡ has_seen old ((old.seen ++ others) ++ (old.number, step) ∷ []))

-- a delivery is settled as the answer to its accept asks for, by one step of the subscription
abbrev pub IsSettled : Delivery → Result ℕ SubscriptionError → SubscriptionState
    → SubscriptionState → Type 0
IsSettled delivery accepted old new = (how : Settling)
    × (settling_of delivery accepted ≡ Ok how)
    × HasStepped (settling_step how delivery old) old.owner new.owner

-- ---- such facts have one proof at most, so a ghost field may say them

ℕ_same : (m n : ℕ) → IsProp (m ≡ n)
ℕ_same m n = Coded-set coded_ℕ m n

IsTokenOf-prop : (cells : Cells) (t : CellToken) → IsProp (IsTokenOf cells t)
IsTokenOf-prop cells t x y = λ i. record {
  has = (le_prop x.has.0 y.has.0 i, le_prop x.has.1 y.has.1 i);
  numbered = ℕ_same _ _ x.numbered y.numbered i;
  segment = λ k j at. ℕ_same _ _ (x.segment k j at) (y.segment k j at) i;
}

AreInCells-prop : (cells : Cells) (n : ℕ) (tokens : List CellToken)
    → IsProp (AreInCells cells n tokens)
AreInCells-prop cells n [] = Unit-prop
AreInCells-prop cells n (t ∷ rest) = λ x y i. (
  IsTokenOf-prop cells t x.0 y.0 i,
  ℕ_same _ _ x.1 y.1 i,
  AreInCells-prop cells (suc n) rest x.2 y.2 i,
)

conflict_same : (r : Result TableState Conflict) (conflict : Conflict) → IsProp (r ≡ Err conflict)
conflict_same r conflict =
    Coded-set (coded_result state_code conflict_row.the_row.coded) r (Err conflict)

pub HasShownConflict-prop : (cells : Cells) (s : SubscriptionState) (ending : SubscriberEnd)
    → IsProp (HasShownConflict cells s ending)
HasShownConflict-prop cells s way.Drained = Unit-prop
HasShownConflict-prop cells s way.Stopped = Unit-prop
HasShownConflict-prop cells s (way.Conflict conflict shown) = λ x y i. (
  AreInCells-prop cells _ (tokens_shown shown) x.0 y.0 i,
  ℕ_same _ _ x.1 y.1 i,
  conflict_same _ conflict x.2 y.2 i,
)
