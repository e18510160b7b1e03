-- What a subscription returns for a delivery, and what it changes.
use Rattle.std.specs.Prelude.{◌≡◌, ℕ, List, [], ◌∷◌, ◌++◌, drop, length, Option, Some, None}
use Rattle.std.specs.Prelude.{Result, Ok, Err}
use Rattle.std.specs.Prelude.{Bool, true, false}
use Rattle.cs_apply.specs.State.{TableState}
use Rattle.cs_model.specs.declared.shape.Shape.{Shape}
use Rattle.rb_desk.specs.declared.delivery.Delivery.{Delivery}
use Rattle.rb_sequence.specs.Cells.{Cells, CellToken}
use Rattle.rb_sequence.specs.Entry.{Entry}
use Rattle.rb_subscriber.specs.Accept.{accept_brought, refusal_before, AsksTables, ConflictsSingly}
use Rattle.rb_subscriber.specs.Accept.{first_outside_entry}
use Rattle.rb_subscriber.specs.Shown.{ShowBefore, ShowDelivery, entries_told, tokens_shown}
use Rattle.rb_subscriber.specs.Subscription.{SubscriptionState, cursor_of, own_endpoint}
use Rattle.rb_subscriber.specs.declared.refusal.SubscriptionError.{SubscriptionError}
use Rattle.rb_subscriber.specs.declared.refusal.SubscriptionError.TheVariants.{Refused}
use Rattle.rb_subscriber.specs.declared.refusal.SubscriptionError.TheVariants.{RefusedEntries}
use Rattle.rb_subscriber.specs.declared.refusal.SubscriptionError.TheVariants.{Unseen, Memory}
use Rattle.rb_subscriber.specs.declared.refusal.AcceptRefusal.{AcceptRefusal}
use Rattle.rb_subscriber.specs.declared.refusal.AcceptRefusal.TheVariants as refusal

-- the tokens that it has accepted since
abbrev pub told_since : SubscriptionState → SubscriptionState → List CellToken
told_since old new = drop (length old.told) new.told

-- What it returns for a delivery that isn't refused before its entries are asked. `Ok`, a refusal
-- and out of memory are what `accept_brought` says of the entries that the cells show: those whose
-- tokens it keeps, or hands back. What was accepted is kept, by its tokens, as one batch; an error
-- changes nothing. `Unseen` comes with the tokens of the numbers before it.
abbrev pub DueAnswers : Cells → Delivery → Result ℕ SubscriptionError → SubscriptionState
    → SubscriptionState → Type 0
DueAnswers cells delivery (Ok cursor) old new = ShowDelivery cells delivery (told_since old new)
    × (accept_brought (own_endpoint old) (entries_told (told_since old new)) delivery
    ≡ Ok (own_endpoint new))
    × (cursor ≡ cursor_of new)
    × (new ≡ record old {
      told = old.told ++ told_since old new;
      batches = old.batches ++ told_since old new ∷ [];
      tables = new.tables;
    })
DueAnswers cells delivery (Err (Refused why)) old new = ⊥
DueAnswers cells delivery (Err (RefusedEntries why shown)) old new = (new ≡ old)
    × ShowDelivery cells delivery (tokens_shown shown)
    × (accept_brought (own_endpoint old) (entries_told (tokens_shown shown)) delivery ≡ Err why)
DueAnswers cells delivery (Err (Unseen number shown)) old new = (new ≡ old)
    × ShowBefore cells delivery number (tokens_shown shown)
DueAnswers cells delivery (Err (Memory shown)) old new = (new ≡ old)
    × ShowDelivery cells delivery (tokens_shown shown)
    × AsksTables (accept_brought (own_endpoint old) (entries_told (tokens_shown shown)) delivery)

-- what it returns for any delivery: the refusal that asks nothing of its entries, or else this
abbrev pub RefusesFirst : Option AcceptRefusal → Type 0 → Result ℕ SubscriptionError
    → SubscriptionState → SubscriptionState → Type 0
RefusesFirst None Answers result old new = Answers
RefusesFirst (Some why) Answers result old new = (result ≡ Err (Refused why)) × (new ≡ old)

abbrev pub ShownAnswers : Cells → Delivery → Result ℕ SubscriptionError → SubscriptionState
    → SubscriptionState → Type 0
ShownAnswers cells delivery result old new =
    RefusesFirst (refusal_before (own_endpoint old) delivery)
    (DueAnswers cells delivery result old new) result old new

-- a conflict comes only if what the cells showed conflicts too when it is applied one after another
abbrev pub ConflictsShown : TableState → Result ℕ SubscriptionError → Type 0
ConflictsShown old (Err (RefusedEntries (refusal.Conflict conflict) shown)) =
    ConflictsSingly old (entries_told (tokens_shown shown))
ConflictsShown old other = Unit {0}

-- ---- what the cells show before there is room for it

-- the number of the first entry that isn't admitted, if there is one
abbrev pub IsFirstOutside : List Shape → List CellToken → Option ℕ → Type 0
IsFirstOutside schema shown None = first_outside_entry schema (entries_told shown) ≡ None
IsFirstOutside schema shown (Some number) = (entry : Entry)
    × (first_outside_entry schema (entries_told shown) ≡ Some entry) × (entry.number ≡ number)

-- the same with one entry more, which is refused or not
abbrev pub outside_after : Option ℕ → Bool → ℕ → Option ℕ
outside_after (Some before) is_refused number = Some before
outside_after None true number = Some number
outside_after None false number = None

-- nothing of the first such number, an entry that isn't admitted, or else entries that are
abbrev pub LookAnswers : Cells → Delivery → List Shape → SubscriptionError → Type 0
LookAnswers cells delivery schema (Unseen number shown) =
    ShowBefore cells delivery number (tokens_shown shown)
LookAnswers cells delivery schema (RefusedEntries (refusal.Shape number) shown) =
    ShowDelivery cells delivery (tokens_shown shown)
    × IsFirstOutside schema (tokens_shown shown) (Some number)
LookAnswers cells delivery schema (RefusedEntries other shown) = ⊥
LookAnswers cells delivery schema (Refused why) = ⊥
LookAnswers cells delivery schema (Memory shown) = ShowDelivery cells delivery (tokens_shown shown)
    × IsFirstOutside schema (tokens_shown shown) None
