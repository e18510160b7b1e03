-- What a publisher's calls hand back, and the entries that it withdrew.
use Rattle.std.specs.Prelude.{◌≡◌, ℕ, List, [], Bool, true, false, None, Some, Result, Ok, Err}
use Rattle.std.specs.List.{list_any}
use Rattle.std.specs.Ordering.{nat_cmp}
use Rattle.std.specs.BTreeMap.{is_at}
use Rattle.std.specs.BTreeSet.{insert_key}
use Rattle.cs_model.specs.declared.origin.Origin.TheVariants.{Sent}
use Rattle.cs_model.specs.Section.{Section}
use Rattle.cs_group.specs.Group.{first_clash}
use Rattle.cs_parse.specs.declared.end.EndError.{EndError}
use Rattle.rb_sequence.specs.Cells.{Cells, CellToken, IsLastToken, IsTokenOf}
use Rattle.rb_sequence.specs.Entry.{Entry}
use Rattle.rb_broker.specs.Publishers.{PublisherView, StagedView}
use Rattle.rb_broker.specs.declared.refusal.RefusedSend.{RefusedSend}
use Rattle.rb_broker.specs.declared.refusal.RefusedSend.TheVariants as send
use Rattle.rb_broker.specs.declared.refusal.WithdrawError.{WithdrawError}
use Rattle.rb_broker.specs.declared.refusal.WithdrawError.TheVariants as withdraw

-- the set comes back; a closed sequence shows its last number
abbrev pub SendsNothing : {L : Type 0} → Cells → StagedView → RefusedSend L → Type 0
SendsNothing cells set (send.Closed last back) = IsLastToken cells last × (back ≡ set)
SendsNothing cells set (send.Full back) = back ≡ set

-- Where the sequence is closed, the publisher keeps the token. Else it is as before.
abbrev pub KeepsClosing : {L : Type 0} → PublisherView → PublisherView → RefusedSend L → Type 0
KeepsClosing old new (send.Closed last back) = new ≡ record old { closing = Some last }
KeepsClosing old new (send.Full back) = new ≡ old

-- the numbers of withdrawn entries with one more, and whether one is among them
abbrev pub with_number : ℕ → List ℕ → List ℕ
with_number n numbers = insert_key nat_cmp numbers n

abbrev pub has_number : ℕ → List ℕ → Bool
has_number n numbers = list_any (is_at (nat_cmp n)) numbers

-- the token shows the entry of this number
abbrev pub IsEntryOf : Cells → ℕ → CellToken → Type 0
IsEntryOf cells number told = IsTokenOf cells told × (told.number ≡ number)

-- publisher p sent the entry, and it isn't one of those that were withdrawn
abbrev pub IsOpenTo : ℕ → List ℕ → ℕ → Entry → Type 0
IsOpenTo p withdrawn number entry =
    (entry.item.publisher ≡ p) × (has_number number withdrawn ≡ false)

-- Why publisher p, who withdrew these entries, can't withdraw the entry of this number, which a
-- token shows. It is another publisher's; or p's, and withdrawn already; or p's, and not withdrawn,
-- and memory runs out: no two sections of its changeset clash.
abbrev pub RefusesWithdrawal : Cells → ℕ → List ℕ → ℕ → WithdrawError → Type 0
RefusesWithdrawal cells p withdrawn number withdraw.NotPlaced = Unit {0}
RefusesWithdrawal cells p withdrawn number (withdraw.NotYours told) =
    IsEntryOf cells number told × (told.entry.item.publisher ≡ p → ⊥)
RefusesWithdrawal cells p withdrawn number (withdraw.AlreadyWithdrawn told) =
    IsEntryOf cells number told × (told.entry.item.publisher ≡ p)
    × (has_number number withdrawn ≡ true)
RefusesWithdrawal cells p withdrawn number (withdraw.Memory told) =
    IsEntryOf cells number told × IsOpenTo p withdrawn number told.entry
    × (first_clash [] told.entry.item.body ≡ None)

-- the set that this publisher was fed, or the stream's error
abbrev pub EndsWith : ℕ → Result StagedView EndError → Result (List Section) EndError → Type 0
EndsWith p (Ok set) answer = (answer ≡ Ok set.body)
    × (set ≡ record { publisher = p; origin = Sent; body = set.body; withdraws = None })
EndsWith p (Err error) answer = answer ≡ Err error
