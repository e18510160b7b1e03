-- What the calls that read a broker return. The world behind the handle stays the same.
use Rattle.std.specs.Prelude.{◌≡◌, ℕ, ℤ, pos, negsuc, zero, suc, List, length}
use Rattle.std.specs.Prelude.{Option, Some, None, slice_get}
use Rattle.std.specs.Option.{option_map}
use Rattle.cs_model.specs.declared.origin.Origin.{Origin}
use Rattle.cs_model.specs.declared.origin.Origin.TheVariants.{Sent, Withdraws}
use Rattle.cs_model.specs.Section.{Section}
use Rattle.cs_write.specs.Buffer.{given}
use Rattle.cs_write.specs.Text.{text_of}
use Rattle.rb_core.specs.Combined.{combined_of}
use Rattle.rb_core.specs.Outcome.{entry_of}
use Rattle.rb_core.specs.declared.status.SubscriptionStatus.{SubscriptionStatus}
use Rattle.rb_core.specs.State.{State, how_many_wait}
use Rattle.rb_core.specs.Status.{subscription_status}
use Rattle.rb_sequence.specs.Entry.{Entry}
use Rattle.broker_c.specs.Handle.{HoldsWorld, IsBusy, IsShut}
use Rattle.broker_c.specs.declared.handle.Handle.{Handle}
use Rattle.broker_c.specs.declared.texts.About.{About}
use Rattle.broker_c.specs.declared.texts.Standing.{Standing}

-- ---- any reading

-- The same world is behind the handle before and after, with the same numbers, and this is so of
-- it.
pub record ReadsWorld (before after : Handle) (IsSo : State → Type 0) : Type 0 where
  pub world : State
  pub held : HoldsWorld before world
  pub holds : HoldsWorld after world
  pub why : after.why ≡ before.why
  pub so : IsSo world

-- What the result says: -1 for a handle that is shut, and -6 for one that another call is in, of
-- which nothing changed; any other result says something of the world.
abbrev pub TellsOf : ℤ → Handle → Handle → (ℤ → State → Type 0) → Type 0 → Type 0
TellsOf (pos n) before after IsSo Same = ReadsWorld before after (IsSo (pos n))
TellsOf (negsuc zero) before after IsSo Same = IsShut before × (after ≡ before) × Same
TellsOf (negsuc (suc (suc (suc (suc (suc zero)))))) before after IsSo Same =
    IsBusy before × (after ≡ before) × Same
TellsOf (negsuc n) before after IsSo Same = ReadsWorld before after (IsSo (negsuc n))

-- ---- an entry's text

-- The length of the text, which is in the buffer if there was room; or -16 if there is no entry.
abbrev pub IsTextOf : ℤ → Option Entry → List ℕ → List ℕ → Type 0
IsTextOf (pos n) None was is = ⊥
IsTextOf (pos n) (Some entry) was is = (n ≡ length (text_of entry.item.body))
    × (is ≡ given (text_of entry.item.body) was)
IsTextOf (negsuc n) None was is = (n ≡ 15) × (is ≡ was)
IsTextOf (negsuc n) (Some entry) was is = ⊥

abbrev pub ReadsText : ℤ → ℕ → Handle → Handle → List ℕ → List ℕ → Type 0
ReadsText result n before after was is =
    TellsOf result before after (λ z world. IsTextOf z (entry_of world n) was is) (is ≡ was)

-- ---- the text of several entries as one changeset

-- The same of a changeset, or -16 if there is none; or -2 if memory ran out for one.
abbrev pub IsCombinedOf : ℤ → Option (List Section) → List ℕ → List ℕ → Type 0
IsCombinedOf (pos n) None was is = ⊥
IsCombinedOf (pos n) (Some made) was is = (n ≡ length (text_of made))
    × (is ≡ given (text_of made) was)
IsCombinedOf (negsuc zero) made was is = ⊥
IsCombinedOf (negsuc (suc zero)) None was is = ⊥
IsCombinedOf (negsuc (suc zero)) (Some made) was is = is ≡ was
IsCombinedOf (negsuc (suc (suc n))) None was is = (n ≡ 13) × (is ≡ was)
IsCombinedOf (negsuc (suc (suc n))) (Some made) was is = ⊥

abbrev pub ReadsCombined : ℤ → ℕ → ℕ → Handle → Handle → List ℕ → List ℕ → Type 0
ReadsCombined result first last before after was is =
    TellsOf result before after (λ z world. IsCombinedOf z (combined_of world first last) was is)
    (is ≡ was)

-- ---- what else is known of an entry

-- the entry that one withdraws, or 0
abbrev pub withdraws_of : Origin → ℕ
withdraws_of Sent = 0
withdraws_of (Withdraws n) = n

abbrev pub about_of : Entry → About
about_of entry = record {
  publisher = entry.item.publisher;
  own = entry.item.own;
  withdraws = withdraws_of entry.item.origin;
}

-- 0 and what is known of the entry, or -16 if there is none
abbrev pub IsAboutOf : ℤ → Option Entry → About → About → Type 0
IsAboutOf (pos n) None was is = ⊥
IsAboutOf (pos n) (Some entry) was is = (n ≡ 0) × (is ≡ about_of entry)
IsAboutOf (negsuc n) None was is = (n ≡ 15) × (is ≡ was)
IsAboutOf (negsuc n) (Some entry) was is = ⊥

abbrev pub ReadsAbout : ℤ → ℕ → Handle → Handle → About → About → Type 0
ReadsAbout result n before after was is =
    TellsOf result before after (λ z world. IsAboutOf z (entry_of world n) was is) (is ≡ was)

-- ---- numbers

-- 0 and the number, or -30 if there is none
abbrev pub IsCursorOf : ℤ → Option ℕ → ℕ → ℕ → Type 0
IsCursorOf (pos n) None was is = ⊥
IsCursorOf (pos n) (Some cursor) was is = (n ≡ 0) × (is ≡ cursor)
IsCursorOf (negsuc n) None was is = (n ≡ 29) × (is ≡ was)
IsCursorOf (negsuc n) (Some cursor) was is = ⊥

-- the last number that a subscription has accepted
abbrev pub cursor_in : State → ℕ → Option ℕ
cursor_in world s = option_map (λ end. end.cursor) (slice_get world.endpoints s)

-- What `broker_cursor` returns: 0 and a subscription's cursor, or -30 if there is none.
abbrev pub ReadsCursor : ℤ → ℕ → Handle → Handle → ℕ → ℕ → Type 0
ReadsCursor result s before after was is =
    TellsOf result before after (λ z world. IsCursorOf z (cursor_in world s) was is) (is ≡ was)

-- what is known of a subscription, as C gets it
abbrev pub status_for_c : SubscriptionStatus → Standing
status_for_c q = record {
  start = q.start;
  floor = q.floor;
  cursor = q.cursor;
  offered = q.offered;
  link = q.link;
  ready = q.ready;
  in_flight = q.in_flight;
  front = q.front;
  closed = q.closed;
  fallen = q.fallen;
}

-- 0 and what is known of the subscription, or -30 if there is none
abbrev pub IsStatusOf : ℤ → Option SubscriptionStatus → Standing → Standing → Type 0
IsStatusOf (pos n) None was is = ⊥
IsStatusOf (pos n) (Some q) was is = (n ≡ 0) × (is ≡ status_for_c q)
IsStatusOf (negsuc n) None was is = (n ≡ 29) × (is ≡ was)
IsStatusOf (negsuc n) (Some q) was is = ⊥

abbrev pub ReadsStatus : ℤ → ℕ → Handle → Handle → Standing → Standing → Type 0
ReadsStatus result s before after was is =
    TellsOf result before after (λ z world. IsStatusOf z (subscription_status world s) was is)
    (is ≡ was)

-- What `broker_front` returns: 0 and the last number placed.
abbrev pub ReadsFront : ℤ → Handle → Handle → ℕ → ℕ → Type 0
ReadsFront result before after was is =
    TellsOf result before after (λ z world. (z ≡ pos 0) × (is ≡ length world.sequence)) (is ≡ was)

-- What `broker_left` returns: 0 and the number of changesets that are sent and not placed.
abbrev pub ReadsLeft : ℤ → Handle → Handle → ℕ → ℕ → Type 0
ReadsLeft result before after was is =
    TellsOf result before after (λ z world. (z ≡ pos 0) × (is ≡ how_many_wait world)) (is ≡ was)
