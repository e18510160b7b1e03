-- What the desk's `prepare` and `close` say of its numbers.
use Rattle.std.proofs.Common.{◌≡◌, ◌≤◌, ℕ, suc, Bool, true, false, cond, [], length, nat_lt, Option, Some, None}
use Rattle.std.proofs.Common.{IsSome, Ok, Err, refl, sym, ap, ◌∙◌, ◌⊎◌, inl, inr, arith}
use Rattle.std.proofs.lemmas.Bool.{ltb-true}
use Rattle.rb_desk.specs.declared.refusal.DeskRefusal.{DeskRefusal}
use Rattle.rb_desk.specs.declared.refusal.DeskRefusal.TheVariants as refusal
use Rattle.rb_desk.specs.Picture.{Picture}
use Rattle.rb_desk.specs.Calls.{close, last_number, next_place, prepare}
use Rattle.rb_desk.specs.Journaled.{JournaledPicture, closing_steps, is_full}
use Rattle.rb_broker.specs.Placing.{number_to_place}
use Rattle.rb_broker.proofs.HoldLaws.{answered}

-- a desk that is closed is closed again: nothing changes
pub closed_again : (p : Picture) (last : ℕ) → Some last ≡ p.closing → (last ≡ (close p).0) × (p ≡ (close p).1)
    × (closing_steps p.closing ≡ [])
unfolding close
closed_again p last shows =
    let number : last_number p p.closing ≡ last = ap (last_number p) (sym shows) in (
      sym number,
      ap (λ (o : Option ℕ). record p { closing = o }) (sym shows ∙ ap (λ (n : ℕ). Some n) (sym number)),
      ap closing_steps (sym shows),
    )

-- one that isn't closed is closed at its front
pub closes_at_front : (p : Picture) → None ≡ p.closing → ((close p).0 ≡ p.front)
    × ((close p).1.closing ≡ Some (close p).0)
unfolding close
closes_at_front p none = (ap (last_number p) (sym none), refl)

-- where nothing is placed because the sequence is closed, it has a closing number
closed_place : (p : Picture) (o : Option ℕ) → next_place p o ≡ Err refusal.Closed → IsSome o
closed_place p (Some last) e = refl
closed_place p None e = absurd (by (nat_lt p.front p.limits.capacity) e)
  where
    by : (b : Bool) → cond b (Ok (suc p.front)) (Err refusal.SequenceFull) ≡ Err refusal.Closed → ⊥
    by true e = let no : Ok (suc p.front) ≡ Err refusal.Closed = e in cc
    by false e = let no : Err refusal.SequenceFull ≡ Err refusal.Closed = e in cc

pub refused_closed : (desk : JournaledPicture) → number_to_place desk ≡ Err refusal.Closed → IsSome desk.picture.closing
unfolding prepare
refused_closed desk e = by (is_full (length desk.steps)) e
  where
    by : (b : Bool) → cond b (Err refusal.JournalFull) (next_place desk.picture desk.picture.closing) ≡ Err refusal.Closed
        → IsSome desk.picture.closing
    by true e = absurd (let no : Err refusal.JournalFull ≡ Err refusal.Closed = e in cc)
    by false e = closed_place desk.picture desk.picture.closing e

-- a desk places only numbers for which there is room
next_fits : (p : Picture) (o : Option ℕ) (next : ℕ) → next_place p o ≡ Ok next → (1 ≤ next) × (next ≤ p.limits.capacity)
next_fits p (Some last) next e = absurd (let no : Err refusal.Closed ≡ Ok next = e in cc)
next_fits p None next e = by (nat_lt p.front p.limits.capacity) refl e
  where
    by : (b : Bool) → nat_lt p.front p.limits.capacity ≡ b
        → cond b (Ok (suc p.front)) (Err refusal.SequenceFull) ≡ Ok next → (1 ≤ next) × (next ≤ p.limits.capacity)
    by true less e =
        let is : suc p.front ≡ next = (let same : Ok (suc p.front) ≡ Ok next = e in cc) in
        (omega (arith, is), omega (arith, is, ltb-true p.front p.limits.capacity less))
    by false less e = absurd (let no : Err refusal.SequenceFull ≡ Ok next = e in cc)

pub placed_fits : (desk : JournaledPicture) (next : ℕ) → number_to_place desk ≡ Ok next
    → (1 ≤ next) × (next ≤ desk.picture.limits.capacity)
unfolding prepare
placed_fits desk next e =
    let p = desk.picture in
    next_fits p p.closing next (answered (length desk.steps) (next_place p p.closing) next e)

-- why a desk places nothing: its journal is full, it is closed, or its sequence is full
abbrev IsPlaceWhy : DeskRefusal → Type 0
IsPlaceWhy why = (why ≡ refusal.JournalFull) ⊎ ((why ≡ refusal.Closed) ⊎ (why ≡ refusal.SequenceFull))

next_why : (p : Picture) (o : Option ℕ) (why : DeskRefusal) → next_place p o ≡ Err why → IsPlaceWhy why
next_why p (Some last) why e = inr (inl (let same : Err refusal.Closed ≡ Err why = e in cc))
next_why p None why e = by (nat_lt p.front p.limits.capacity) e
  where
    by : (b : Bool) → cond b (Ok (suc p.front)) (Err refusal.SequenceFull) ≡ Err why → IsPlaceWhy why
    by true e = absurd (let no : Ok (suc p.front) ≡ Err why = e in cc)
    by false e = inr (inr (let same : Err refusal.SequenceFull ≡ Err why = e in cc))

place_why : (desk : JournaledPicture) (why : DeskRefusal) → number_to_place desk ≡ Err why → IsPlaceWhy why
unfolding prepare
place_why desk why e = by (is_full (length desk.steps)) e
  where
    by : (b : Bool) → cond b (Err refusal.JournalFull) (next_place desk.picture desk.picture.closing) ≡ Err why
        → IsPlaceWhy why
    by true e = inl (let same : Err refusal.JournalFull ≡ Err why = e in cc)
    by false e = next_why desk.picture desk.picture.closing why e

-- so where that is neither of the first two, it is the third
pub full_else : (desk : JournaledPicture) (why : DeskRefusal) → number_to_place desk ≡ Err why
    → (why ≡ refusal.JournalFull → ⊥) → (why ≡ refusal.Closed → ⊥)
    → number_to_place desk ≡ Err refusal.SequenceFull
full_else desk why is open_ room = elim (place_why desk why is) [
  | inl full ↦ absurd (open_ full)
  | inr other ↦ elim other [
    | inl closed ↦ absurd (room closed)
    | inr full ↦ is ∙ ap (λ (w : DeskRefusal). Err w) full
  ]
]
