-- Each entry is withdrawn once, and after it was placed.
use Rattle.std.proofs.Common.{◌≡◌, ℕ, zero, suc, ◌≤◌, List, [], ◌∷◌, ◌++◌, length, Some, refl, sym, ap, subst}
use Rattle.std.proofs.Common.{arith}
use Rattle.std.specs.Prelude.{slice_get}
use Rattle.std.specs.List.{AllByRecursion}
use Rattle.std.proofs.lemmas.List.{length-append}
use Rattle.std.proofs.lemmas.Option.{slice_get_within}
use Rattle.rb_sequence.specs.Entry.{Entry}
use Rattle.rb_core.specs.World.{World, world_begun}
use Rattle.rb_core.specs.Moves.{IsNew, Leads}
use Rattle.rb_core.proofs.headline.Moving.{all_get, all_map, apart_from_sending, MovingKeeps, crash_leaves}
use Rattle.rb_core.proofs.headline.Moving.{kept_through}

-- ---- the numbers

abbrev AreDistinct : List ℕ → Type 0
AreDistinct [] = Unit {0}
AreDistinct (n ∷ numbers) = IsNew numbers n × AreDistinct numbers

abbrev IsPlacedIn : List Entry → ℕ → Type 0
IsPlacedIn sequence n = (1 ≤ n) × (n ≤ length sequence)

record AreWithdrawn (sequence : List Entry) (numbers : List ℕ) : Type 0 where
  distinct : AreDistinct numbers
  placed : AllByRecursion (IsPlacedIn sequence) numbers

-- a world that differs from this one in other parts has them too, by computing
abbrev WithdrawsOnce : World → Type 0
WithdrawsOnce world = AreWithdrawn world.sequence world.withdrawn

still_placed : (sequence : List Entry) (entry : Entry) (numbers : List ℕ) → AllByRecursion (IsPlacedIn sequence) numbers
    → AllByRecursion (IsPlacedIn (sequence ++ entry ∷ [])) numbers
still_placed sequence entry numbers all =
    all_map (IsPlacedIn sequence) (IsPlacedIn (sequence ++ entry ∷ [])) numbers
    (λ n is. (is.0, omega (arith, is.1, length-append sequence (entry ∷ [])))) all

-- ---- moves

once_kept : MovingKeeps WithdrawsOnce
once_kept = record {
  sending = apart_from_sending WithdrawsOnce (λ old senders intake hand h. h);
  places = λ old new move h. subst WithdrawsOnce (sym move.kept)
      (record { distinct = h.distinct; placed = still_placed old.sequence _ old.withdrawn h.placed });
  closes = λ old new move h. subst WithdrawsOnce (sym move.kept) h;
  subscribes = λ old new move h. subst WithdrawsOnce (sym move.kept) h;
  delivers = λ old new move h. subst WithdrawsOnce (sym move.kept) h;
  accepts = λ old new move h. subst WithdrawsOnce (sym move.kept) h;
  reconnects = λ old new move h. subst WithdrawsOnce (sym move.kept) h;
  unsubscribes = λ old new move h. subst WithdrawsOnce (sym move.kept) h;
  withdraws = λ old new move h.
      let some : 1 ≤ move.number = omega (arith, move.is) in
      let last : move.number ≤ length old.sequence =
      omega (arith, move.is, slice_get_within old.sequence move.place move.entry move.placed) in
      subst WithdrawsOnce (sym move.kept)
      (record { distinct = (move.new_number, h.distinct); placed = ((some, last), h.placed) });
  crashes = λ old new move h. crash_leaves WithdrawsOnce old new move h h;
  resumes = λ old new move h. subst WithdrawsOnce (sym move.kept) h;
}

once_through : (mids : List World) (new : World) → Leads world_begun mids new → WithdrawsOnce new
once_through mids new leads =
    kept_through WithdrawsOnce once_kept world_begun mids new leads (record { distinct = tt; placed = tt })

-- ---- the law

-- a number that isn't in the list stands nowhere in it
not_there : (numbers : List ℕ) (n i : ℕ) → IsNew numbers n → slice_get numbers i ≡ Some n → ⊥
not_there numbers n i new at = all_get (λ (m : ℕ). m ≡ n → ⊥) numbers i n new at refl

stands_once : (numbers : List ℕ) → AreDistinct numbers → (i j n : ℕ) → slice_get numbers i ≡ Some n
    → slice_get numbers j ≡ Some n → i ≡ j
stands_once [] distinct i j n one other = absurd (cc one)
stands_once (m ∷ numbers) distinct zero zero n one other = refl
stands_once (m ∷ numbers) distinct zero (suc j) n one other =
    let same : m ≡ n = cc one in
    absurd (not_there numbers n j (subst (IsNew numbers) same distinct.0) other)
stands_once (m ∷ numbers) distinct (suc i) zero n one other =
    let same : m ≡ n = cc other in
    absurd (not_there numbers n i (subst (IsNew numbers) same distinct.0) one)
stands_once (m ∷ numbers) distinct (suc i) (suc j) n one other =
    ap suc (stands_once numbers distinct.1 i j n one other)

pub withdrawn_at_one_place : (mids : List World) (new : World) (i j n : ℕ) → Leads world_begun mids new
    → slice_get new.withdrawn i ≡ Some n → slice_get new.withdrawn j ≡ Some n → i ≡ j
withdrawn_at_one_place mids new i j n leads = stands_once new.withdrawn (once_through mids new leads).distinct i j n

pub withdrawn_is_placed : (mids : List World) (new : World) (i n : ℕ) → Leads world_begun mids new
    → slice_get new.withdrawn i ≡ Some n → (1 ≤ n) × (n ≤ length new.sequence)
withdrawn_is_placed mids new i n leads at =
    all_get (IsPlacedIn new.sequence) new.withdrawn i n (once_through mids new leads).placed at
