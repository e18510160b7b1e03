-- Statements in parts: a part that gave a value, and what a row becomes where it is stored.
use Rattle.std.proofs.Common.{◌≡◌, ◌⊎◌, inl, inr, ℕ, ℤ, pos, Bool, true, false, cond, Ok, Err, Result, OnOk, is_eq}
use Rattle.std.proofs.Common.{refl, ap, arith}
use Rattle.std.proofs.lemmas.Cmp.{tied_itself}
use Rattle.sqlite_value.specs.declared.value.Value.{Value}
use Rattle.sqlite_value.specs.declared.value.Value.TheVariants.{Null, Int}
use Rattle.sqlite_value.proofs.OrderLemmas.{value_cmp_total}
use Rattle.sqlite_sql.specs.Ops.{unary}
use Rattle.sqlite.specs.Cast.{cast}
use Rattle.sqlite.specs.Kind.TheVariants.{Integer}
use Rattle.sqlite.specs.State.{State, HasCleanDisk, Survives}
use Rattle.sqlite.specs.Tree.{Trees, has_rowid}
use Rattle.replica_store.specs.Picture.{mark_record}

-- a part that gave a value did not stop on the way
pub not_stopped : {B E R : Type 0} {b : B} {Stops : E → Type 0} → ((stop : E) × Stops stop × (Ok b ≡ Err stop)) ⊎ R → R
not_stopped (inl stopped) = absurd (let e = stopped.2 in cc)
not_stopped (inr on) = on

pub value_given : {B E : Type 0} {a b : B} → ◌≡◌ {A = Result B E} (Ok a) (Ok b) → a ≡ b
value_given e = cc

-- a disk that is clean after a statement was so before it
pub was_clean : (old new : State) (Commits : Trees → Type 0) → Survives old new Commits → HasCleanDisk new
    → HasCleanDisk old
was_clean old new Commits s clean = omega (arith, s.clean)

pub two_not_zero : ◌≡◌ {A = ℕ} 2 0 → ⊥
two_not_zero e = omega arith

pub zero_not_two : ◌≡◌ {A = ℕ} 0 2 → ⊥
zero_not_two e = omega arith

either_same : (b : Bool) (x : Value) → cond b x x ≡ x
either_same true x = refl
either_same false x = refl

pub cast_null : cast Integer Null ≡ Null
unfolding unary
cast_null = either_same _ Null

pub cast_int : (n : ℤ) → cast Integer (Int n) ≡ Int n
unfolding unary
cast_int n = either_same _ (Int n)

pub mark_at_one : (place : ℕ) → has_rowid (pos 1) (mark_record place) ≡ true
mark_at_one place = ap is_eq (tied_itself value_cmp_total (Int (pos 1)))

pub on_ok_then : {T E P Q : Type 0} (r : Result T E) → (P → Q) → OnOk r P → OnOk r Q
on_ok_then (Ok x) f h = f h
on_ok_then (Err e) f h = h
