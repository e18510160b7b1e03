-- The first section that a schema refusal_found, as the sections are gone over.
use Rattle.std.proofs.Common.{◌≡◌, ◌∙◌, ℕ, zero, suc, ◌+◌, true, false, not, cond, List, [], ◌∷◌, length, drop}
use Rattle.std.proofs.Common.{Option, Some, None, sym, ap, arith}
use Rattle.std.specs.Prelude.{option_map, slice_get}
use Rattle.std.specs.List.{position_from}
use Rattle.std.proofs.lemmas.Iterator.Adapters.{position_from-zero}
use Rattle.cs_model.specs.declared.shape.Shape.{Shape}
use Rattle.cs_model.specs.Section.{Section}
use Rattle.cs_model.specs.Schema.{first_outside, has_shape, refusal_at, refusal_of}

abbrev first_from : List Shape → ℕ → List Section → Option ℕ
first_from tables place sections = position_from (λ section. not (has_shape tables section.shape)) place sections

-- the sections up to this place have tables, and these are left
pub record HaveTables (tables : List Shape) (place : ℕ) (rest all : List Section) : Type 0 where
  pub first : first_outside tables all ≡ first_from tables place rest
  pub here : drop place all ≡ rest
  pub long : place + length rest ≡ length all

pub refusal_begins : (tables : List Shape) (rest all : List Section) → rest ≡ all → HaveTables tables 0 rest all
refusal_begins tables rest all is = record {
  first = position_from-zero (λ section. not (has_shape tables section.shape)) all ∙ ap (first_from tables 0) (sym is);
  here = sym is;
  long = omega (arith, ap length is);
}

plus_one : (n : ℕ) → n + 1 ≡ suc n
plus_one n = omega arith

-- the first of what is left, and what is left behind it
next_at : (place : ℕ) (all : List Section) (section : Section) (rest : List Section) → drop place all ≡ section ∷ rest
    → (drop (suc place) all ≡ rest) × (slice_get all place ≡ Some section)
next_at zero [] section rest here = absurd (omega (arith, ap length here))
next_at zero (first ∷ all) section rest here = (ap (drop 1) here, ap (λ xs. slice_get xs 0) here)
next_at (suc place) [] section rest here = absurd (omega (arith, ap length here))
next_at (suc place) (first ∷ all) section rest here = next_at place all section rest here

pub refusal_goes_on : (tables : List Shape) (place : ℕ) (section : Section) (before rest all : List Section)
    → before ≡ section ∷ rest → has_shape tables section.shape ≡ true → HaveTables tables place before all
    → HaveTables tables (place + 1) rest all
refusal_goes_on tables place section before rest all step has so = record {
  first = so.first ∙ ap (first_from tables place) step
      ∙ ap (λ b. cond (not b) (Some place) (first_from tables (place + 1) rest)) has;
  here = ap (λ n. drop n all) (plus_one place) ∙ (next_at place all section rest (so.here ∙ step)).0;
  long = omega (arith, so.long, ap length step);
}

pub refusal_found : (tables : List Shape) (place : ℕ) (section : Section) (before rest all : List Section)
    → before ≡ section ∷ rest → has_shape tables section.shape ≡ false → HaveTables tables place before all
    → refusal_of tables all ≡ Some (refusal_at tables place (Some section))
refusal_found tables place section before rest all step lacks so =
    ap (option_map (λ i. refusal_at tables i (slice_get all i))) (so.first ∙ ap (first_from tables place) step
    ∙ ap (λ b. cond (not b) (Some place) (first_from tables (place + 1) rest)) lacks)
    ∙ ap (λ s. Some (refusal_at tables place s)) (next_at place all section rest (so.here ∙ step)).1

pub refusal_ends : (tables : List Shape) (place : ℕ) (rest all : List Section) → rest ≡ [] → HaveTables tables place rest all
    → refusal_of tables all ≡ None
refusal_ends tables place rest all none so =
    ap (option_map (λ i. refusal_at tables i (slice_get all i))) (so.first ∙ ap (first_from tables place) none)
