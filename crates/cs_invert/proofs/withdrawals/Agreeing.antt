-- A withdrawal's sections have shapes that its changeset's sections have, so they agree where those do.
use Rattle.std.proofs.Common.{◌≡◌, ◌∙◌, ℕ, zero, suc, Bool, true, false, ◌||◌, List, [], ◌∷◌, Some, refl, sym, ap, map}
use Rattle.std.proofs.lemmas.Bool.{false≢true}
use Rattle.std.proofs.lemmas.Option.{none-some}
use Rattle.std.specs.Prelude.{slice_get}
use Rattle.cs_model.specs.Changeset.{AgreeOnShapes}
use Rattle.cs_model.specs.declared.shape.Shape.{Shape}
use Rattle.cs_model.specs.Schema.{has_shape, same_shape}
use Rattle.cs_model.specs.Section.{Section}
use Rattle.cs_group.proofs.all_tables.Tables.{same_is, same_itself}
use Rattle.cs_group.proofs.schemas.Admitting.{HasItsTable, all_have_tables, each_has_shape}
use Rattle.cs_group.proofs.schemas.Agreeing.{all_from_places, holds_at}
use Rattle.cs_invert.specs.Inverse.{withdrawal_of}
use Rattle.cs_invert.proofs.withdrawals.Admitting.{withdrawal_admitted}

abbrev shapes_of : List Section → List Shape
shapes_of sections = map (λ section. section.shape) sections

shape_there : (sections : List Section) (i : ℕ) (section : Section) → slice_get sections i ≡ Some section
    → HasItsTable (shapes_of sections) section
shape_there [] i section found = absurd (none-some section found)
shape_there (first ∷ rest) zero section found =
    let same : first ≡ section = cc in
    ap (λ (s : Section). same_shape s.shape section.shape || has_shape (shapes_of rest) section.shape) same
    ∙ ap (λ b. b || has_shape (shapes_of rest) section.shape) (same_itself section.shape)
shape_there (first ∷ rest) (suc i) section found =
    by (same_shape first.shape section.shape) (shape_there rest i section found)
  where
    by : (b : Bool) → has_shape (shapes_of rest) section.shape ≡ true
        → (b || has_shape (shapes_of rest) section.shape) ≡ true
    by true there = refl
    by false there = there

-- a section of this shape stands there
record ShapeStands (sections : List Section) (shape : Shape) : Type 0 where
  pub at : ℕ
  pub section : Section
  pub found : slice_get sections at ≡ Some section
  pub same : section.shape ≡ shape

shape_stands : (sections : List Section) (shape : Shape) → has_shape (shapes_of sections) shape ≡ true
    → ShapeStands sections shape
shape_stands [] shape there = absurd (false≢true there)
shape_stands (first ∷ rest) shape there =
    by (same_shape first.shape shape) refl there (shape_stands rest shape)
  where
    by : (b : Bool) → same_shape first.shape shape ≡ b → (b || has_shape (shapes_of rest) shape) ≡ true
        → (has_shape (shapes_of rest) shape ≡ true → ShapeStands rest shape) → ShapeStands (first ∷ rest) shape
    by true is there more = record { at = 0; section = first; found = refl; same = same_is first.shape shape is }
    by false is there more =
        let behind = more there in
        record { at = suc behind.at; section = behind.section; found = behind.found; same = behind.same }

pub withdrawal_agrees : (sections : List Section) → AgreeOnShapes sections → AgreeOnShapes (withdrawal_of sections)
withdrawal_agrees sections agree i j one other at_one at_other same =
    let tables = shapes_of sections in
    let own = each_has_shape tables sections (all_from_places (HasItsTable tables) sections (shape_there sections)) in
    let all = all_have_tables tables (withdrawal_of sections) (withdrawal_admitted tables sections own) in
    let a = shape_stands sections one.shape (holds_at (HasItsTable tables) (withdrawal_of sections) i one all at_one) in
    let b = shape_stands sections other.shape
    (holds_at (HasItsTable tables) (withdrawal_of sections) j other all at_other) in
    let names : a.section.shape.name ≡ b.section.shape.name =
    ap (λ (s : Shape). s.name) a.same ∙ (same ∙ ap (λ (s : Shape). s.name) (sym b.same)) in
    sym a.same ∙ (agree a.at b.at a.section b.section a.found b.found names ∙ b.same)
