-- Sections are their own canonical form where their shapes differ and each has changes, and only there.
use Rattle.std.proofs.Common.{◌≡◌, Bool, true, false, cond, inl, inr, List, [], ◌∷◌, ◌++◌, map, refl, sym, ap, subst}
use Rattle.std.proofs.Common.{◌∙◌}
use Rattle.std.specs.Prelude.{◌||◌}
use Rattle.std.specs.List.{list_any}
use Rattle.std.proofs.lemmas.Bool.{cases_Bool, false≢true, or_left, or_right}
use Rattle.std.proofs.lemmas.List.{append-nil}
use Rattle.std.proofs.lemmas.List.Folds.{list_any-append}
use Rattle.cs_model.specs.declared.shape.Shape.{Shape}
use Rattle.cs_model.specs.Section.{Section}
use Rattle.cs_model.specs.Schema.{same_shape, has_shape}
use Rattle.cs_write.specs.Canon.{Group, with_shape, by_shape, joined_section, has_changes, canon_of, canon}
use Rattle.cs_write.proofs.forms.Shapes.{shape_is, shape_same, flip}
use Rattle.cs_write.proofs.forms.GroupLaws.{by_shape-cons}
use Rattle.cs_write.specs.Own.{AreOwn}

-- the two tests say the same
has_is : (shape : Shape) (earlier : List Shape) → list_any (same_shape shape) earlier ≡ has_shape earlier shape
has_is shape [] = refl
has_is shape (e ∷ es) = λ i. flip e shape (same_shape e shape) refl i || has_is shape es i

-- a shape that stood earlier, or stands now
has_more : (earlier : List Shape) (shape x : Shape) → has_shape earlier x ≡ true
    → has_shape (earlier ++ shape ∷ []) x ≡ true
has_more earlier shape x stood = list_any-append (λ t. same_shape t x) earlier (shape ∷ [])
    ∙ or_left (has_shape earlier x) (has_shape (shape ∷ []) x) stood

shape_stood_last : (earlier : List Shape) (shape x : Shape) → same_shape shape x ≡ true
    → has_shape (earlier ++ shape ∷ []) x ≡ true
shape_stood_last earlier shape x same = list_any-append (λ t. same_shape t x) earlier (shape ∷ [])
    ∙ or_right (has_shape earlier x) (has_shape (shape ∷ []) x) (or_left (same_shape shape x) false same)

new_shape : (earlier : List Shape) (s : Section) (ss : List Section) → AreOwn earlier (s ∷ ss)
    → has_shape earlier s.shape ≡ false
new_shape earlier s ss own = sym (has_is s.shape earlier) ∙ own.1

-- no section has a shape that stood earlier
none_has_shape : (earlier : List Shape) (shape : Shape) (ss : List Section) → has_shape earlier shape ≡ true
    → AreOwn earlier ss → with_shape shape ss ≡ []
none_has_shape earlier shape [] stood own = refl
none_has_shape earlier shape (s ∷ ss) stood own =
    elim (cases_Bool (same_shape s.shape shape)) as (λ w. with_shape shape (s ∷ ss) ≡ []) [
      | inl hit ↦ absurd (false≢true (sym (new_shape earlier s ss own)
          ∙ subst (λ (w : Shape). has_shape earlier w ≡ true) (sym (shape_is s.shape shape hit)) stood))
      | inr other ↦ ap (λ b. cond b (s ∷ with_shape shape ss) (with_shape shape ss)) other
          ∙ none_has_shape (earlier ++ s.shape ∷ []) shape ss (has_more earlier s.shape shape stood) own.2
    ]

abbrev group_of_one : Section → Group
group_of_one s = (s.shape, s ∷ [])

nothing_grouped : (earlier : List Shape) → by_shape earlier [] ≡ []
unfolding by_shape
nothing_grouped earlier = refl

-- each section is a group
abbrev ShapesWithin : List Shape → List Shape → Type 0
ShapesWithin some all = (x : Shape) → has_shape some x ≡ true → has_shape all x ≡ true

shapes_within_more : (some all : List Shape) (shape : Shape) → ShapesWithin some all
    → ShapesWithin (shape ∷ some) (all ++ shape ∷ [])
shapes_within_more some all shape inside x h =
    elim (cases_Bool (same_shape shape x)) as (λ w. has_shape (all ++ shape ∷ []) x ≡ true) [
      | inl hit ↦ shape_stood_last all shape x hit
      | inr other ↦ has_more all shape x (inside x (sym (ap (λ b. b || has_shape some x) other) ∙ h))
    ]

grouped_alone : (some all : List Shape) (ss : List Section) → ShapesWithin some all → AreOwn all ss
    → by_shape some ss ≡ map group_of_one ss
grouped_alone some all [] inside own = nothing_grouped some
grouped_alone some all (s ∷ ss) inside own =
    let fresh : has_shape some s.shape ≡ false =
    elim (cases_Bool (has_shape some s.shape)) as (λ w. has_shape some s.shape ≡ false) [
      | inl stood ↦ absurd (false≢true (sym (new_shape all s ss own) ∙ inside s.shape stood))
      | inr not_there ↦ not_there
    ] in
    let none : with_shape s.shape ss ≡ [] =
    none_has_shape (all ++ s.shape ∷ []) s.shape ss (shape_stood_last all s.shape s.shape (shape_same s.shape)) own.2 in
    let rest = grouped_alone (s.shape ∷ some) (all ++ s.shape ∷ []) ss (shapes_within_more some all s.shape inside) own.2 in
    by_shape-cons some s ss false fresh ∙ (λ i. (s.shape, s ∷ none i) ∷ rest i)

joined_alone : (s : Section) → joined_section (group_of_one s) ≡ s
joined_alone s = λ i. record { shape = s.shape; changes = append-nil s.changes i }

all_left : (all : List Shape) (ss : List Section) → AreOwn all ss → canon_of (map group_of_one ss) ≡ ss
all_left all [] own = refl
all_left all (s ∷ ss) own =
    let kept : has_changes (joined_section (group_of_one s)) ≡ true = ap has_changes (joined_alone s) ∙ own.0 in
    ap (λ b. cond b (joined_section (group_of_one s) ∷ canon_of (map group_of_one ss)) (canon_of (map group_of_one ss))) kept
    ∙ (λ i. joined_alone s i ∷ all_left (all ++ s.shape ∷ []) ss own.2 i)

pub own_form : (ss : List Section) → AreOwn [] ss → canon ss ≡ ss
own_form ss own = ap canon_of (grouped_alone [] [] ss (λ x h. h) own) ∙ all_left [] ss own

-- ---- a canonical form is like that

-- a shape of a longer list that isn't its last
before_last : (all : List Shape) (shape x : Shape) → has_shape (all ++ shape ∷ []) x ≡ true → same_shape shape x ≡ false
    → has_shape all x ≡ true
before_last [] shape x h other = absurd (false≢true (sym (ap (λ b. b || false) other) ∙ h))
before_last (a ∷ all) shape x h other =
    elim (cases_Bool (same_shape a x)) as (λ w. has_shape (a ∷ all) x ≡ true) [
      | inl hit ↦ or_left (same_shape a x) (has_shape all x) hit
      | inr miss ↦ or_right (same_shape a x) (has_shape all x)
          (before_last all shape x (sym (ap (λ b. b || has_shape (all ++ shape ∷ []) x) miss) ∙ h) other)
    ]

not_within : (all some : List Shape) (shape : Shape) → ShapesWithin all some → has_shape some shape ≡ false
    → has_shape all shape ≡ false
not_within all some shape inside new =
    elim (cases_Bool (has_shape all shape)) as (λ w. has_shape all shape ≡ false) [
      | inl stood ↦ absurd (false≢true (sym new ∙ inside shape stood))
      | inr not_there ↦ not_there
    ]

-- the shapes so far, with one more, are among those that are left out
more_within : (all some : List Shape) (shape : Shape) → ShapesWithin all some
    → ShapesWithin (all ++ shape ∷ []) (shape ∷ some)
more_within all some shape inside x h =
    elim (cases_Bool (same_shape shape x)) as (λ w. has_shape (shape ∷ some) x ≡ true) [
      | inl hit ↦ or_left (same_shape shape x) (has_shape some x) hit
      | inr other ↦ or_right (same_shape shape x) (has_shape some x) (inside x (before_last all shape x h other))
    ]

own_left : (b : Bool) (all : List Shape) (s : Section) (ss : List Section) → has_changes s ≡ b
    → has_shape all s.shape ≡ false → AreOwn all ss → AreOwn (all ++ s.shape ∷ []) ss
    → AreOwn all (cond b (s ∷ ss) ss)
own_left true all s ss kept new without with = (kept, has_is s.shape all ∙ new, with)
own_left false all s ss kept new without with = without

canon_owns : (some all : List Shape) (ss : List Section) → ShapesWithin all some → AreOwn all (canon_of (by_shape some ss))
canon_owns some all [] inside = subst (λ (gs : List Group). AreOwn all (canon_of gs)) (sym (nothing_grouped some)) tt
canon_owns some all (s ∷ ss) inside =
    elim (cases_Bool (has_shape some s.shape)) [
      | inl stood ↦ subst (λ (gs : List Group). AreOwn all (canon_of gs)) (sym (by_shape-cons some s ss true stood))
          (canon_owns some all ss inside)
      | inr new ↦
          let first = joined_section (s.shape, s ∷ with_shape s.shape ss) in
          let rest = canon_of (by_shape (s.shape ∷ some) ss) in
          subst (λ (gs : List Group). AreOwn all (canon_of gs)) (sym (by_shape-cons some s ss false new))
          (own_left (has_changes first) all first rest refl (not_within all some s.shape inside new)
          (canon_owns (s.shape ∷ some) all ss (λ x h. or_right (same_shape s.shape x) (has_shape some x) (inside x h)))
          (canon_owns (s.shape ∷ some) (all ++ s.shape ∷ []) ss (more_within all some s.shape inside)))
    ]

pub form_owns : (ss : List Section) → canon ss ≡ ss → AreOwn [] ss
form_owns ss is = subst (AreOwn []) is (canon_owns [] [] ss (λ x h. h))
