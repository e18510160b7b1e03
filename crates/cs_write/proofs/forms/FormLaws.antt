-- The canonical form of a changeset is a changeset.
use Rattle.std.proofs.Common.{◌≡◌, Bool, true, false, cond, inl, inr, List, [], ◌∷◌, ◌++◌, length, map, refl, sym, ap}
use Rattle.std.proofs.Common.{subst, ◌∙◌}
use Rattle.std.specs.Prelude.{filter}
use Rattle.std.specs.List.{AllByRecursion}
use Rattle.std.proofs.lemmas.Bool.{cases_Bool}
use Rattle.std.proofs.lemmas.Grind.{flat_map-append}
use Rattle.std.proofs.lemmas.List.{append-nil}
use Rattle.cs_model.proofs.texts.LastOne.{changes_to_last}
use Rattle.cs_model.specs.declared.change.Change.{Change}
use Rattle.cs_model.specs.declared.shape.Shape.{Shape}
use Rattle.cs_model.specs.Section.{Section}
use Rattle.cs_model.specs.Sections.{with_changes}
use Rattle.cs_model.specs.Schema.{same_shape, has_shape}
use Rattle.cs_model.specs.Changeset.{IsChange, IsSection, IsChangeset}
use Rattle.cs_model.specs.Changeset.{all_changes}
use Rattle.cs_write.specs.Canon.{with_shape, by_shape, joined_section, has_changes, canon}
use Rattle.cs_write.specs.Groups.{HasColumns, IsAlike}
use Rattle.cs_write.proofs.forms.Shapes.{shape_is}
use Rattle.cs_write.proofs.forms.GroupLaws.{group_begun}

form_chosen : {A : Type 0} (P : A → Type 0) (b : Bool) (x : A) (xs : List A) → P x → AllByRecursion P xs
    → AllByRecursion P (cond b (x ∷ xs) xs)
form_chosen P true x xs h k = (h, k)
form_chosen P false x xs h k = k

filtered : {A : Type 0} (P : A → Type 0) (p : A → Bool) (xs : List A) → AllByRecursion P xs
    → AllByRecursion P (filter p xs)
filtered P p [] h = tt
filtered P p (x ∷ xs) h = form_chosen P (p x) x (filter p xs) h.0 (filtered P p xs h.1)

both_parts : {A : Type 0} (P : A → Type 0) (xs ys : List A) → AllByRecursion P xs → AllByRecursion P ys
    → AllByRecursion P (xs ++ ys)
both_parts P [] ys h k = k
both_parts P (x ∷ xs) ys h k = (h.0, both_parts P xs ys h.1 k)

-- a section of this shape
abbrev OfShape : Shape → Section → Type 0
OfShape shape section = IsSection section × (section.shape ≡ shape)

all_of : (shape : Shape) (ss : List Section) → IsChangeset ss → AllByRecursion (OfShape shape) (with_shape shape ss)
all_of shape [] h = tt
all_of shape (s ∷ ss) h =
    elim (cases_Bool (same_shape s.shape shape)) [
      | inl is ↦ subst (λ b. AllByRecursion (OfShape shape) (cond b (s ∷ with_shape shape ss) (with_shape shape ss)))
          (sym is) ((h.0, shape_is s.shape shape is), all_of shape ss h.1)
      | inr other ↦ subst (λ b. AllByRecursion (OfShape shape) (cond b (s ∷ with_shape shape ss) (with_shape shape ss)))
          (sym other) (all_of shape ss h.1)
    ]

form_changes_fit : (shape : Shape) (ss : List Section) → AllByRecursion (OfShape shape) ss
    → AllByRecursion (IsChange shape) (all_changes ss)
form_changes_fit shape [] h = tt
form_changes_fit shape (s ∷ ss) h =
    both_parts (IsChange shape) s.changes (all_changes ss)
    (subst (λ w. AllByRecursion (IsChange w) s.changes) h.0.1 h.0.0.1) (form_changes_fit shape ss h.1)

begun_fits : (b : Bool) (earlier : List Shape) (s : Section) (ss : List Section)
    → IsSection (joined_section (s.shape, s ∷ with_shape s.shape ss))
    → AllByRecursion IsSection (map joined_section (by_shape earlier ss))
    → AllByRecursion IsSection (map joined_section (by_shape (s.shape ∷ earlier) ss))
    → AllByRecursion IsSection (map joined_section (group_begun b earlier s ss))
begun_fits true earlier s ss first old new = old
begun_fits false earlier s ss first old new = (first, new)

pub grouped_fit : (earlier : List Shape) (ss : List Section) → IsChangeset ss
    → AllByRecursion IsSection (map joined_section (by_shape earlier ss))
unfolding by_shape
grouped_fit earlier [] h = tt
grouped_fit earlier (s ∷ ss) h =
    begun_fits (has_shape earlier s.shape) earlier s ss
    (h.0.0, form_changes_fit s.shape (s ∷ with_shape s.shape ss) ((h.0, refl), all_of s.shape ss h.1))
    (grouped_fit earlier ss h.1) (grouped_fit (s.shape ∷ earlier) ss h.1)

pub canon_fits : (sections : List Section) → IsChangeset sections → IsChangeset (canon sections)
canon_fits sections h = filtered IsSection has_changes (map joined_section (by_shape [] sections))
    (grouped_fit [] sections h)

-- ---- the changes of one more section

pub joined_more : (front : List Section) (shape : Shape) (ss : List Section) (s : Section)
    → with_changes (front ++ joined_section (shape, ss) ∷ []) s.changes
    ≡ front ++ joined_section (shape, ss ++ s ∷ []) ∷ []
joined_more front shape ss s =
    let all : all_changes ss ++ s.changes ≡ all_changes (ss ++ s ∷ []) =
    sym (flat_map-append (λ (t : Section). t.changes) ss (s ∷ [])
    ∙ ap (λ (cs : List Change). all_changes ss ++ cs) (append-nil s.changes)) in
    changes_to_last front (joined_section (shape, ss)) s.changes
    ∙ (λ i. front ++ record { shape = shape; changes = all i } ∷ [])

-- ---- groups are of sections with as many columns

form_shaped : (shape : Shape) (ss : List Section)
    → AllByRecursion (HasColumns (length shape.flags)) (with_shape shape ss)
form_shaped shape [] = tt
form_shaped shape (s ∷ ss) =
    elim (cases_Bool (same_shape s.shape shape)) [
      | inl is ↦ subst (λ b. AllByRecursion (HasColumns (length shape.flags))
          (cond b (s ∷ with_shape shape ss) (with_shape shape ss))) (sym is)
          (ap (λ (w : Shape). length w.flags) (shape_is s.shape shape is), form_shaped shape ss)
      | inr other ↦ subst (λ b. AllByRecursion (HasColumns (length shape.flags))
          (cond b (s ∷ with_shape shape ss) (with_shape shape ss))) (sym other) (form_shaped shape ss)
    ]

begun_alike : (b : Bool) (earlier : List Shape) (s : Section) (ss : List Section)
    → AllByRecursion IsAlike (by_shape earlier ss) → AllByRecursion IsAlike (by_shape (s.shape ∷ earlier) ss)
    → AllByRecursion IsAlike (group_begun b earlier s ss)
begun_alike true earlier s ss old new = old
begun_alike false earlier s ss old new = ((refl, form_shaped s.shape ss), new)

pub groups_alike : (earlier : List Shape) (ss : List Section) → AllByRecursion IsAlike (by_shape earlier ss)
unfolding by_shape
groups_alike earlier [] = tt
groups_alike earlier (s ∷ ss) =
    begun_alike (has_shape earlier s.shape) earlier s ss (groups_alike earlier ss) (groups_alike (s.shape ∷ earlier) ss)
