-- A group, table by table: the changes of a table in it are what the table's changes come to.
use Rattle.std.proofs.Common.{◌≡◌, ◌∙◌, ℕ, Bool, true, false, cond, List, [], ◌∷◌, ◌++◌, length, map, refl}
use Rattle.std.proofs.Common.{ap, sym, suc, arith}
use Rattle.std.proofs.lemmas.Bool.{false≢true, and_parts, and_from}
use Rattle.std.proofs.lemmas.Bool.Decides.{nat_tests}
use Rattle.std.proofs.lemmas.List.{append-nil}
use Rattle.std.specs.Prelude.{filter, ◌||◌, nat_lt}
use Rattle.std.specs.List.{list_any}
use Rattle.std.specs.Cmp.Lexicographic.{same_text, nat_list_eq_equiv}
use Rattle.cs_model.specs.declared.change.Change.{Change}
use Rattle.cs_model.specs.declared.shape.Shape.{Shape}
use Rattle.cs_model.specs.Changeset.{all_changes}
use Rattle.cs_model.specs.Schema.{same_bytes, same_shape, has_shape}
use Rattle.cs_model.specs.Section.{Section}
use Rattle.cs_write.specs.Canon.{Group, by_shape, with_shape, joined_section, has_changes}
use Rattle.cs_group.specs.Group.{combined, combined_section, tables_combined, group_of}

-- ---- shapes

pub same_is : (a b : Shape) → same_shape a b ≡ true → a ≡ b
same_is a b e =
    let parts = and_parts (same_bytes a.name b.name) (same_bytes a.flags b.flags) e in
    λ i. record { name = same_text a.name b.name (sym parts.0) i; flags = same_text a.flags b.flags (sym parts.1) i }

pub same_itself : (a : Shape) → same_shape a a ≡ true
same_itself a = and_from (same_bytes a.name a.name) (same_bytes a.flags a.flags) (nat_list_eq_equiv.refl a.name)
    (nat_list_eq_equiv.refl a.flags)

-- at most one shape passes the test
abbrev pub IsOne : (Shape → Bool) → Type 0
IsOne P = (a b : Shape) → P a ≡ true → P b ≡ true → a ≡ b

-- so the test asks for the same shape
like : (P : Shape → Bool) → IsOne P → (one : Shape) → P one ≡ true → (s : Shape) → same_shape s one ≡ P s
like P is one e s = go (same_shape s one) (P s) refl refl
  where
    go : (a b : Bool) → same_shape s one ≡ a → P s ≡ b → a ≡ b
    go true true h k = refl
    go true false h k = absurd (false≢true (sym k ∙ ap P (same_is s one h) ∙ e))
    go false true h k = absurd (false≢true (sym h ∙ ap (λ t. same_shape t one) (is s one k e) ∙ same_itself one))
    go false false h k = refl

-- ---- the changes of such sections

abbrev pub has_such_shape : (Shape → Bool) → Section → Bool
has_such_shape P section = P section.shape

abbrev pub all_with : (Shape → Bool) → List Section → List Change
all_with P sections = all_changes (filter (has_such_shape P) sections)

-- ---- groups of sections

abbrev grouped : List Group → List Section
grouped groups = map (λ (group : Group). combined_section (joined_section group)) groups

grouped_by : (P : Shape → Bool) (flags : List ℕ) → IsOne P → ((s : Shape) → P s ≡ true → s.flags ≡ flags)
    → (earlier : List Shape) (sections : List Section)
    → all_with P (grouped (by_shape earlier sections))
    ≡ cond (list_any P earlier) [] (combined flags (all_with P sections))
unfolding by_shape
grouped_by P flags is own earlier [] = go (list_any P earlier)
  where
    go : (b : Bool) → [] ≡ cond b [] (combined flags [])
    go true = refl
    go false = refl
grouped_by P flags is own earlier (section ∷ sections) =
    by (has_shape earlier section.shape) (P section.shape) refl refl (grouped_by P flags is own earlier sections)
    (grouped_by P flags is own (section.shape ∷ earlier) sections)
  where
    -- the earlier shapes that pass are those that are this one
    alike : P section.shape ≡ true → list_any P earlier ≡ has_shape earlier section.shape
    alike e = sym (λ i. list_any (λ t. like P is section.shape e t i) earlier)

    later : List Section
    later = filter (has_such_shape P) (grouped (by_shape (section.shape ∷ earlier) sections))

    group : Group
    group = (section.shape, section ∷ with_shape section.shape sections)

    by : (h b : Bool) → has_shape earlier section.shape ≡ h → P section.shape ≡ b
        → all_with P (grouped (by_shape earlier sections))
        ≡ cond (list_any P earlier) [] (combined flags (all_with P sections))
        → all_with P (grouped (by_shape (section.shape ∷ earlier) sections))
        ≡ cond (P section.shape || list_any P earlier) [] (combined flags (all_with P sections))
        → all_with P (grouped (cond h (by_shape earlier sections)
        (group ∷ by_shape (section.shape ∷ earlier) sections)))
        ≡ cond (list_any P earlier) [] (combined flags
        (all_changes (cond b (section ∷ filter (has_such_shape P) sections)
        (filter (has_such_shape P) sections))))
    by true true eh eb one more =
        let any : list_any P earlier ≡ true = alike eb ∙ eh in
        one ∙ ap (λ a. cond a [] (combined flags (all_with P sections))) any
        ∙ sym (ap (λ a. cond a [] (combined flags (section.changes ++ all_with P sections))) any)
    by true false eh eb one more = one
    by false true eh eb one more =
        let any : list_any P earlier ≡ false = alike eb ∙ eh in
        ap (λ b. all_changes (cond b (combined_section (joined_section group) ∷ later) later)) eb
        ∙ ap (λ cs. combined section.shape.flags (all_changes (section ∷ with_shape section.shape sections)) ++ cs)
        (more ∙ ap (λ b. cond (b || list_any P earlier) [] (combined flags (all_with P sections))) eb)
        ∙ append-nil (combined section.shape.flags (all_changes (section ∷ with_shape section.shape sections)))
        ∙ (λ i. combined (own section.shape eb i)
        (section.changes ++ all_changes (filter (λ s. like P is section.shape eb s.shape i) sections)))
        ∙ sym (ap (λ a. cond a [] (combined flags (section.changes ++ all_with P sections))) any)
    by false false eh eb one more =
        ap (λ b. all_changes (cond b (combined_section (joined_section group) ∷ later) later)) eb
        ∙ more ∙ ap (λ b. cond (b || list_any P earlier) [] (combined flags (all_with P sections))) eb

-- ---- sections without changes

dropped : (P : Shape → Bool) (sections : List Section) → all_with P (filter has_changes sections) ≡ all_with P sections
dropped P [] = refl
dropped P (section ∷ sections) = go section.shape section.changes (dropped P sections)
  where
    go : (shape : Shape) (changes : List Change) → all_with P (filter has_changes sections) ≡ all_with P sections
        → all_with P (cond (nat_lt 0 (length changes))
        (record { shape = shape; changes = changes } ∷ filter has_changes sections)
        (filter has_changes sections))
        ≡ all_with P (record { shape = shape; changes = changes } ∷ sections)
    go shape [] same = same ∙ by (P shape)
      where
        by : (b : Bool) → all_with P sections ≡ all_changes
            (cond b (record { shape = shape; changes = [] } ∷ filter (has_such_shape P) sections)
            (filter (has_such_shape P) sections))
        by true = refl
        by false = refl
    go shape (change ∷ changes) same =
        ap (λ b. all_with P (cond b (record { shape = shape; changes = change ∷ changes } ∷ filter has_changes sections)
        (filter has_changes sections))) (some (length changes))
        ∙ by (P shape)
      where
        some : (n : ℕ) → nat_lt 0 (suc n) ≡ true
        some n = grind (arith, nat_tests)

        by : (b : Bool) → all_changes (cond b (record { shape = shape; changes = change ∷ changes } ∷ filter
            (has_such_shape P) (filter has_changes sections))
            (filter (has_such_shape P) (filter has_changes sections)))
            ≡ all_changes (cond b (record { shape = shape; changes = change ∷ changes } ∷ filter (has_such_shape P)
            sections)
            (filter (has_such_shape P) sections))
        by true = ap (λ cs. (change ∷ changes) ++ cs) same
        by false = same

-- the changes of a table in a group are what the table's changes come to
pub group_by_table : (P : Shape → Bool) (flags : List ℕ) → IsOne P → ((s : Shape) → P s ≡ true → s.flags ≡ flags)
    → (sections : List Section) → all_with P (group_of sections) ≡ combined flags (all_with P sections)
group_by_table P flags is own sections = dropped P (tables_combined sections) ∙ grouped_by P flags is own [] sections
