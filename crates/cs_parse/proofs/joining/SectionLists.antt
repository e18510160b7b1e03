-- Sections, and more changes at the end of the last one.
use Rattle.std.proofs.Common.{◌≡◌, ℕ, suc, ◌<◌, ◌⊎◌, inl, inr, List, [], ◌∷◌, ◌++◌, length, Some, refl, sym, ap, subst}
use Rattle.std.proofs.Common.{◌∙◌, append_assoc, arith}
use Rattle.std.specs.List.{AllByRecursion}
use Rattle.std.proofs.lemmas.List.{append-nil}
use Rattle.cs_model.specs.declared.change.Change.{Change}
use Rattle.cs_model.specs.Section.{Section}
use Rattle.cs_model.specs.Changeset.{IsChange, IsChangeset}
use Rattle.cs_model.proofs.CallerLemmas.{all_append}
use Rattle.cs_parse.specs.Progress.{last_flags, with_changes}
use Rattle.cs_parse.proofs.reading.ChangeLaws.{IsChangeBy}

-- a section with these changes in place of its own
abbrev pub renewed : Section → List Change → Section
renewed section changes = record { shape = section.shape; changes = changes }

-- a section with changes more
abbrev pub section_lists_longer : Section → List Change → Section
section_lists_longer section changes = renewed section (section.changes ++ changes)

-- ---- a last section

abbrev pub SectionListsEnded : List Section → Type 0
SectionListsEnded sections = (front : List Section) × (last : Section) × (sections ≡ front ++ last ∷ [])

pub ended_more : (section : Section) (sections : List Section) → SectionListsEnded (section ∷ sections)
ended_more section [] = ([], section, refl)
ended_more section (next ∷ sections) =
    let e = ended_more next sections in
    (section ∷ e.0, e.1, ap (λ (xs : List Section). section ∷ xs) e.2)

pub ended_or : (sections : List Section) → (sections ≡ []) ⊎ SectionListsEnded sections
ended_or [] = inl refl
ended_or (section ∷ sections) = inr (ended_more section sections)

pub last_of : (front : List Section) (last : Section) → last_flags (front ++ last ∷ []) ≡ Some last.shape.flags
last_of [] last = refl
last_of (section ∷ []) last = refl
last_of (section ∷ next ∷ front) last = last_of (next ∷ front) last

pub with_last : (front : List Section) (last : Section) (changes : List Change)
    → with_changes (front ++ last ∷ []) changes ≡ front
    ++ (record { shape = last.shape; changes = last.changes ++ changes }) ∷ []
with_last [] last changes = refl
with_last (section ∷ []) last changes = refl
with_last (section ∷ next ∷ front) last changes =
    ap (λ (xs : List Section). section ∷ xs) (with_last (next ∷ front) last changes)

-- ---- changes more

pub with_none : (sections : List Section) → with_changes sections [] ≡ sections
with_none [] = refl
with_none (section ∷ []) = ap (λ (cs : List Change). renewed section cs ∷ []) (append-nil section.changes)
with_none (section ∷ next ∷ sections) = ap (λ (xs : List Section). section ∷ xs) (with_none (next ∷ sections))

pub with_append : (sections : List Section) (some more : List Change) → with_changes (with_changes sections some) more
    ≡ with_changes sections (some ++ more)
with_append sections some more =
    elim (ended_or sections) as
    (λ w. with_changes (with_changes sections some) more ≡ with_changes sections (some ++ more)) [
      | inl none ↦
          ap (λ s. with_changes (with_changes s some) more) none ∙ ap (λ s. with_changes s (some ++ more)) (sym none)
      | inr e ↦
          let front = e.0 in
          let last = e.1 in
          let together : (last.changes ++ some) ++ more ≡ last.changes ++ (some ++ more) =
          append_assoc last.changes some more in
          ap (λ s. with_changes (with_changes s some) more) e.2
          ∙ ap (λ s. with_changes s more) (with_last front last some)
          ∙ with_last front (section_lists_longer last some) more
          ∙ ap (λ (cs : List Change). front ++ renewed last cs ∷ []) together
          ∙ sym (with_last front last (some ++ more))
          ∙ ap (λ s. with_changes s (some ++ more)) (sym e.2)
    ]

pub with_both : (sections : List Section) (change : Change) (changes : List Change)
    → with_changes (with_changes sections (change ∷ [])) changes ≡ with_changes sections (change ∷ changes)
with_both sections change changes = with_append sections (change ∷ []) changes

pub last_same : (sections : List Section) (changes : List Change) → last_flags (with_changes sections changes)
    ≡ last_flags sections
last_same sections changes =
    elim (ended_or sections) as (λ w. last_flags (with_changes sections changes) ≡ last_flags sections) [
      | inl none ↦ ap (λ s. last_flags (with_changes s changes)) none ∙ ap last_flags (sym none)
      | inr e ↦
          ap (λ s. last_flags (with_changes s changes)) e.2
          ∙ ap last_flags (with_last e.0 e.1 changes)
          ∙ last_of e.0 (section_lists_longer e.1 changes)
          ∙ sym (last_of e.0 e.1)
          ∙ ap last_flags (sym e.2)
    ]

pub with_changes-length : (sections : List Section) (changes : List Change) → length (with_changes sections changes)
    ≡ length sections
with_changes-length [] changes = refl
with_changes-length (section ∷ []) changes = refl
with_changes-length (section ∷ next ∷ sections) changes = ap suc (with_changes-length (next ∷ sections) changes)

-- ---- sections in front

pub last_behind : (front sections : List Section) → 0 < length sections → last_flags (front ++ sections)
    ≡ last_flags sections
last_behind front [] some = absurd (omega arith)
last_behind [] (section ∷ sections) some = refl
last_behind (first ∷ []) (section ∷ sections) some = refl
last_behind (first ∷ second ∷ front) (section ∷ sections) some = last_behind (second ∷ front) (section ∷ sections) some

pub with_behind : (front sections : List Section) (changes : List Change) → 0 < length sections
    → with_changes (front ++ sections) changes ≡ front ++ with_changes sections changes
with_behind front [] changes some = absurd (omega arith)
with_behind [] (section ∷ sections) changes some = refl
with_behind (first ∷ []) (section ∷ sections) changes some = refl
with_behind (first ∷ second ∷ front) (section ∷ sections) changes some =
    ap (λ (xs : List Section). first ∷ xs) (with_behind (second ∷ front) (section ∷ sections) changes some)

pub last_some : (sections : List Section) (flags : List ℕ) → last_flags sections ≡ Some flags → 0 < length sections
last_some [] flags last = absurd cc
last_some (section ∷ sections) flags last = omega arith

-- ---- which there are

pub with_valid : (sections : List Section) (flags : List ℕ) (changes : List Change) → last_flags sections ≡ Some flags
    → IsChangeset sections → AllByRecursion (IsChangeBy flags) changes → IsChangeset (with_changes sections changes)
with_valid [] flags changes last valid all = tt
with_valid (section ∷ []) flags changes last valid all =
    let same : flags ≡ section.shape.flags = cc in
    let mine : AllByRecursion (IsChange section.shape) changes =
    subst (λ w. AllByRecursion (IsChangeBy w) changes) same all in
    ((valid.0.0, all_append (IsChange section.shape) section.changes changes valid.0.1 mine), tt)
with_valid (section ∷ next ∷ sections) flags changes last valid all =
    (valid.0, with_valid (next ∷ sections) flags changes last valid.1 all)

pub all_front : {X : Type 0} (P : X → Type 0) (xs ys : List X) → AllByRecursion P (xs ++ ys) → AllByRecursion P xs
    × AllByRecursion P ys
all_front P [] ys all = (tt, all)
all_front P (x ∷ xs) ys all =
    let rest = all_front P xs ys all.1 in
    ((all.0, rest.0), rest.1)
