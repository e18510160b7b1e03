-- The changes of one row: what takes them back, and others that aren't of the row.
use Rattle.std.proofs.Common.{◌≡◌, ◌∙◌, ◌⊎◌, inl, inr, ℕ, Bool, true, false, cond, List, [], ◌∷◌, ◌++◌, map, Option}
use Rattle.std.proofs.Common.{Some, None, refl, ap, sym}
use Rattle.std.proofs.lemmas.Bool.{and_from, false≢true, or_left, or_right}
use Rattle.std.proofs.lemmas.List.{map-append}
use Rattle.std.proofs.lemmas.List.Elements.{filter-append}
use Rattle.std.specs.Prelude.{filter, ◌&&◌, ◌||◌}
use Rattle.std.specs.List.{list_any}
use Rattle.std.specs.Cmp.Lexicographic.{nat_list_eq_equiv}
use Rattle.cs_model.specs.declared.change.Change.{Change}
use Rattle.cs_model.specs.declared.shape.Shape.{Shape}
use Rattle.cs_model.specs.Changeset.{all_changes}
use Rattle.cs_model.specs.Schema.{same_bytes}
use Rattle.cs_model.specs.Section.{Section}
use Rattle.cs_group.specs.Group.{changed_row, left_of}
use Rattle.cs_group.specs.Merge.{with_change}
use Rattle.cs_group.proofs.one_row.Effects.{Row, on_change}
use Rattle.cs_group.proofs.one_row.OneRow.{and_then, on_list, then_found}
use Rattle.cs_group.proofs.one_row.RowLaw.{IsLongRow}
use Rattle.cs_group.proofs.all_tables.Tables.{IsOne, all_with, has_such_shape}
use Rattle.cs_group.proofs.one_row.Through.{AreValidChanges, as_list, mine, of_row}
use Rattle.cs_invert.specs.Inverse.{AreApart, inverse, inverse_change, inverse_section, names_row}
use Rattle.cs_invert.proofs.inverses.Inverting.{inverse_row}
use Rattle.cs_invert.proofs.withdrawals.OneBack.{one_back}

-- ---- the row's changes of an inverse

pub mine_if_valid : (flags row : List ℕ) (changes : List Change) → AreValidChanges flags changes
    → AreValidChanges flags (mine flags row changes)
mine_if_valid flags row [] is = tt
mine_if_valid flags row (change ∷ changes) is = go (of_row flags row change) (mine_if_valid flags row changes is.1)
  where
    go : (b : Bool) → AreValidChanges flags (mine flags row changes)
        → AreValidChanges flags (cond b (change ∷ mine flags row changes) (mine flags row changes))
    go true rest = (is.0, rest)
    go false rest = rest

mine_inverse : (flags row : List ℕ) (changes : List Change) → AreValidChanges flags changes
    → mine flags row (map (inverse_change flags) changes) ≡ map (inverse_change flags) (mine flags row changes)
mine_inverse flags row [] is = refl
mine_inverse flags row (change ∷ changes) is =
    ap (λ (r : List ℕ). cond (same_bytes r row)
    (inverse_change flags change ∷ mine flags row (map (inverse_change flags) changes))
    (mine flags row (map (inverse_change flags) changes))) (inverse_row flags change is.0)
    ∙ go (of_row flags row change) (mine_inverse flags row changes is.1)
  where
    go : (b : Bool) → mine flags row (map (inverse_change flags) changes)
        ≡ map (inverse_change flags) (mine flags row changes)
        → cond b (inverse_change flags change ∷ mine flags row (map (inverse_change flags) changes))
        (mine flags row (map (inverse_change flags) changes))
        ≡ map (inverse_change flags) (cond b (change ∷ mine flags row changes) (mine flags row changes))
    go true rest = ap (λ (cs : List Change). inverse_change flags change ∷ cs) rest
    go false rest = rest

with_inverse : (P : Shape → Bool) (flags : List ℕ) → ((s : Shape) → P s ≡ true → s.flags ≡ flags)
    → (sections : List Section)
    → all_with P (inverse sections) ≡ map (inverse_change flags) (all_with P sections)
with_inverse P flags own [] = refl
with_inverse P flags own (section ∷ sections) = go (P section.shape) refl (with_inverse P flags own sections)
  where
    go : (b : Bool) → P section.shape ≡ b
        → all_with P (inverse sections) ≡ map (inverse_change flags) (all_with P sections)
        → all_changes (cond b (inverse_section section ∷ filter (has_such_shape P) (inverse sections))
        (filter (has_such_shape P) (inverse sections)))
        ≡ map (inverse_change flags) (all_changes (cond b (section ∷ filter (has_such_shape P) sections)
        (filter (has_such_shape P) sections)))
    go true e rest = (λ i. map (inverse_change (own section.shape e i)) section.changes ++ rest i)
        ∙ sym (map-append (inverse_change flags) section.changes (all_with P sections))
    go false e rest = rest

-- the row's changes of the inverse are the inverses of the row's changes
pub row_of_inverse : (P : Shape → Bool) (flags row : List ℕ) → ((s : Shape) → P s ≡ true → s.flags ≡ flags)
    → (sections : List Section) → AreValidChanges flags (all_with P sections)
    → mine flags row (all_with P (inverse sections))
    ≡ map (inverse_change flags) (mine flags row (all_with P sections))
row_of_inverse P flags row own sections is = ap (mine flags row) (with_inverse P flags own sections)
    ∙ mine_inverse flags row (all_with P sections) is

-- ---- the row has at most one change

take_back : (flags : List ℕ) (there : Option Change) (first next : Option Row) → AreValidChanges flags (as_list there)
    → IsLongRow flags first → on_list flags (as_list there) first ≡ Some next
    → on_list flags (map (inverse_change flags) (as_list there)) next ≡ Some first
take_back flags None first next is l e = sym e
take_back flags (Some there) first next is l e =
    let f = then_found (on_change flags there first) (on_list flags []) next e in
    ap (λ (o : Option (Option Row)). and_then o (on_list flags []))
    (one_back flags there first next is.0 l (f.1 ∙ f.2))

left_of_none : (flags row : List ℕ) (there : Option Change) (changes : List Change) → mine flags row changes ≡ []
    → left_of flags row there changes ≡ there
left_of_none flags row there [] e = refl
left_of_none flags row there (change ∷ changes) e =
    go (of_row flags row change) (λ none. left_of_none flags row there changes none) e
  where
    go : (b : Bool) → (mine flags row changes ≡ [] → left_of flags row there changes ≡ there)
        → cond b (change ∷ mine flags row changes) (mine flags row changes) ≡ []
        → cond b (left_of flags row (with_change flags there change) changes) (left_of flags row there changes)
        ≡ there
    go true rest none = absurd cc
    go false rest none = rest none

-- ---- the row's changes and those of others

-- `some` or `others` have no change of the row, and `there` is what `some` come to
pub row_taken_back : (flags row : List ℕ) (changes some others back : List Change) (first mid next : Option Row)
    → some ≡ mine flags row changes → AreValidChanges flags (as_list (left_of flags row None changes))
    → IsLongRow flags first
    → back ≡ map (inverse_change flags) (as_list (left_of flags row None changes))
    → on_list flags some first ≡ Some mid
    → on_list flags (as_list (left_of flags row None changes)) first ≡ Some mid
    → on_list flags others mid ≡ Some next → (some ≡ []) ⊎ (others ≡ [])
    → (last : Option Row) × (on_list flags others first ≡ Some last) × (on_list flags back next ≡ Some last)
row_taken_back flags row changes some others back first mid next own is l inverts one group two (inl none) =
    let same : Some first ≡ Some mid = sym (ap (λ (cs : List Change). on_list flags cs first) none) ∙ one in
    let here : first ≡ mid = cc same in
    let left : left_of flags row None changes ≡ None = left_of_none flags row None changes (sym own ∙ none) in (
      next,
      ap (on_list flags others) here ∙ two,
      ap (λ (cs : List Change). on_list flags cs next)
          (inverts ∙ ap (λ (x : Option Change). map (inverse_change flags) (as_list x)) left),
    )
row_taken_back flags row changes some others back first mid next own is l inverts one group two (inr none) =
    let same : Some mid ≡ Some next = sym (ap (λ (cs : List Change). on_list flags cs mid) none) ∙ two in
    let here : mid ≡ next = cc same in (
      first,
      ap (λ (cs : List Change). on_list flags cs first) none,
      ap (λ (cs : List Change). on_list flags cs next) inverts
          ∙ ap (on_list flags (map (inverse_change flags) (as_list (left_of flags row None changes)))) (sym here)
          ∙ take_back flags (left_of flags row None changes) first mid is l group,
    )

-- ---- sections that are apart

none_any : (f : Change → Bool) (changes : List Change) → list_any f changes ≡ false → filter f changes ≡ []
none_any f [] e = refl
none_any f (change ∷ changes) e = go (f change) (none_any f changes) e
  where
    go : (b : Bool) → (list_any f changes ≡ false → filter f changes ≡ []) → (b || list_any f changes) ≡ false
        → cond b (change ∷ filter f changes) (filter f changes) ≡ []
    go true rest e = absurd (false≢true (sym e))
    go false rest e = rest e

-- a table that passes the test, in which sections name the row
abbrev Names : (Shape → Bool) → List ℕ → List Section → Type 0
Names P row sections = (shape : Shape) × (P shape ≡ true) × (names_row sections shape.name row ≡ true)

-- whether a section has a change of the row
abbrev names_in : List ℕ → Section → Bool
names_in row section = list_any (λ change. same_bytes (changed_row section.shape.flags change) row) section.changes

names_or_none : (P : Shape → Bool) (flags row : List ℕ) → ((s : Shape) → P s ≡ true → s.flags ≡ flags)
    → (sections : List Section)
    → (mine flags row (all_with P sections) ≡ []) ⊎ Names P row sections
names_or_none P flags row own [] = inl refl
names_or_none P flags row own (section ∷ sections) =
    go (P section.shape) refl (names_or_none P flags row own sections)
  where
    later : Names P row sections → Names P row (section ∷ sections)
    later n = (
      n.0,
      n.1,
      or_right (same_bytes section.shape.name n.0.name && names_in row section) (names_row sections n.0.name row)
          n.2,
    )

    by : (b : Bool) → names_in row section ≡ b → P section.shape ≡ true → mine flags row (all_with P sections) ≡ []
        → (mine flags row (section.changes ++ all_with P sections) ≡ []) ⊎ Names P row (section ∷ sections)
    by true any e none = inr (
      section.shape,
      e,
      or_left (same_bytes section.shape.name section.shape.name && names_in row section)
          (names_row sections section.shape.name row)
          (and_from (same_bytes section.shape.name section.shape.name) (names_in row section)
          (nat_list_eq_equiv.refl section.shape.name) any),
    )
    by false any e none =
        let here : list_any (of_row flags row) section.changes ≡ false =
        sym (ap (λ (fs : List ℕ). list_any (λ change. same_bytes (changed_row fs change) row) section.changes)
        (own section.shape e)) ∙ any in
        inl (filter-append (of_row flags row) section.changes (all_with P sections)
        ∙ (λ i. none_any (of_row flags row) section.changes here i ++ none i))

    go : (b : Bool) → P section.shape ≡ b → (mine flags row (all_with P sections) ≡ []) ⊎ Names P row sections
        → (mine flags row (all_changes (cond b (section ∷ filter (has_such_shape P) sections)
        (filter (has_such_shape P) sections))) ≡ []) ⊎ Names P row (section ∷ sections)
    go b e (inr n) = inr (later n)
    go true e (inl none) = by (names_in row section) refl e none
    go false e (inl none) = inl none

-- at a row, at most one of them has changes
pub one_of_both : (P : Shape → Bool) (flags row : List ℕ) → IsOne P → ((s : Shape) → P s ≡ true → s.flags ≡ flags)
    → (sections others : List Section) → AreApart sections others
    → (mine flags row (all_with P sections) ≡ []) ⊎ (mine flags row (all_with P others) ≡ [])
one_of_both P flags row is own sections others apart =
    go (names_or_none P flags row own sections) (names_or_none P flags row own others)
  where
    go : (mine flags row (all_with P sections) ≡ []) ⊎ Names P row sections
        → (mine flags row (all_with P others) ≡ []) ⊎ Names P row others
        → (mine flags row (all_with P sections) ≡ []) ⊎ (mine flags row (all_with P others) ≡ [])
    go (inl none) other = inl none
    go (inr n) (inl none) = inr none
    go (inr n) (inr m) = absurd (false≢true (sym (apart n.0.name row n.2)
        ∙ ap (λ (s : Shape). names_row others s.name row) (is n.0 m.0 n.1 m.1) ∙ m.2))
