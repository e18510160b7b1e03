-- What a list of sections says of its last section, where that stands at the end.
use Rattle.std.proofs.Common.{◌≡◌, ℕ, List, [], ◌∷◌, ◌++◌, length, Some, refl, ap}
use Rattle.std.specs.List.{AllByRecursion}
use Rattle.cs_model.specs.declared.change.Change.{Change}
use Rattle.cs_model.specs.declared.change.Op.{Op}
use Rattle.cs_model.specs.declared.value.Field.{Field}
use Rattle.cs_model.specs.PackedChanges.{Fit, Long}
use Rattle.cs_model.specs.Section.{Section}
use Rattle.cs_model.specs.Sections.{FitLast, LastHasColumns, LastIsLong, last_flags, with_changes}

-- the section with more changes
abbrev pub one_with : Section → List Change → Section
one_with section changes = record { shape = section.shape; changes = section.changes ++ changes }

pub changes_to_last : (front : List Section) (section : Section) (changes : List Change)
    → with_changes (front ++ section ∷ []) changes ≡ front ++ one_with section changes ∷ []
changes_to_last [] section changes = refl
changes_to_last (s ∷ []) section changes = refl
changes_to_last (s ∷ t ∷ front) section changes = ap (λ (xs : List Section). s ∷ xs)
    (changes_to_last (t ∷ front) section changes)

pub columns_of_last : (front : List Section) (section : Section) (n : ℕ) → length section.shape.flags ≡ n
    → LastHasColumns (front ++ section ∷ []) n
columns_of_last [] section n long = long
columns_of_last (s ∷ []) section n long = long
columns_of_last (s ∷ t ∷ front) section n long = columns_of_last (t ∷ front) section n long

pub last_is_long_of : (front : List Section) (section : Section) (op : Op) (before after : List Field)
    → Long (length section.shape.flags) op before after → LastIsLong (front ++ section ∷ []) op before after
last_is_long_of [] section op before after long = long
last_is_long_of (s ∷ []) section op before after long = long
last_is_long_of (s ∷ t ∷ front) section op before after long = last_is_long_of (t ∷ front) section op before after long

pub fits_last : (front : List Section) (section : Section) (changes : List Change)
    → AllByRecursion (Fit (length section.shape.flags)) changes → FitLast (front ++ section ∷ []) changes
fits_last [] section changes fit = fit
fits_last (s ∷ []) section changes fit = fit
fits_last (s ∷ t ∷ front) section changes fit = fits_last (t ∷ front) section changes fit

pub flags_of_last : (front : List Section) (section : Section)
    → last_flags (front ++ section ∷ []) ≡ Some section.shape.flags
flags_of_last [] section = refl
flags_of_last (s ∷ []) section = refl
flags_of_last (s ∷ t ∷ front) section = flags_of_last (t ∷ front) section
