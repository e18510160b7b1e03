-- A withdrawal has only tables that its changeset has.
use Rattle.std.proofs.Common.{◌≡◌, Bool, true, false, cond, List, [], ◌∷◌, None, map, filter}
use Rattle.std.specs.List.{AllByRecursion}
use Rattle.cs_model.specs.declared.shape.Shape.{Shape}
use Rattle.cs_model.specs.Schema.{has_shape, refusal_of}
use Rattle.cs_model.specs.Section.{Section}
use Rattle.cs_write.specs.Canon.{by_shape, has_changes, joined_section, with_shape}
use Rattle.cs_group.specs.Group.{combined_section, group_of, tables_combined}
use Rattle.cs_group.proofs.schemas.Admitting.{HasItsTable, each_has_shape, all_have_tables}
use Rattle.cs_invert.specs.Inverse.{inverse, withdrawal_of}

tables_admitted : (tables earlier : List Shape) (sections : List Section)
    → AllByRecursion (HasItsTable tables) sections → AllByRecursion (HasItsTable tables)
    (map (λ group. combined_section (joined_section group)) (by_shape earlier sections))
unfolding by_shape
tables_admitted tables earlier [] all = tt
tables_admitted tables earlier (section ∷ sections) all =
    by (has_shape earlier section.shape) (tables_admitted tables earlier sections all.1)
    (tables_admitted tables (section.shape ∷ earlier) sections all.1)
  where
    by : (b : Bool) → AllByRecursion (HasItsTable tables)
        (map (λ group. combined_section (joined_section group)) (by_shape earlier sections))
        → AllByRecursion (HasItsTable tables)
        (map (λ group. combined_section (joined_section group)) (by_shape (section.shape ∷ earlier) sections))
        → AllByRecursion (HasItsTable tables) (map (λ group. combined_section (joined_section group))
        (cond b (by_shape earlier sections) ((section.shape, section ∷ with_shape section.shape sections)
        ∷ by_shape (section.shape ∷ earlier) sections)))
    by true old new = old
    by false old new = (all.0, new)

some_admitted : (tables : List Shape) (sections : List Section) → AllByRecursion (HasItsTable tables) sections
    → AllByRecursion (HasItsTable tables) (filter has_changes sections)
some_admitted tables [] all = tt
some_admitted tables (section ∷ sections) all = by (has_changes section) (some_admitted tables sections all.1)
  where
    by : (b : Bool) → AllByRecursion (HasItsTable tables) (filter has_changes sections)
        → AllByRecursion (HasItsTable tables) (cond b (section ∷ filter has_changes sections)
        (filter has_changes sections))
    by true rest = (all.0, rest)
    by false rest = rest

inverse_admitted : (tables : List Shape) (sections : List Section) → AllByRecursion (HasItsTable tables) sections
    → AllByRecursion (HasItsTable tables) (inverse sections)
inverse_admitted tables [] all = tt
inverse_admitted tables (section ∷ sections) all = (all.0, inverse_admitted tables sections all.1)

pub withdrawal_admitted : (tables : List Shape) (sections : List Section) → refusal_of tables sections ≡ None
    → refusal_of tables (withdrawal_of sections) ≡ None
withdrawal_admitted tables sections e =
    each_has_shape tables (withdrawal_of sections) (inverse_admitted tables (group_of sections)
    (some_admitted tables (tables_combined sections) (tables_admitted tables [] sections
    (all_have_tables tables sections e))))
