-- Changesets combined into one (*Group*).
use Rattle.std.specs.Prelude.{ℕ, Bool, not, ◌&&◌, if◌then◌else◌, List, [], ◌∷◌, ◌++◌, map, filter}
use Rattle.std.specs.Prelude.{Option, Some, None, suc, option_map}
use Rattle.std.specs.List.{list_any}
use Rattle.cs_model.specs.declared.change.Change.{Change}
use Rattle.cs_model.specs.KeyBytes.{key_bytes, key_record}
use Rattle.cs_model.specs.Schema.{same_bytes, same_shape}
use Rattle.cs_model.specs.Section.{Section}
use Rattle.cs_write.specs.Canon.{by_shape, joined_section, has_changes}
use Rattle.cs_group.specs.Merge.{only_change, two_changes, with_change}

-- ---- the changes of one table

-- the bytes of the key values of the row that a change is about
abbrev pub changed_row : List ℕ → Change → List ℕ
changed_row flags change = key_bytes flags (key_record change.op change.before change.after)

-- what a row's change becomes by these changes, those of other rows left out
abbrev pub left_of : List ℕ → List ℕ → Option Change → List Change → Option Change
left_of flags row there [] = there
left_of flags row there (change ∷ changes) =
    if same_bytes (changed_row flags change) row then left_of flags row
    (with_change flags there change)
    changes else left_of flags row there changes

-- the same, but none if it is none once on the way
abbrev pub lasts_through : List ℕ → List ℕ → Option Change → List Change → Option Change
lasts_through flags row None changes = None
lasts_through flags row (Some there) [] = Some there
lasts_through flags row (Some there) (change ∷ changes) =
    if same_bytes (changed_row flags change) row
    then lasts_through flags row (two_changes flags there change) changes
    else lasts_through flags row (Some there) changes

-- What stands in the result at the place of a change: what its row comes to, if the row had none
-- before this change and has one from here on.
abbrev pub begun_by : Option Change → Option Change → List Change
begun_by None None = []
begun_by None (Some change) = change ∷ []
begun_by (Some there) kept = []

abbrev pub begun_at : List ℕ → List Change → Change → List Change → List Change
begun_at flags before change after =
    begun_by (left_of flags (changed_row flags change) None before)
    (lasts_through flags (changed_row flags change) (only_change flags change) after)

-- What the changes after `before` come to. Each row has at most one change: it stands at the place
-- of the change by which the row last came from none.
abbrev pub combined_after : List ℕ → List Change → List Change → List Change
combined_after flags before [] = []
combined_after flags before (change ∷ after) =
    begun_at flags before change after ++ combined_after flags (before ++ change ∷ []) after

abbrev pub combined : List ℕ → List Change → List Change
combined flags changes = combined_after flags [] changes

-- ---- changesets

abbrev pub combined_section : Section → Section
combined_section section =
    record { shape = section.shape; changes = combined section.shape.flags section.changes }

-- One section for each table, at the place of the table's first section, with what its changes come
-- to. A table of which nothing is left has a section without changes.
abbrev pub tables_combined : List Section → List Section
tables_combined sections =
    map (λ group. combined_section (joined_section group)) (by_shape [] sections)

-- *Group*: the same without the sections that have no changes. The sections are those of all
-- changesets, one changeset's after another's.
abbrev pub group_of : List Section → List Section
group_of sections = filter has_changes (tables_combined sections)

-- ---- which changesets can be combined

-- whether a section's table has another shape than an earlier section's table of its name
abbrev pub differs_from : Section → Section → Bool
differs_from section earlier =
    same_bytes earlier.shape.name section.shape.name && not (same_shape earlier.shape section.shape)

abbrev pub clashes : List Section → Section → Bool
clashes earlier section = list_any (differs_from section) earlier

-- the index of the first section that can't be combined with those before it
abbrev pub first_clash : List Section → List Section → Option ℕ
first_clash earlier [] = None
first_clash earlier (section ∷ sections) =
    if clashes earlier section then Some 0
    else option_map suc (first_clash (earlier ++ section ∷ []) sections)
