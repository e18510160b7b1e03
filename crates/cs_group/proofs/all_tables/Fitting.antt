-- A group of changesets is a changeset.
use Rattle.std.proofs.Common.{ℕ, Bool, true, false, cond, List, [], ◌∷◌, ◌++◌, Option, Some, None, map, filter}
use Rattle.std.specs.List.{AllByRecursion}
use Rattle.cs_model.proofs.CallerLemmas.{all_append}
use Rattle.cs_model.specs.declared.change.Change.{Change}
use Rattle.cs_model.specs.declared.value.Field.{Field}
use Rattle.cs_model.specs.Changeset.{IsChangeset, IsSection}
use Rattle.cs_model.specs.Section.{Section}
use Rattle.cs_write.proofs.forms.FormLaws.{grouped_fit}
use Rattle.cs_write.specs.Canon.{Group, by_shape, has_changes, joined_section}
use Rattle.cs_group.specs.Group.{begun_by, changed_row, combined_after, combined_section, group_of, lasts_through}
use Rattle.cs_group.specs.Group.{left_of}
use Rattle.cs_group.specs.Merge.{only_change}
use Rattle.cs_group.proofs.one_row.Merging.{IsValidChange, IsValidOfRow, key_in, alone_is}
use Rattle.cs_group.proofs.one_row.Through.{AreValidChanges, kept_merged}

begun_valid : (flags : List ℕ) (key : List Field) (left kept : Option Change) → IsValidOfRow flags key kept
    → AreValidChanges flags (begun_by left kept)
begun_valid flags key None None valid = tt
begun_valid flags key None (Some kept) valid = (valid.0, tt)
begun_valid flags key (Some left) None valid = tt
begun_valid flags key (Some left) (Some kept) valid = tt

combined_valid : (flags : List ℕ) (before after : List Change) → AreValidChanges flags after
    → AreValidChanges flags (combined_after flags before after)
combined_valid flags before [] valid = tt
combined_valid flags before (change ∷ after) valid =
    let row = changed_row flags change in
    let kept = kept_merged flags row (key_in flags change) (only_change flags change) after
    (alone_is flags change valid.0) valid.1 in
    all_append (IsValidChange flags)
    (begun_by (left_of flags row None before) (lasts_through flags row (only_change flags change) after))
    (combined_after flags (before ++ change ∷ []) after)
    (begun_valid flags (key_in flags change) (left_of flags row None before)
    (lasts_through flags row (only_change flags change) after) kept)
    (combined_valid flags (before ++ change ∷ []) after valid.1)

combined_fit : (groups : List Group) → AllByRecursion IsSection (map joined_section groups)
    → AllByRecursion IsSection (map (λ group. combined_section (joined_section group)) groups)
combined_fit [] fit = tt
combined_fit (group ∷ groups) fit =
    ((fit.0.0, combined_valid group.0.flags [] (joined_section group).changes fit.0.1), combined_fit groups fit.1)

filtered_fit : (sections : List Section) → AllByRecursion IsSection sections
    → AllByRecursion IsSection (filter has_changes sections)
filtered_fit [] fit = tt
filtered_fit (section ∷ sections) fit = by (has_changes section) (filtered_fit sections fit.1)
  where
    by : (b : Bool) → AllByRecursion IsSection (filter has_changes sections)
        → AllByRecursion IsSection (cond b (section ∷ filter has_changes sections) (filter has_changes sections))
    by true rest = (fit.0, rest)
    by false rest = rest

pub groups_fit : (sections : List Section) → IsChangeset sections
    → AllByRecursion IsSection (map joined_section (by_shape [] sections))
groups_fit sections fit = grouped_fit [] sections fit

pub group_fits : (sections : List Section) → IsChangeset sections → IsChangeset (group_of sections)
group_fits sections fit = filtered_fit _ (combined_fit (by_shape [] sections) (groups_fit sections fit))
