-- The combining law: a group applies where its changesets do, and leaves the same tables.
use Rattle.std.proofs.Common.{◌≡◌, ◌∙◌, ℕ, Bool, true, false, cond, List, [], ◌∷◌, ◌++◌, map, Option, Some}
use Rattle.std.proofs.Common.{None, Result, Ok, Err, refl, ap, sym, subst}
use Rattle.std.proofs.lemmas.Bool.{false≢true}
use Rattle.std.proofs.lemmas.Bool.Decides.{Decides-eqb}
use Rattle.std.proofs.lemmas.List.{map-append}
use Rattle.std.proofs.lemmas.List.Elements.{filter-append}
use Rattle.std.proofs.lemmas.List.Quantifiers.{position-Some}
use Rattle.std.specs.Prelude.{filter, get_or}
use Rattle.std.specs.FinMap as map
use Rattle.cs_model.specs.declared.change.Change.{Change}
use Rattle.cs_model.specs.declared.row_key.RowKey.{RowKey}
use Rattle.cs_model.specs.declared.shape.Shape.{Shape}
use Rattle.cs_model.proofs.CallerLemmas.{all_append}
use Rattle.cs_model.specs.Changeset.{IsChangeset, all_changes}
use Rattle.cs_model.specs.Schema.{same_shape, table_index}
use Rattle.cs_model.specs.Section.{Section}
use Rattle.cs_apply.specs.declared.conflict.Conflict.{Conflict}
use Rattle.cs_apply.specs.Single.{changes_of, single, single_from, with_rows}
use Rattle.cs_apply.specs.State.{Rows, TableState, compatible}
use Rattle.cs_apply.proofs.rows_by_key.Keys.{exact_keys, keys_total}
use Rattle.cs_apply.proofs.rows_by_key.Lengths.{kept_at}
use Rattle.cs_apply.proofs.effects.OneByOne.{rows_found}
use Rattle.cs_apply.specs.Columns.{HaveColumns, table_flags}
use Rattle.cs_group.specs.Group.{group_of}
use Rattle.cs_group.proofs.one_row.Merging.{IsValidChange}
use Rattle.cs_group.proofs.one_row.Effects.{Row}
use Rattle.cs_group.proofs.one_row.RowLaw.{IsLongRow}
use Rattle.cs_group.proofs.one_row.Through.{AreValidChanges, mine}
use Rattle.cs_group.proofs.one_row.OneRow.{Packing, on_list, combined_has_effect}
use Rattle.cs_group.proofs.all_tables.Keyed.{NamedChange, each_applies, on_named, touch}
use Rattle.cs_group.proofs.all_tables.Together.{HasTableFlags, all_apply, at_table, named_is, of_table}
use Rattle.cs_group.proofs.all_tables.Tables.{IsOne, all_with, has_such_shape, group_by_table, same_is}

-- ---- the table of a key

-- the table at an index has the shape that is compatible with it
at_index : (schema : List Shape) (kept : List Bool) (table : ℕ) (shape : Shape) → of_table schema kept table shape
    ≡ true
    → get_or schema table (record { name = []; flags = [] }) ≡ shape
at_index schema kept table shape e = go (compatible schema kept shape) refl e
  where
    go : (o : Option ℕ) → compatible schema kept shape ≡ o → at_table table o ≡ true
        → get_or schema table (record { name = []; flags = [] }) ≡ shape
    go None is e = absurd (false≢true e)
    go (Some i) is e =
        let same : i ≡ table = (Decides-eqb i table).0 e in
        let found : table_index schema shape ≡ Some i = kept_at kept (table_index schema shape) i is in
        let there = position-Some (λ t. same_shape t shape) schema i (record { name = []; flags = [] }) found in
        ap (λ n. get_or schema n (record { name = []; flags = [] })) (sym same)
        ∙ same_is (get_or schema i (record { name = []; flags = [] })) shape there.1

pub one_shape : (schema : List Shape) (kept : List Bool) (table : ℕ) → IsOne (of_table schema kept table)
one_shape schema kept table a b e f = sym (at_index schema kept table a e) ∙ at_index schema kept table b f

pub flags_of_table : (schema : List Shape) (kept : List Bool) (table : ℕ)
    → HasTableFlags schema kept table (table_flags schema table)
flags_of_table schema kept table shape e = ap (λ (s : Shape). s.flags) (sym (at_index schema kept table shape e))

-- ---- the changes of a table, in sections

named_changes : (P : Shape → Bool) (shape : Shape) (changes : List Change)
    → map (λ (x : NamedChange). x.1) (filter (λ (x : NamedChange). P x.0) (map (λ change. (shape, change)) changes))
    ≡ cond (P shape) changes []
named_changes P shape [] = go (P shape)
  where
    none : List Change
    none = []

    go : (b : Bool) → none ≡ cond b none none
    go true = refl
    go false = refl
named_changes P shape (change ∷ changes) = go (P shape) (named_changes P shape changes)
  where
    go : (b : Bool) → map (λ (x : NamedChange). x.1)
        (filter (λ (x : NamedChange). P x.0) (map (λ c. (shape, c)) changes))
        ≡ cond b changes []
        → map (λ (x : NamedChange). x.1) (cond b ((shape, change) ∷ filter (λ (x : NamedChange). P x.0)
        (map (λ c. (shape, c)) changes))
        (filter (λ (x : NamedChange). P x.0) (map (λ c. (shape, c)) changes))) ≡ cond b (change ∷ changes) []
    go true same = ap (λ cs. change ∷ cs) same
    go false same = same

pub seen_of : (P : Shape → Bool) (sections : List Section)
    → map (λ (x : NamedChange). x.1) (filter (λ (x : NamedChange). P x.0) (changes_of sections)) ≡ all_with P sections
seen_of P [] = refl
seen_of P (section ∷ sections) =
    ap (λ xs. map (λ (x : NamedChange). x.1) xs) (filter-append (λ (x : NamedChange). P x.0)
    (map (λ change. (section.shape, change)) section.changes) (changes_of sections))
    ∙ map-append (λ (x : NamedChange). x.1) (filter (λ (x : NamedChange). P x.0)
    (map (λ change. (section.shape, change)) section.changes))
    (filter (λ (x : NamedChange). P x.0) (changes_of sections))
    ∙ (λ i. named_changes P section.shape section.changes i ++ seen_of P sections i)
    ∙ go (P section.shape)
  where
    go : (b : Bool) → cond b section.changes [] ++ all_with P sections
        ≡ all_changes (cond b (section ∷ filter (has_such_shape P) sections) (filter (has_such_shape P) sections))
    go true = refl
    go false = refl

-- ---- changes that fit their table

pub valid_of_table : (P : Shape → Bool) (flags : List ℕ) → ((s : Shape) → P s ≡ true → s.flags ≡ flags)
    → (sections : List Section)
    → IsChangeset sections → AreValidChanges flags (all_with P sections)
valid_of_table P flags own [] is = tt
valid_of_table P flags own (section ∷ sections) is = go (P section.shape) refl
    (valid_of_table P flags own sections is.1)
  where
    go : (b : Bool) → P section.shape ≡ b → AreValidChanges flags (all_with P sections)
        → AreValidChanges flags (all_changes (cond b (section ∷ filter (has_such_shape P) sections)
        (filter (has_such_shape P) sections)))
    go true e rest = all_append (IsValidChange flags) section.changes (all_with P sections)
        (subst (λ fs. AreValidChanges fs section.changes) (own section.shape e) is.0.1) rest
    go false e rest = rest

-- ---- the law

pub long_at : (old : TableState) → HaveColumns old → (key : RowKey)
    → IsLongRow (table_flags old.schema key.table) (map.get old.rows key)
long_at old have key = go (map.get old.rows key) refl
  where
    go : (row : Option Row) → map.get old.rows key ≡ row → IsLongRow (table_flags old.schema key.table) row
    go None e = tt
    go (Some row) e = have key row e

-- a key's row is what the key's changes make of it, also those of the group
key_law : Packing → (old : TableState) (rows : Rows) (sections : List Section) → IsChangeset sections → HaveColumns old
    → single_from old.schema old.kept (changes_of sections) 0 old.rows ≡ Ok rows → (key : RowKey)
    → on_named (filter (touch old.schema old.kept key) (changes_of (group_of sections))) (map.get old.rows key)
    ≡ Some (map.get rows key)
key_law packing old rows sections is have e key =
    let schema = old.schema in
    let kept = old.kept in
    let flags = table_flags schema key.table in
    let own = flags_of_table schema kept key.table in
    let first = map.get old.rows key in
    let here = λ (xs : List Section). named_is schema kept flags key own (changes_of xs) first
    ∙ ap (λ cs. on_list flags (mine flags key.bytes cs) first) (seen_of (of_table schema kept key.table) xs) in
    let each = sym (here sections) ∙ each_applies schema kept (changes_of sections) 0 old.rows rows key e in
    here (group_of sections)
    ∙ ap (λ cs. on_list flags (mine flags key.bytes cs) first)
    (group_by_table (of_table schema kept key.table) flags (one_shape schema kept key.table) own sections)
    ∙ combined_has_effect packing flags key.bytes (all_with (of_table schema kept key.table) sections) first
    (map.get rows key)
    (valid_of_table (of_table schema kept key.table) flags own sections is) (long_at old have key) each

pub group_applies : Packing → (old new : TableState) (sections : List Section) → IsChangeset sections → HaveColumns old
    → single old sections ≡ Ok new → single old (group_of sections) ≡ Ok new
group_applies packing old new sections is have e =
    let f = rows_found old (single_from old.schema old.kept (changes_of sections) 0 old.rows) new e in
    let g = all_apply old.schema old.kept (changes_of (group_of sections)) 0 old.rows (λ key. map.get f.0 key)
    (key_law packing old f.0 sections is have f.1) in
    let same : g.0 ≡ f.0 = map.same_map keys_total exact_keys g.0 f.0 g.2 in
    ap (with_rows old) (g.1 ∙ ap (λ r. Ok r) same) ∙ ap (λ t. Ok t) f.2

-- it conflicts only where they do
pub group_conflicts : Packing → (old : TableState) (sections : List Section) (conflict : Conflict)
    → IsChangeset sections
    → HaveColumns old → single old (group_of sections) ≡ Err conflict → (other : Conflict)
    × (single old sections ≡ Err other)
group_conflicts packing old sections conflict is have e = go (single old sections) refl
  where
    go : (r : Result TableState Conflict) → single old sections ≡ r → (other : Conflict) × (r ≡ Err other)
    go (Err other) one = (other, refl)
    go (Ok new) one =
        let both : Ok new ≡ Err conflict = sym (group_applies packing old new sections is have one) ∙ e in absurd cc
