-- The law of withdrawals: a withdrawal takes back its changeset and leaves what others did that change no row of it.
use Rattle.std.proofs.Common.{◌≡◌, ◌∙◌, Bool, List, Option, Some, None, Ok, map as list_map}
use Rattle.std.proofs.Common.{refl, ap, sym, subst}
use Rattle.std.specs.Prelude.{filter}
use Rattle.std.specs.FinMap as map
use Rattle.cs_model.specs.declared.change.Change.{Change}
use Rattle.cs_model.specs.declared.row_key.RowKey.{RowKey}
use Rattle.cs_model.specs.declared.shape.Shape.{Shape}
use Rattle.cs_model.specs.Changeset.{IsChangeset}
use Rattle.cs_model.specs.Section.{Section}
use Rattle.cs_apply.specs.Columns.{HaveColumns, table_flags}
use Rattle.cs_apply.specs.Single.{changes_of, single, single_from, with_rows}
use Rattle.cs_apply.specs.State.{Rows, TableState}
use Rattle.cs_apply.proofs.rows_by_key.Keys.{exact_keys, keys_total}
use Rattle.cs_apply.proofs.effects.OneByOne.{rows_found, with}
use Rattle.cs_group.specs.Group.{group_of, left_of}
use Rattle.cs_group.proofs.one_row.Effects.{Row}
use Rattle.cs_group.proofs.all_tables.Fitting.{group_fits}
use Rattle.cs_group.proofs.all_tables.Keyed.{each_applies, on_named, touch}
use Rattle.cs_group.proofs.all_tables.Law.{flags_of_table, group_applies, long_at, one_shape, seen_of, valid_of_table}
use Rattle.cs_group.proofs.one_row.OneRow.{Packing, on_list}
use Rattle.cs_group.proofs.all_tables.Tables.{all_with, group_by_table}
use Rattle.cs_group.proofs.one_row.Through.{AreValidChanges, as_list, mine, mine_combined}
use Rattle.cs_group.proofs.all_tables.Together.{all_apply, named_is, of_table}
use Rattle.cs_invert.specs.Inverse.{AreApart, inverse_change, withdrawal_of}
use Rattle.cs_invert.proofs.withdrawals.KeyBack.{mine_if_valid, one_of_both, row_taken_back, row_of_inverse}

-- ---- the changes of a key

-- the changes of a key, as those of its table that are of its row
abbrev of_key : List Shape → List Bool → RowKey → List Section → List Change
of_key schema kept key sections =
    mine (table_flags schema key.table) key.bytes (all_with (of_table schema kept key.table) sections)

key_changes : (schema : List Shape) (kept : List Bool) (key : RowKey) (sections : List Section) (row : Option Row)
    → on_named (filter (touch schema kept key) (changes_of sections)) row
    ≡ on_list (table_flags schema key.table) (of_key schema kept key sections) row
key_changes schema kept key sections row =
    named_is schema kept (table_flags schema key.table) key (flags_of_table schema kept key.table)
    (changes_of sections) row
    ∙ ap (λ cs. on_list (table_flags schema key.table) (mine (table_flags schema key.table) key.bytes cs) row)
    (seen_of (of_table schema kept key.table) sections)

-- what the changes of a key come to
abbrev left_of_key : List Shape → List Bool → RowKey → List Section → Option Change
left_of_key schema kept key sections = left_of (table_flags schema key.table) key.bytes None
    (all_with (of_table schema kept key.table) sections)

-- a group has that change, or none
group_of_key : (schema : List Shape) (kept : List Bool) (key : RowKey) (sections : List Section) → IsChangeset sections
    → of_key schema kept key (group_of sections) ≡ as_list (left_of_key schema kept key sections)
group_of_key schema kept key sections is =
    let flags = table_flags schema key.table in
    let own = flags_of_table schema kept key.table in
    let P = of_table schema kept key.table in
    ap (mine flags key.bytes) (group_by_table P flags (one_shape schema kept key.table) own sections)
    ∙ mine_combined flags key.bytes (all_with P sections) (valid_of_table P flags own sections is)

group_is_valid : (schema : List Shape) (kept : List Bool) (key : RowKey) (sections : List Section)
    → IsChangeset sections
    → AreValidChanges (table_flags schema key.table) (all_with (of_table schema kept key.table) (group_of sections))
group_is_valid schema kept key sections is =
    valid_of_table (of_table schema kept key.table) (table_flags schema key.table)
    (flags_of_table schema kept key.table) (group_of sections) (group_fits sections is)

-- ---- a key's row

abbrev KeepsOthers : TableState → List Section → List Section → Rows → RowKey → Type 0
KeepsOthers old sections others new key = (last : Option Row)
    × (on_named (filter (touch old.schema old.kept key) (changes_of others)) (map.get old.rows key) ≡ Some last)
    × (on_named (filter (touch old.schema old.kept key) (changes_of (withdrawal_of sections))) (map.get new key)
    ≡ Some last)

key_back : (old : TableState) (mid new : Rows) (sections others : List Section) → IsChangeset sections
    → HaveColumns old → AreApart sections others
    → single_from old.schema old.kept (changes_of sections) 0 old.rows ≡ Ok mid
    → single_from old.schema old.kept (changes_of (group_of sections)) 0 old.rows ≡ Ok mid
    → single_from old.schema old.kept (changes_of others) 0 mid ≡ Ok new
    → (key : RowKey) → KeepsOthers old sections others new key
key_back old mid new sections others is have apart one group two key =
    let schema = old.schema in
    let kept = old.kept in
    let flags = table_flags schema key.table in
    let own = flags_of_table schema kept key.table in
    let P = of_table schema kept key.table in
    let valid = group_is_valid schema kept key sections is in
    let combined = group_of_key schema kept key sections is in
    let back = row_taken_back flags key.bytes (all_with P sections) (of_key schema kept key sections)
    (of_key schema kept key others) (of_key schema kept key (withdrawal_of sections)) (map.get old.rows key)
    (map.get mid key) (map.get new key) refl
    (subst (AreValidChanges flags) combined
    (mine_if_valid flags key.bytes (all_with P (group_of sections)) valid))
    (long_at old have key)
    (row_of_inverse P flags key.bytes own (group_of sections) valid ∙ ap (list_map (inverse_change flags)) combined)
    (sym (key_changes schema kept key sections (map.get old.rows key))
    ∙ each_applies schema kept (changes_of sections) 0 old.rows mid key one)
    (sym (ap (λ cs. on_list flags cs (map.get old.rows key)) combined)
    ∙ sym (key_changes schema kept key (group_of sections) (map.get old.rows key))
    ∙ each_applies schema kept (changes_of (group_of sections)) 0 old.rows mid key group)
    (sym (key_changes schema kept key others (map.get mid key))
    ∙ each_applies schema kept (changes_of others) 0 mid new key two)
    (one_of_both P flags key.bytes (one_shape schema kept key.table) own sections others apart) in (
      back.0,
      key_changes schema kept key others (map.get old.rows key) ∙ back.1,
      key_changes schema kept key (withdrawal_of sections) (map.get new key) ∙ back.2,
    )

-- ---- the law

-- the group leaves the rows that its sections leave
group_rows : Packing → (old mid : TableState) (sections : List Section) → IsChangeset sections → HaveColumns old
    → single old sections ≡ Ok mid → (rows : Rows) → with old rows ≡ mid
    → single_from old.schema old.kept (changes_of (group_of sections)) 0 old.rows ≡ Ok rows
group_rows packing old mid sections is have e rows same =
    let f = rows_found old (single_from old.schema old.kept (changes_of (group_of sections)) 0 old.rows) mid
    (group_applies packing old mid sections is have e) in
    f.1 ∙ ap (λ (t : TableState). Ok t.rows) (f.2 ∙ sym same)

withdrawing_rows : (old : TableState) (mid new : Rows) (sections others : List Section) → IsChangeset sections
    → HaveColumns old → AreApart sections others
    → single_from old.schema old.kept (changes_of sections) 0 old.rows ≡ Ok mid
    → single_from old.schema old.kept (changes_of (group_of sections)) 0 old.rows ≡ Ok mid
    → single_from old.schema old.kept (changes_of others) 0 mid ≡ Ok new
    → (last : Rows) × (single_from old.schema old.kept (changes_of others) 0 old.rows ≡ Ok last)
    × (single_from old.schema old.kept (changes_of (withdrawal_of sections)) 0 new ≡ Ok last)
withdrawing_rows old mid new sections others is have apart one group two =
    let back = key_back old mid new sections others is have apart one group two in
    let f = all_apply old.schema old.kept (changes_of others) 0 old.rows (λ key. (back key).0) (λ key. (back key).1) in
    let g = all_apply old.schema old.kept (changes_of (withdrawal_of sections)) 0 new (λ key. (back key).0)
    (λ key. (back key).2) in
    let same : g.0 ≡ f.0 = map.same_map keys_total exact_keys g.0 f.0 (λ key. g.2 key ∙ sym (f.2 key)) in
    (f.0, f.1, g.1 ∙ ap (λ (r : Rows). Ok r) same)

pub withdrawing_takes_back : Packing → (old mid new : TableState) (sections others : List Section)
    → IsChangeset sections → HaveColumns old → single old sections ≡ Ok mid → single mid others ≡ Ok new
    → AreApart sections others
    → (last : TableState) × (single old others ≡ Ok last) × (single new (withdrawal_of sections) ≡ Ok last)
withdrawing_takes_back packing old mid new sections others is have one two apart =
    let f = rows_found old (single_from old.schema old.kept (changes_of sections) 0 old.rows) mid one in
    let g = rows_found (with old f.0) (single_from old.schema old.kept (changes_of others) 0 f.0) new
    (ap (λ (t : TableState). single t others) f.2 ∙ two) in
    let last = withdrawing_rows old f.0 g.0 sections others is have apart f.1
    (group_rows packing old mid sections is have one f.0 f.2) g.1 in (
      with old last.0,
      ap (with_rows old) last.1,
      ap (λ (t : TableState). single t (withdrawal_of sections)) (sym g.2)
          ∙ ap (with_rows (with (with old f.0) g.0)) last.2,
    )
