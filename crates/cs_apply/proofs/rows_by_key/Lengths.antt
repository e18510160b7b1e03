-- Applied changes leave rows with one value for each column.
use Rattle.std.proofs.Common.{◌≡◌, ◌∙◌, ℕ, suc, Bool, true, false, cond, eqb, List, [], ◌∷◌, length, map as list_map}
use Rattle.std.proofs.Common.{Option, Some, None, Result, Ok, Err, refl, ap, sym, subst, take, take_all, arith}
use Rattle.std.proofs.lemmas.Bool.{and_parts, false≢true}
use Rattle.std.proofs.lemmas.List.Quantifiers.{position-Some}
use Rattle.std.specs.Prelude.{OnOk, get_or, is_ok}
use Rattle.std.specs.List.{AllByRecursion}
use Rattle.std.specs.Cmp.Lexicographic.{same_text}
use Rattle.std.specs.FinMap as map
use Rattle.cs_model.specs.declared.value.Value.{Value}
use Rattle.cs_model.specs.declared.value.Field.{Field}
use Rattle.cs_model.specs.declared.value.Field.TheVariants.{Undefined, Is}
use Rattle.cs_model.specs.declared.change.Change.{Change}
use Rattle.cs_model.specs.declared.change.Op.{Op}
use Rattle.cs_model.specs.declared.change.Op.TheVariants.{Insert, Update, Delete}
use Rattle.cs_model.specs.declared.row_key.RowKey.{RowKey}
use Rattle.cs_model.specs.declared.shape.Shape.{Shape}
use Rattle.cs_model.specs.Changeset.{AreRecords, IsChange, IsChangeset, Obeys}
use Rattle.cs_model.specs.Key.{key_of, row_key_cmp}
use Rattle.cs_model.specs.Row.{values_of}
use Rattle.cs_model.specs.Rule.{Given, Key, meets, new_rules, old_rule, row_rule}
use Rattle.cs_model.specs.Schema.{same_bytes, same_shape, table_index}
use Rattle.cs_model.specs.Section.{Section}
use Rattle.cs_model.proofs.CallerLemmas.{all_append}
use Rattle.cs_apply.specs.declared.conflict.ConflictKind.{ConflictKind}
use Rattle.cs_apply.specs.declared.conflict.ConflictKind.TheVariants.{Data}
use Rattle.cs_apply.specs.Columns.{HaveColumns, RowsHaveColumns, table_flags}
use Rattle.cs_apply.specs.Effect.{all_agree, changed, deleted, effect_by, inserted, rest_agrees, updated}
use Rattle.cs_apply.specs.Single.{changes_of, effect_at, single, single_from}
use Rattle.cs_apply.specs.State.{Rows, TableState, compatible, is_kept, only_kept}
use Rattle.cs_apply.specs.declared.conflict.ApplyError.{ApplyError}
use Rattle.cs_apply.specs.declared.places.Places.{Places}
use Rattle.cs_apply.specs.Steps.{Back, Entries, rows_of, undone}
use Rattle.cs_apply.proofs.stored.PlaceLaws.{put_keeps_columns}
use Rattle.cs_apply.proofs.effects.OneByOne.{OneByOneNamed, front_found, one_by_one_none_left, rows_found}

-- ---- the values of records

given_or_key : (outside : Bool) → meets (cond outside Given Key) Undefined ≡ true → ⊥
given_or_key true e = false≢true e
given_or_key false e = false≢true e

values_long : (flags : List ℕ) (fields : List Field) → Obeys (list_map row_rule flags) fields
    → length (values_of fields) ≡ length flags
values_long [] [] r = refl
values_long [] (field ∷ fields) r = elim r [ ]
values_long (flag ∷ flags) [] r = elim r [ ]
values_long (flag ∷ flags) (Undefined ∷ fields) r = absurd (given_or_key (eqb flag 0) r.1)
values_long (flag ∷ flags) (Is value ∷ fields) r = ap suc (values_long flags fields r.2)

updated_long : (flags : List ℕ) (before after : List Field) (row : List Value) → Obeys (list_map old_rule flags) before
    → Obeys (new_rules flags before) after → length row ≡ length flags → length (updated after row) ≡ length flags
updated_long [] [] [] row o n l = l
updated_long [] [] (new ∷ after) row o n l = elim n [ ]
updated_long [] (old ∷ before) after row o n l = elim o [ ]
updated_long (flag ∷ flags) [] after row o n l = elim o [ ]
updated_long (flag ∷ flags) (old ∷ before) [] row o n l = elim n [ ]
updated_long (flag ∷ flags) (old ∷ before) (new ∷ after) [] o n l = absurd cc
updated_long (flag ∷ flags) (old ∷ before) (new ∷ after) (value ∷ row) o n l =
    ap suc (updated_long flags before after row o.2 n.2 (cc l))

-- ---- one change

made_if : (b : Bool) (made : Rows) (why : ConflictKind) (new : Rows) → cond b (Ok made) (Err why) ≡ Ok new → made ≡ new
made_if true made why new e = cc e
made_if false made why new e = absurd cc

effect_keeps : (schema : List Shape) (op : Op) (rows : Rows) (key : RowKey) (flags : List ℕ) (before after : List Field)
    (there : Option (List Value)) (new : Rows) → RowsHaveColumns schema rows → map.get rows key ≡ there
    → table_flags schema key.table ≡ flags → AreRecords flags op before after
    → effect_by op rows key flags before after ≡ Ok new → RowsHaveColumns schema new
effect_keeps schema Insert rows key flags before after None new have is own r e =
    let made : map.insert rows key (values_of after) ≡ new =
    cc (sym (ap (inserted rows key (values_of after)) is) ∙ e) in
    subst (RowsHaveColumns schema) made
    (put_keeps_columns schema rows key (Some (values_of after)) have
    (values_long flags after r.1 ∙ ap length (sym own)))
effect_keeps schema Insert rows key flags before after (Some row) new have is own r e =
    absurd (let no = sym (ap (inserted rows key (values_of after)) is) ∙ e in cc)
effect_keeps schema Update rows key flags before after None new have is own r e =
    absurd (let no = sym (ap (changed rows key flags before after) is) ∙ e in cc)
effect_keeps schema Update rows key flags before after (Some row) new have is own r e =
    let made = made_if (rest_agrees flags before row) (map.insert rows key (updated after row)) Data new
    (sym (ap (changed rows key flags before after) is) ∙ e) in
    let long = have key row is ∙ ap length own in
    subst (RowsHaveColumns schema) made
    (put_keeps_columns schema rows key (Some (updated after row)) have
    (updated_long flags before after row r.0 r.1 long ∙ ap length (sym own)))
effect_keeps schema Delete rows key flags before after None new have is own r e =
    absurd (let no = sym (ap (deleted rows key before) is) ∙ e in cc)
effect_keeps schema Delete rows key flags before after (Some row) new have is own r e =
    let made = made_if (all_agree before row) (map.remove rows key) Data new
    (sym (ap (deleted rows key before) is) ∙ e) in
    subst (RowsHaveColumns schema) made (put_keeps_columns schema rows key None have tt)

-- ---- the compatible table

pub kept_at : (kept : List Bool) (o : Option ℕ) (table : ℕ) → only_kept kept o ≡ Some table → o ≡ Some table
kept_at kept None table e = absurd cc
kept_at kept (Some i) table e = go (is_kept kept i) e
  where
    go : (b : Bool) → cond b (Some i) None ≡ Some table → Some i ≡ Some table
    go true e = e
    go false e = absurd cc

flags_of_compatible : (schema : List Shape) (kept : List Bool) (table : ℕ) (shape : Shape)
    → compatible schema kept shape ≡ Some table → table_flags schema table ≡ shape.flags
flags_of_compatible schema kept table shape e =
    let found : table_index schema shape ≡ Some table = kept_at kept (table_index schema shape) table e in
    let there = get_or schema table (record { name = []; flags = [] }) in
    let is = position-Some (λ t. same_shape t shape) schema table (record { name = []; flags = [] }) found in
    same_text there.flags shape.flags
    (sym (and_parts (same_bytes there.name shape.name) (same_bytes there.flags shape.flags) is.1).1)

-- ---- all changes

abbrev FitsItsShape : OneByOneNamed → Type 0
FitsItsShape x = IsChange x.0 x.1

named_valid : (shape : Shape) (changes : List Change) → AllByRecursion (IsChange shape) changes
    → AllByRecursion FitsItsShape (list_map (λ change. (shape, change)) changes)
named_valid shape [] all = tt
named_valid shape (change ∷ changes) all = (all.0, named_valid shape changes all.1)

all_valid : (sections : List Section) → IsChangeset sections → AllByRecursion FitsItsShape (changes_of sections)
all_valid [] valid = tt
all_valid (section ∷ sections) valid =
    all_append FitsItsShape (list_map (λ change. (section.shape, change)) section.changes) (changes_of sections)
    (named_valid section.shape section.changes valid.0.1) (all_valid sections valid.1)

one_keeps : (schema : List Shape) (kept : List Bool) (o : Option ℕ) (x : OneByOneNamed) (rows new : Rows)
    → compatible schema kept x.0 ≡ o → FitsItsShape x → RowsHaveColumns schema rows → effect_at o rows x.0 x.1 ≡ Ok new
    → RowsHaveColumns schema new
one_keeps schema kept None x rows new is valid have e =
    let same : rows ≡ new = cc e in subst (RowsHaveColumns schema) same have
one_keeps schema kept (Some table) x rows new is valid have e =
    let key = key_of table x.0.flags x.1 in
    effect_keeps schema x.1.op rows key x.0.flags x.1.before x.1.after (map.get rows key) new have refl
    (flags_of_compatible schema kept table x.0 is) valid e

all_keep : (schema : List Shape) (kept : List Bool) (xs : List OneByOneNamed) (at : ℕ) (rows new : Rows)
    → AllByRecursion FitsItsShape xs → RowsHaveColumns schema rows → single_from schema kept xs at rows ≡ Ok new
    → RowsHaveColumns schema new
all_keep schema kept [] at rows new valid have e =
    let same : rows ≡ new = cc (sym (one_by_one_none_left schema kept at rows) ∙ e) in
    subst (RowsHaveColumns schema) same have
all_keep schema kept (x ∷ xs) at rows new valid have e =
    let f = front_found schema kept x xs at rows new e in
    all_keep schema kept xs (suc at) f.0 new valid.1
    (one_keeps schema kept (compatible schema kept x.0) x rows f.0 refl valid.0 have f.1) f.2

pub columns_kept : (old new : TableState) (sections : List Section) → IsChangeset sections → HaveColumns old
    → single old sections ≡ Ok new → HaveColumns new
columns_kept old new sections valid have e =
    let f = rows_found old (single_from old.schema old.kept (changes_of sections) 0 old.rows) new e in
    subst HaveColumns f.2
    (all_keep old.schema old.kept (changes_of sections) 0 old.rows f.0 (all_valid sections valid) have f.1)

-- ---- tables

pub none_have : (schema : List Shape) (entries : Entries) → entries ≡ [] → RowsHaveColumns schema (rows_of entries)
none_have schema entries none =
    subst (λ (es : Entries). RowsHaveColumns schema (rows_of es)) (sym none) nothing
  where
    nothing : RowsHaveColumns schema (rows_of [])
    nothing key row found = absurd (let no = sym (map.get-empty row_key_cmp key) ∙ found in cc)

pub apply_keeps : (schema given : List Shape) (kept : List Bool) (sections : List Section)
    (r : Result (Unit {0}) ApplyError) (old new last : Rows) → given ≡ schema → IsChangeset sections
    → RowsHaveColumns schema old → OnOk r (single_from given kept (changes_of sections) 0 old ≡ Ok new)
    → is_ok r ≡ true → last ≡ new → RowsHaveColumns schema last
apply_keeps schema given kept sections (Err e) old new last is valid have ok applied same = absurd cc
apply_keeps schema given kept sections (Ok done) old new last is valid have ok applied same =
    let first = subst (λ (s : List Shape). RowsHaveColumns s old) (sym is) have in
    let after = all_keep given kept (changes_of sections) 0 old new (all_valid sections valid) first ok in
    subst (λ (s : List Shape). RowsHaveColumns s last) is (subst (RowsHaveColumns given) (sym same) after)

pub all_taken_back : (old new : Places) (places : ℕ) (last : Entries) → Back old new → old.log.items ≡ []
    → places ≡ length old.rows.entries → last ≡ take places (undone new.log.items new.rows.entries)
    → last ≡ old.rows.entries
all_taken_back old new places last back empty counted is =
    let n = length old.rows.entries in
    is ∙ ap (λ m. take m (undone new.log.items new.rows.entries)) counted
    ∙ back.back n (omega arith)
    ∙ ap (λ log. take n (undone log old.rows.entries)) empty
    ∙ take_all n old.rows.entries (omega arith)
