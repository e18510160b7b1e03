-- Places and the tables that they show: what a look-up finds, and what an edit at one key does to rows and held keys.
use Rattle.std.proofs.Common.{◌≡◌, ◌∙◌, Bool, true, false, cond, not, ◌&&◌, ◌||◌, List, [], ◌∷◌}
use Rattle.std.proofs.Common.{Option, Some, None, is_some, IfSome, length, refl, ap, sym, subst}
use Rattle.std.proofs.lemmas.Bool.{false≢true}
use Rattle.std.specs.FinMap as map
use Rattle.std.specs.FinSet as set
use Rattle.std.specs.List.{IsDistinct}
use Rattle.std.specs.Map.{lookup, keys_of}
use Rattle.std.proofs.lemmas.Map.{lookup-none}
use Rattle.std.proofs.lemmas.Map.Entries.{none_past_head}
use Rattle.std.proofs.lemmas.Map.Keys.{IsDistinct-tail}
use Rattle.cs_model.specs.declared.row_key.RowKey.{RowKey}
use Rattle.cs_model.specs.declared.shape.Shape.{Shape}
use Rattle.cs_model.specs.declared.value.Value.{Value}
use Rattle.cs_model.specs.Key.{row_key_cmp}
use Rattle.cs_apply.specs.Columns.{RowsHaveColumns, table_flags}
use Rattle.cs_apply.specs.Held.{CanHoldRow, HeldState, KeyHasPlace, KeySet}
use Rattle.cs_apply.specs.Held.{held_also, held_keys, is_key_placed, with_row}
use Rattle.cs_apply.specs.SameKey.{IsEditAt}
use Rattle.cs_apply.specs.State.{Rows}
use Rattle.cs_apply.specs.Steps.{Entries, put, rows_of}
use Rattle.cs_apply.proofs.stored.Filled.{row_in, get_row, get_put}
use Rattle.cs_apply.proofs.rows_by_key.Keys.{same_key, exact, exact_keys, keys_total, laws, tied}

abbrev RowValues : Type 0
RowValues = List Value

-- ---- what a look-up finds

-- whether a place that was looked up is there and empty
abbrev pub is_empty_place : Option (Option RowValues) → Bool
is_empty_place None = false
is_empty_place (Some None) = true
is_empty_place (Some (Some row)) = false

-- the held keys are those of the empty places
pub held_found : (es : Entries) (q : RowKey) → IsDistinct same_key (keys_of es) → set.contains (held_keys es) q
    ≡ is_empty_place (lookup (same_key q) es)
held_found [] q distinct = set.contains-empty row_key_cmp q
held_found ((k, None) ∷ es) q distinct =
    set.contains-insert keys_total (held_keys es) k q
    ∙ (λ i. tied q k i || held_found es q (IsDistinct-tail same_key k (keys_of es) distinct) i)
    ∙ by (same_key q k) (lookup (same_key q) es)
  where
    by : (b : Bool) (r : Option (Option RowValues)) → (b || is_empty_place r) ≡ is_empty_place (cond b (Some None) r)
    by true r = refl
    by false r = refl
held_found ((k, Some row) ∷ es) q distinct =
    by (same_key q k) refl (held_found es q (IsDistinct-tail same_key k (keys_of es) distinct))
  where
    by : (b : Bool) → same_key q k ≡ b → set.contains (held_keys es) q ≡ is_empty_place (lookup (same_key q) es)
        → set.contains (held_keys es) q ≡ is_empty_place (cond b (Some (Some row)) (lookup (same_key q) es))
    by true e h = h
        ∙ ap is_empty_place (lookup-none (same_key q) es (none_past_head laws q (k, Some row) es distinct e))
    by false e h = h

-- ---- an edit at one key

row_of_cond : (b : Bool) (w r : Option (Option RowValues)) → row_in (cond b w r) ≡ cond b (row_in w) (row_in r)
row_of_cond true w r = refl
row_of_cond false w r = refl

-- the rows differ at this key
pub rows_differ : (es fs : Entries) (key : RowKey) (w : Option (Option RowValues)) → IsDistinct same_key (keys_of es)
    → IsDistinct same_key (keys_of fs) → IsEditAt es fs key w → rows_of fs ≡ put (rows_of es) key (row_in w)
rows_differ es fs key w one other differs =
    map.same_map keys_total exact_keys (rows_of fs) (put (rows_of es) key (row_in w))
    (λ q.
    get_row fs q other ∙ ap row_in (differs q) ∙ row_of_cond (same_key key q) w (lookup (same_key q) es)
    ∙ (λ i. cond (laws.symm key q i) (row_in w) (sym (get_row es q one) i))
    ∙ sym (get_put (rows_of es) key q (row_in w)))

-- held keys with one key in or out
abbrev pub held_or_not : Bool → KeySet → RowKey → KeySet
held_or_not true held key = set.insert held key
held_or_not false held key = set.remove held key

held_with_found : (empty : Bool) (held : KeySet) (key q : RowKey) → set.contains (held_or_not empty held key) q
    ≡ cond (same_key q key) empty (set.contains held q)
held_with_found empty held key q = by empty
  where
    either_true : (b c : Bool) → (b || c) ≡ cond b true c
    either_true true c = refl
    either_true false c = refl

    both_false : (b c : Bool) → (not b && c) ≡ cond b false c
    both_false true c = refl
    both_false false c = refl

    by : (e : Bool) → set.contains (held_or_not e held key) q ≡ cond (same_key q key) e (set.contains held q)
    by true = set.contains-insert keys_total held key q ∙ (λ i. tied q key i || set.contains held q)
        ∙ either_true (same_key q key) (set.contains held q)
    by false = set.contains-remove keys_total held key q ∙ (λ i. not (tied q key i) && set.contains held q)
        ∙ both_false (same_key q key) (set.contains held q)

empty_of_cond : (b : Bool) (w r : Option (Option RowValues)) → is_empty_place (cond b w r)
    ≡ cond b (is_empty_place w) (is_empty_place r)
empty_of_cond true w r = refl
empty_of_cond false w r = refl

-- and so do the held keys
pub held_differ : (es fs : Entries) (key : RowKey) (w : Option (Option RowValues)) → IsDistinct same_key (keys_of es)
    → IsDistinct same_key (keys_of fs) → IsEditAt es fs key w
    → held_keys fs ≡ held_or_not (is_empty_place w) (held_keys es) key
held_differ es fs key w one other differs =
    set.same_set keys_total exact_keys (held_keys fs) (held_or_not (is_empty_place w) (held_keys es) key)
    (λ q.
    held_found fs q other ∙ ap is_empty_place (differs q) ∙ empty_of_cond (same_key key q) w (lookup (same_key q) es)
    ∙ (λ i. cond (laws.symm key q i) (is_empty_place w) (sym (held_found es q one) i))
    ∙ sym (held_with_found (is_empty_place w) (held_keys es) key q))

-- rows keep a value for each column
pub put_keeps_columns : (schema : List Shape) (rows : Rows) (key : RowKey) (row : Option RowValues)
    → RowsHaveColumns schema rows → IfSome row (λ values. length values ≡ length (table_flags schema key.table))
    → RowsHaveColumns schema (put rows key row)
put_keeps_columns schema rows key row have long q values found =
    by (same_key q key) refl (sym (get_put rows key q row) ∙ found)
  where
    by : (b : Bool) → same_key q key ≡ b → cond b row (map.get rows q) ≡ Some values
        → length values ≡ length (table_flags schema q.table)
    by true same e =
        subst (λ (k : RowKey). length values ≡ length (table_flags schema k.table)) (sym (exact q key same))
        (subst (λ (r : Option RowValues). IfSome r (λ vs. length vs ≡ length (table_flags schema key.table))) e long)
    by false same e = have q values e

-- ---- the tables that places show

abbrev pub shown_by : List Shape → List Bool → Entries → HeldState
shown_by schema kept es = record {
  state = record { schema = schema; kept = kept; rows = rows_of es };
  held = held_keys es;
}

module _ (schema : List Shape) (kept : List Bool) where
  same_parts : (rows more : Rows) (held also : KeySet) → rows ≡ more → held ≡ also → ◌≡◌ {A = HeldState}
      (record { state = record { schema = schema; kept = kept; rows = rows }; held = held })
      (record { state = record { schema = schema; kept = kept; rows = more }; held = also })
  same_parts rows more held also r h =
      λ i. record { state = record { schema = schema; kept = kept; rows = r i }; held = h i }

  -- a row set at a key, or the key taken out
  pub edit_shown : (es fs : Entries) (key : RowKey) (w : Option (Option RowValues)) → is_empty_place w ≡ false
      → IsDistinct same_key (keys_of es) → IsDistinct same_key (keys_of fs) → IsEditAt es fs key w
      → shown_by schema kept fs ≡ with_row (shown_by schema kept es) key (row_in w)
  edit_shown es fs key w full one other differs =
      same_parts (rows_of fs) (put (rows_of es) key (row_in w)) (held_keys fs) (set.remove (held_keys es) key)
      (rows_differ es fs key w one other differs)
      (held_differ es fs key w one other differs ∙ ap (λ b. held_or_not b (held_keys es) key) full)

  -- a key without a place has no row to take out
  pub nothing_out : (es : Entries) (key : RowKey) → IsDistinct same_key (keys_of es) → lookup (same_key key) es ≡ None
      → map.remove (rows_of es) key ≡ rows_of es
  nothing_out es key one none = map.same_map keys_total exact_keys (map.remove (rows_of es) key) (rows_of es)
      (λ q. get_put (rows_of es) key q None ∙ by q (same_key q key) refl)
    where
      by : (q : RowKey) (b : Bool) → same_key q key ≡ b → cond b None (map.get (rows_of es) q) ≡ map.get (rows_of es) q
      by q false e = refl
      by q true e = sym (ap (map.get (rows_of es)) (exact q key e) ∙ get_row es key one ∙ ap row_in none)

  also_by : (t : HeldState) (key : RowKey) (row : Option RowValues) → map.get t.state.rows key ≡ row
      → held_also t key ≡ cond (is_some row) t (record t { held = set.insert t.held key })
  also_by t key row is = ap (λ r. cond (is_some r) t (record t { held = set.insert t.held key })) is

  -- a new empty place
  pub hold_shown : (es fs : Entries) (key : RowKey) → IsDistinct same_key (keys_of es)
      → IsDistinct same_key (keys_of fs) → lookup (same_key key) es ≡ None → IsEditAt es fs key (Some None)
      → shown_by schema kept fs ≡ held_also (shown_by schema kept es) key
  hold_shown es fs key one other none differs =
      same_parts (rows_of fs) (rows_of es) (held_keys fs) (set.insert (held_keys es) key)
      (rows_differ es fs key (Some None) one other differs ∙ nothing_out es key one none)
      (held_differ es fs key (Some None) one other differs)
      ∙ sym (also_by (shown_by schema kept es) key None (get_row es key one ∙ ap row_in none))

  inserted_again : (held : KeySet) (key : RowKey) → set.contains held key ≡ true → set.insert held key ≡ held
  inserted_again held key there = set.same_set keys_total exact_keys (set.insert held key) held
      (λ q. set.contains-insert keys_total held key q ∙ (λ i. tied q key i || set.contains held q)
      ∙ by q (same_key q key) refl)
    where
      by : (q : RowKey) (b : Bool) → same_key q key ≡ b → (b || set.contains held q) ≡ set.contains held q
      by q false e = refl
      by q true e = sym (ap (set.contains held) (exact q key e) ∙ there)

  -- a key that has a place needs none
  pub hold_kept : (es : Entries) (key : RowKey) (w : Option RowValues) → IsDistinct same_key (keys_of es)
      → lookup (same_key key) es ≡ Some w → shown_by schema kept es ≡ held_also (shown_by schema kept es) key
  hold_kept es key (Some row) one found =
      sym (also_by (shown_by schema kept es) key (Some row) (get_row es key one ∙ ap row_in found))
  hold_kept es key None one found =
      sym (also_by (shown_by schema kept es) key None (get_row es key one ∙ ap row_in found)
      ∙ same_parts (rows_of es) (rows_of es) (set.insert (held_keys es) key) (held_keys es) refl
      (inserted_again (held_keys es) key (held_found es key one ∙ ap is_empty_place found)))

  -- a key is placed exactly if a look-up finds a place
  pub placed_found : (es : Entries) (key : RowKey) → IsDistinct same_key (keys_of es)
      → is_key_placed (shown_by schema kept es) key ≡ is_some (lookup (same_key key) es)
  placed_found es key one =
      (λ i. is_some (get_row es key one i) || held_found es key one i) ∙ by (lookup (same_key key) es)
    where
      by : (r : Option (Option RowValues)) → (is_some (row_in r) || is_empty_place r) ≡ is_some r
      by None = refl
      by (Some None) = refl
      by (Some (Some row)) = refl

  -- ---- a write at a place that is there

  -- what is there stays there
  pub write_there : (es fs : Entries) (key : RowKey) (row : Option RowValues) → IsDistinct same_key (keys_of es)
      → IsDistinct same_key (keys_of fs) → IsEditAt es fs key (Some row)
      → (q : RowKey) → KeyHasPlace (shown_by schema kept es) q → KeyHasPlace (shown_by schema kept fs) q
  write_there es fs key row one other differs q there =
      placed_found fs q other ∙ ap is_some (differs q)
      ∙ by (same_key key q) (sym (placed_found es q one) ∙ there)
    where
      by : (b : Bool) → is_some (lookup (same_key q) es) ≡ true
          → is_some (cond b (Some row) (lookup (same_key q) es)) ≡ true
      by true h = refl
      by false h = h

  pub write_shown : (es fs : Entries) (key : RowKey) (row : Option RowValues) → IsDistinct same_key (keys_of es)
      → IsDistinct same_key (keys_of fs) → IsEditAt es fs key (Some row)
      → (shown_by schema kept fs).state ≡ (with_row (shown_by schema kept es) key row).state
  write_shown es fs key row one other differs =
      ap (λ (r : Rows). record { schema = schema; kept = kept; rows = r })
      (rows_differ es fs key (Some row) one other differs)

  -- a key without a place can only be given none
  pub write_nowhere : (es : Entries) (key : RowKey) (row : Option RowValues) → IsDistinct same_key (keys_of es)
      → lookup (same_key key) es ≡ None → CanHoldRow (shown_by schema kept es) (key, row)
      → (shown_by schema kept es).state ≡ (with_row (shown_by schema kept es) key row).state
  write_nowhere es key None one none ready =
      ap (λ (r : Rows). record { schema = schema; kept = kept; rows = r }) (sym (nothing_out es key one none))
  write_nowhere es key (Some row) one none ready =
      absurd (false≢true (sym (ap is_some none) ∙ sym (placed_found es key one) ∙ ready.0))

-- what is ready fits
pub ready_fits : (t : HeldState) (key : RowKey) (row : Option RowValues) → CanHoldRow t (key, row)
    → IfSome row (λ values. length values ≡ length (table_flags t.state.schema key.table))
ready_fits t key None h = tt
ready_fits t key (Some row) h = h.1
