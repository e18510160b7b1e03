-- Which rows others lack, and when rows are others with changes of rows made.
use Rattle.std.proofs.Common.{◌≡◌, ◌∙◌, ℕ, zero, suc, take, ◌≤◌, ◌||◌, Bool, true, false, cond, not, List, [], ◌∷◌}
use Rattle.std.proofs.Common.{Option, Some, None, length, filter, refl, ap, sym, subst, arith}
use Rattle.std.proofs.lemmas.Bool.{false≢true}
use Rattle.std.proofs.lemmas.Option.{none-some}
use Rattle.std.proofs.lemmas.Map.{lookup-none}
use Rattle.std.proofs.lemmas.Map.Entries.{length-keys_of, none_past_head}
use Rattle.std.proofs.lemmas.Map.Keys.{IsDistinct-cons, IsDistinct-tail}
use Rattle.std.proofs.lemmas.Map.Made.{IsDistinct-keys_filter, is_some-lookup}
use Rattle.std.proofs.lemmas.Map.Steps.{length-le_from_keys}
use Rattle.std.proofs.lemmas.Slice.Eq.{slice_eq-Decides}
use Rattle.std.specs.Bool.{Decides}
use Rattle.std.specs.Cmp.Lexicographic.{pointwise}
use Rattle.std.specs.FinMap as map
use Rattle.std.specs.List.{IsDistinct, AllByRecursion, list_any}
use Rattle.std.specs.Map.{lookup, keys_of}
use Rattle.std.specs.Option.{is_some}
use Rattle.cs_model.specs.declared.row_key.RowKey.{RowKey}
use Rattle.cs_model.specs.declared.value.Value.{Value}
use Rattle.cs_apply.specs.Changed.{AreChanged, AreInBut, IsChanged, row_after_change, is_lacked, lacked_changes}
use Rattle.cs_apply.specs.Changed.{lacked_places}
use Rattle.cs_apply.specs.Effect.{same_value}
use Rattle.cs_apply.specs.State.{Rows, TableState}
use Rattle.cs_apply.specs.Steps.{Entries, rows_of}
use Rattle.cs_apply.proofs.stored.Filled.{get_row, row_in}
use Rattle.cs_apply.proofs.rows_by_key.Columns.{itself, value_is}
use Rattle.cs_apply.proofs.rows_by_key.Keys.{same_key, exact, laws}

-- ---- one row

values_decided : (a b : Value) → Decides (same_value a b) (a ≡ b)
values_decided a b = (value_is a b, λ same. subst (λ (v : Value). same_value a v ≡ true) same (itself a))

rows_same : (a b : List Value) → Decides (pointwise same_value a b) (a ≡ b)
rows_same a b = slice_eq-Decides values_decided a b (pointwise same_value a b) refl

-- a row is lacked exactly if it isn't the one that is there
pub lacked_by : (there : Option (List Value)) (row : List Value) (has : Bool) → Decides has (there ≡ Some row)
    → not has ≡ is_lacked (Some row) there
lacked_by None row true says = absurd (none-some row (says.0 refl))
lacked_by None row false says = refl
lacked_by (Some found) row has says = by has (pointwise same_value found row) says (rows_same found row)
  where
    by : (b c : Bool) → Decides b (Some found ≡ Some row) → Decides c (found ≡ row) → not b ≡ not c
    by true true one other = refl
    by false false one other = refl
    by true false one other =
        let both = one.0 refl in let same : found ≡ row = cc in absurd (false≢true (other.1 same))
    by false true one other =
        absurd (false≢true (one.1 (ap (λ (r : List Value). Some r) (other.0 refl))))

lacked_not : (there : Option (List Value)) (row : List Value) → is_lacked (Some row) there ≡ true → there ≡ Some row → ⊥
lacked_not None row lacked is = absurd cc
lacked_not (Some found) row lacked is =
    let same : found ≡ row = cc in by (pointwise same_value found row) (rows_same found row) same lacked
  where
    by : (b : Bool) → Decides b (found ≡ row) → found ≡ row → not b ≡ true → ⊥
    by true says same h = false≢true h
    by false says same h = false≢true (says.1 same)

not_lacked : (there : Option (List Value)) (row : List Value) → is_lacked (Some row) there ≡ false → there ≡ Some row
not_lacked None row has = absurd (false≢true (sym has))
not_lacked (Some found) row has = by (pointwise same_value found row) (rows_same found row) has
  where
    by : (b : Bool) → Decides b (found ≡ row) → not b ≡ false → Some found ≡ Some row
    by true says h = ap (λ (r : List Value). Some r) (says.0 refl)
    by false says h = absurd (false≢true (sym h))

-- ---- entries that pass a test

module _ {X : Type 0} (p : RowKey × X → Bool) where
  passed_found : (es : List (RowKey × X)) (q : RowKey) (x : X) → lookup (same_key q) es ≡ Some x → p (q, x) ≡ true
      → is_some (lookup (same_key q) (filter p es)) ≡ true
  passed_found [] q x found passes = absurd cc
  passed_found (e ∷ es) q x found passes =
      by (same_key q e.0) refl (p e) refl (λ rest. passed_found es q x rest passes) found
    where
      by : (b : Bool) → same_key q e.0 ≡ b → (c : Bool) → p e ≡ c
          → (lookup (same_key q) es ≡ Some x → is_some (lookup (same_key q) (filter p es)) ≡ true)
          → cond b (Some e.1) (lookup (same_key q) es) ≡ Some x
          → is_some (lookup (same_key q) (cond c (e ∷ filter p es) (filter p es))) ≡ true
      by true same true pass rest h =
          ap (λ b. is_some (cond b (Some e.1) (lookup (same_key q) (filter p es)))) same
      by true same false pass rest h =
          let value : e.1 ≡ x = cc in
          absurd (false≢true (sym pass ∙ (λ i. p (sym (exact q e.0 same) i, value i)) ∙ passes))
      by false same true pass rest h =
          ap (λ b. is_some (cond b (Some e.1) (lookup (same_key q) (filter p es)))) same ∙ rest h
      by false same false pass rest h = rest h

  found_passes : (es : List (RowKey × X)) (q : RowKey) (x : X) → IsDistinct same_key (keys_of es)
      → lookup (same_key q) (filter p es) ≡ Some x → (lookup (same_key q) es ≡ Some x) × (p (q, x) ≡ true)
  found_passes [] q x one found = absurd cc
  found_passes (e ∷ es) q x one found =
      by (same_key q e.0) refl (p e) refl
      (found_passes es q x (IsDistinct-tail same_key e.0 (keys_of es) one)) found
    where
      later : (b : Bool) → same_key q e.0 ≡ b → (lookup (same_key q) es ≡ Some x) × (p (q, x) ≡ true)
          → (cond b (Some e.1) (lookup (same_key q) es) ≡ Some x) × (p (q, x) ≡ true)
      later true same rest =
          absurd (none-some x (sym (lookup-none (same_key q) es (none_past_head laws q e es one same)) ∙ rest.0))
      later false same rest = rest

      by : (b : Bool) → same_key q e.0 ≡ b → (c : Bool) → p e ≡ c
          → (lookup (same_key q) (filter p es) ≡ Some x → (lookup (same_key q) es ≡ Some x) × (p (q, x) ≡ true))
          → lookup (same_key q) (cond c (e ∷ filter p es) (filter p es)) ≡ Some x
          → (cond b (Some e.1) (lookup (same_key q) es) ≡ Some x) × (p (q, x) ≡ true)
      by true same true pass rest h =
          let here : Some e.1 ≡ Some x =
          sym (ap (λ b. cond b (Some e.1) (lookup (same_key q) (filter p es))) same) ∙ h in
          let value : e.1 ≡ x = cc in
          (here, (λ i. p (exact q e.0 same i, sym value i)) ∙ pass)
      by false same true pass rest h =
          rest (sym (ap (λ b. cond b (Some e.1) (lookup (same_key q) (filter p es))) same) ∙ h)
      by b same false pass rest h = later b same (rest h)

  passed_apart : (es : List (RowKey × X)) (q : RowKey) → lookup (same_key q) es ≡ None
      → AllByRecursion (λ y. same_key q y ≡ false) (keys_of (filter p es))
  passed_apart [] q none = tt
  passed_apart (e ∷ es) q none = by (same_key q e.0) refl (p e) (passed_apart es q) none
    where
      by : (b : Bool) → same_key q e.0 ≡ b → (c : Bool)
          → (lookup (same_key q) es ≡ None → AllByRecursion (λ y. same_key q y ≡ false) (keys_of (filter p es)))
          → cond b (Some e.1) (lookup (same_key q) es) ≡ None
          → AllByRecursion (λ y. same_key q y ≡ false) (keys_of (cond c (e ∷ filter p es) (filter p es)))
      by true same c rest h = absurd (none-some e.1 (sym h))
      by false same true rest h = (same, rest h)
      by false same false rest h = rest h

-- ---- how many rows are lacked

module _ (others : Rows) (es changes : Entries) (one : IsDistinct same_key (keys_of es))
    (each : IsDistinct same_key (keys_of changes)) where
  abbrev lacked : Entries
  lacked = lacked_places others es

  abbrev changed : Entries
  changed = lacked_changes (rows_of es) others changes

  -- a key whose row is lacked has a row
  record HasRow (q : RowKey) : Type 0 where
    pub row : List Value
    pub found : lookup (same_key q) es ≡ Some (Some row)
    pub lacks : is_lacked (Some row) (map.get others q) ≡ true

  has_row : (q : RowKey) (place : Option (List Value)) → lookup (same_key q) es ≡ Some place
      → is_lacked place (map.get others q) ≡ true → HasRow q
  has_row q None found lacks = absurd (false≢true lacks)
  has_row q (Some row) found lacks = record { row = row; found = found; lacks = lacks }

  row_here : (q : RowKey) (row : List Value) → lookup (same_key q) es ≡ Some (Some row)
      → map.get (rows_of es) q ≡ Some row
  row_here q row found = get_row es q one ∙ ap row_in found

  found_here : (q : RowKey) (row : List Value) → map.get (rows_of es) q ≡ Some row
      → lookup (same_key q) es ≡ Some (Some row)
  found_here q row is = by (lookup (same_key q) es) (sym (get_row es q one) ∙ is)
    where
      by : (o : Option (Option (List Value))) → row_in o ≡ Some row → o ≡ Some (Some row)
      by None h = absurd (none-some row h)
      by (Some place) h = ap (λ (r : Option (List Value)). Some r) h

  is_there : {X : Type 0} (o : Option X) → is_some o ≡ true → (x : X) × (o ≡ Some x)
  is_there None h = absurd (false≢true h)
  is_there (Some x) h = (x, refl)

  lacked_has_row : (q : RowKey) → is_some (lookup (same_key q) lacked) ≡ true → HasRow q
  lacked_has_row q there =
      let place = is_there (lookup (same_key q) lacked) there in
      let found = found_passes (λ e. is_lacked e.1 (map.get others e.0)) es q place.0 one place.1 in
      has_row q place.0 found.0 found.1

  changed_has_row : (q : RowKey) → is_some (lookup (same_key q) changed) ≡ true → HasRow q
  changed_has_row q there =
      let change = is_there (lookup (same_key q) changed) there in
      let found = found_passes (λ e. is_lacked (map.get (rows_of es) e.0) (map.get others e.0)) changes q change.0 each
      change.1 in
      by (map.get (rows_of es) q) refl found.1
    where
      by : (r : Option (List Value)) → map.get (rows_of es) q ≡ r → is_lacked r (map.get others q) ≡ true → HasRow q
      by None is lacks = absurd (false≢true lacks)
      by (Some row) is lacks = record { row = row; found = found_here q row is; lacks = lacks }

  row_is_lacked : (q : RowKey) → HasRow q → is_some (lookup (same_key q) lacked) ≡ true
  row_is_lacked q has =
      passed_found (λ e. is_lacked e.1 (map.get others e.0)) es q (Some has.row) has.found has.lacks

  among : (q : RowKey) (xs : Entries) → list_any (same_key q) (keys_of xs) ≡ true
      → is_some (lookup (same_key q) xs) ≡ true
  among q xs h = is_some-lookup (same_key q) xs ∙ h

  -- if the rows of the other keys are there, no more are lacked than those of changed keys
  few_lacked : AreInBut (rows_of es) changes others → length lacked ≤ length changed
  few_lacked there =
      subst (λ n. n ≤ length changed) (length-keys_of lacked)
      (length-le_from_keys laws (keys_of lacked) changed
      (IsDistinct-keys_filter same_key (λ e. is_lacked e.1 (map.get others e.0)) es one)
      (λ q h. at q (lacked_has_row q (among q lacked h)) (lookup (same_key q) changes) refl))
    where
      at : (q : RowKey) → HasRow q → (o : Option (Option (List Value))) → lookup (same_key q) changes ≡ o
          → is_some (lookup (same_key q) changed) ≡ true
      at q has None none =
          absurd (lacked_not (map.get others q) has.row has.lacks (there q has.row none (row_here q has.row has.found)))
      at q has (Some new) found =
          passed_found (λ e. is_lacked (map.get (rows_of es) e.0) (map.get others e.0)) changes q new found
          (ap (λ r. is_lacked r (map.get others q)) (row_here q has.row has.found) ∙ has.lacks)

  -- if no more are lacked than those of changed keys, the rows of the other keys are there
  others_there : length lacked ≤ length changed → AreInBut (rows_of es) changes others
  others_there few key row none has =
      by (is_lacked (Some row) (map.get others key)) refl
    where
      here : is_lacked (Some row) (map.get others key) ≡ true → HasRow key
      here lacks = record { row = row; found = found_here key row has; lacks = lacks }

      within : is_lacked (Some row) (map.get others key) ≡ true → (q : RowKey) (b : Bool) → same_key q key ≡ b
          → (b || list_any (same_key q) (keys_of changed)) ≡ true → is_some (lookup (same_key q) lacked) ≡ true
      within lacks q true same h =
          row_is_lacked q (subst (λ (k : RowKey). HasRow k) (sym (exact q key same)) (here lacks))
      within lacks q false same h = row_is_lacked q (changed_has_row q (among q changed h))

      more : is_lacked (Some row) (map.get others key) ≡ true → suc (length (keys_of changed)) ≤ length lacked
      more lacks = length-le_from_keys laws (key ∷ keys_of changed) lacked
          (IsDistinct-cons same_key key (keys_of changed)
          (passed_apart (λ e. is_lacked (map.get (rows_of es) e.0) (map.get others e.0)) changes key none)
          (IsDistinct-keys_filter same_key (λ e. is_lacked (map.get (rows_of es) e.0) (map.get others e.0)) changes each))
          (λ q h. within lacks q (same_key q key) refl h)

      by : (b : Bool) → is_lacked (Some row) (map.get others key) ≡ b → map.get others key ≡ Some row
      by true lacks = absurd (omega (arith, more lacks, few, length-keys_of changed))
      by false has_it = not_lacked (map.get others key) row has_it

  pub few_decide : (most : ℕ) (value : Bool) → most ≡ length changed → Decides value (length lacked ≤ most)
      → Decides value (AreInBut (rows_of es) changes others)
  few_decide most value is says = (
    λ v. others_there (subst (λ n. length lacked ≤ n) is (says.0 v)),
    λ there. says.1 (subst (λ n. length lacked ≤ n) (sym is) (few_lacked there)),
  )

-- ---- all changes made

-- each change gives what is there
abbrev pub AllGive : Rows → Entries → Type 0
AllGive rows changes = AllByRecursion (λ change. map.get rows change.0 ≡ change.1) changes

row_given_at : (rows : Rows) (changes : Entries) (q : RowKey) (row : Option (List Value)) → AllGive rows changes
    → lookup (same_key q) changes ≡ Some row → map.get rows q ≡ row
row_given_at rows [] q row all found = absurd cc
row_given_at rows (e ∷ es) q row all found = by (same_key q e.0) refl (row_given_at rows es q row all.1) found
  where
    by : (b : Bool) → same_key q e.0 ≡ b → (lookup (same_key q) es ≡ Some row → map.get rows q ≡ row)
        → cond b (Some e.1) (lookup (same_key q) es) ≡ Some row → map.get rows q ≡ row
    by true same rest h = let value : e.1 ≡ row = cc in ap (map.get rows) (exact q e.0 same) ∙ all.0 ∙ value
    by false same rest h = rest h

given_each : (rows : Rows) (changes : Entries) → IsDistinct same_key (keys_of changes)
    → ((q : RowKey) (row : Option (List Value)) → lookup (same_key q) changes ≡ Some row → map.get rows q ≡ row)
    → AllGive rows changes
given_each rows [] one each = tt
given_each rows (e ∷ es) one each = (
  each e.0 e.1 (ap (λ b. cond b (Some e.1) (lookup (same_key e.0) es)) (laws.refl e.0)),
  given_each rows es (IsDistinct-tail same_key e.0 (keys_of es) one)
      (λ q row found. each q row (later q (same_key q e.0) refl row found)),
)
  where
    later : (q : RowKey) (b : Bool) → same_key q e.0 ≡ b → (row : Option (List Value))
        → lookup (same_key q) es ≡ Some row → cond b (Some e.1) (lookup (same_key q) es) ≡ Some row
    later q true same row found =
        absurd (none-some row (sym (lookup-none (same_key q) es (none_past_head laws q e es one same)) ∙ found))
    later q false same row found = found

-- what each change gives is there, and the rows of the other keys are the same both ways
abbrev pub ArePartsChanged : Rows → Entries → Rows → Type 0
ArePartsChanged rows changes others = AllGive others changes
    × (AreInBut rows changes others × AreInBut others changes rows)

parts_changed : (rows others : Rows) (changes : Entries) → ArePartsChanged rows changes others
    → AreChanged rows changes others
parts_changed rows others changes parts key = by (lookup (same_key key) changes) refl
  where
    same : (r s : Option (List Value)) → ((row : List Value) → r ≡ Some row → s ≡ Some row)
        → ((row : List Value) → s ≡ Some row → r ≡ Some row) → s ≡ r
    same None None f g = refl
    same None (Some s) f g = sym (g s refl)
    same (Some r) s f g = f r refl

    by : (o : Option (Option (List Value))) → lookup (same_key key) changes ≡ o
        → map.get others key ≡ row_after_change o (map.get rows key)
    by None none = same (map.get rows key) (map.get others key) (λ row. parts.1.0 key row none)
        (λ row. parts.1.1 key row none)
    by (Some row) found = row_given_at others changes key row parts.0 found

changed_parts : (rows others : Rows) (changes : Entries) → IsDistinct same_key (keys_of changes)
    → AreChanged rows changes others → ArePartsChanged rows changes others
changed_parts rows others changes one is = (
  given_each others changes one (λ q row found. is q ∙ ap (λ o. row_after_change o (map.get rows q)) found),
  (
    λ key row none has. is key ∙ ap (λ o. row_after_change o (map.get rows key)) none ∙ has,
    λ key row none has. sym (is key ∙ ap (λ o. row_after_change o (map.get rows key)) none) ∙ has,
  ),
)

pub parts_decide : (rows others : Rows) (changes : Entries) (value : Bool) → IsDistinct same_key (keys_of changes)
    → Decides value (ArePartsChanged rows changes others) → Decides value (AreChanged rows changes others)
parts_decide rows others changes value one says = (
  λ v. parts_changed rows others changes (says.0 v),
  λ is. says.1 (changed_parts rows others changes one is),
)

-- ---- one change after another

-- all changes are given exactly if those that are left are
abbrev pub AreLeftGiven : Rows → Entries → Entries → Type 0
AreLeftGiven rows changes left = (AllGive rows left → AllGive rows changes) × (AllGive rows changes → AllGive rows left)

-- of the first so many, no more pass a test
pub few_counted : {X : Type 0} (p : X → Bool) (i : ℕ) (xs : List X) → length (filter p (take i xs)) ≤ i
few_counted p zero xs = omega arith
few_counted p (suc i) [] = omega arith
few_counted p (suc i) (x ∷ xs) = by (p x) (few_counted p i xs)
  where
    by : (b : Bool) → length (filter p (take i xs)) ≤ i
        → length (cond b (x ∷ filter p (take i xs)) (filter p (take i xs))) ≤ suc i
    by true few = omega (arith, few)
    by false few = omega (arith, few)

-- what is said of rows as they are kept is said of them as they are seen
pub changed_decide : (a b x y : TableState) (changes : Entries) (value : Bool) → a ≡ x → b ≡ y
    → Decides value (((x.schema ≡ y.schema) × (x.kept ≡ y.kept)) × AreChanged a.rows changes b.rows)
    → Decides value (IsChanged x changes y)
changed_decide a b x y changes value left right = subst
    (λ (p : TableState × TableState).
    Decides value (((x.schema ≡ y.schema) × (x.kept ≡ y.kept)) × AreChanged p.0.rows changes p.1.rows))
    (λ i. (left i, right i))
