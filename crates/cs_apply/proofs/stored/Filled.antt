-- The rows of the places: what a look-up finds, and what an edit of a place does.
use Rattle.std.proofs.Common.{◌≡◌, ℕ, zero, suc, ◌+◌, Bool, true, false, cond, not, List, [], ◌∷◌, Option, Some, None}
use Rattle.std.proofs.Common.{slice_get, position, nat_lt, length, map as list_map, is_some, ◌++◌, filter, Ok, Err}
use Rattle.std.proofs.Common.{refl, sym, ap, ◌∙◌, arith}
use Rattle.std.proofs.lemmas.Bool.{false≢true}
use Rattle.std.specs.List.{IsDistinct, AllByRecursion, position_or_len}
use Rattle.std.specs.Map.{lookup, keys_of, values_of}
use Rattle.std.specs.FinMap as map
use Rattle.std.proofs.lemmas.List.{map-append, append-nil}
use Rattle.std.proofs.lemmas.Map.{lookup-none}
use Rattle.std.proofs.lemmas.Map.Entries.{none_past_head}
use Rattle.std.proofs.lemmas.Map.Keys.{IsDistinct-head, IsDistinct-tail, IsDistinct-cons}
use Rattle.indexmap.specs.IndexMap.{IndexMap, IsUnique, with_value_at}
use Rattle.indexmap.specs.Layout.{set_value_at}
use Rattle.indexmap.proofs.CallerLemmas.{updates-with_value_at, keys-with_value_at}
use Rattle.cs_model.specs.declared.row_key.RowKey.{RowKey}
use Rattle.cs_model.specs.declared.value.Value.{Value}
use Rattle.cs_apply.specs.declared.conflict.ConflictKind.TheVariants.{Conflict}
use Rattle.cs_apply.specs.State.{Rows}
use Rattle.cs_apply.specs.Effect.{inserted}
use Rattle.cs_apply.specs.Steps.{Entries, FilledPlaces, filled, rows_of, put}
use Rattle.cs_apply.proofs.rows_by_key.Keys.{same_key, laws, exact, tied, exact_keys, keys_total, find_key, get_key}

-- the row of a place that was looked up
abbrev pub row_in : Option (Option (List Value)) → Option (List Value)
row_in None = None
row_in (Some row) = row

-- an empty place is as if it weren't there
pub find_filled : (es : Entries) (q : RowKey) → IsDistinct same_key (keys_of es) → lookup (same_key q) (filled es)
    ≡ row_in (lookup (same_key q) es)
find_filled [] q distinct = refl
find_filled ((k, Some row) ∷ es) q distinct =
    by (same_key q k) (find_filled es q (IsDistinct-tail same_key k (keys_of es) distinct))
  where
    by : (b : Bool) → lookup (same_key q) (filled es) ≡ row_in (lookup (same_key q) es)
        → cond b (Some row) (lookup (same_key q) (filled es))
        ≡ row_in (cond b (Some (Some row)) (lookup (same_key q) es))
    by true h = refl
    by false h = h
find_filled ((k, None) ∷ es) q distinct =
    by (same_key q k) refl (find_filled es q (IsDistinct-tail same_key k (keys_of es) distinct))
  where
    by : (b : Bool) → same_key q k ≡ b → lookup (same_key q) (filled es) ≡ row_in (lookup (same_key q) es)
        → lookup (same_key q) (filled es) ≡ row_in (cond b (Some None) (lookup (same_key q) es))
    by true e h = h ∙ ap row_in (lookup-none (same_key q) es (none_past_head laws q (k, None) es distinct e))
    by false e h = h

pub get_row : (es : Entries) (q : RowKey) → IsDistinct same_key (keys_of es) → map.get (rows_of es) q
    ≡ row_in (lookup (same_key q) es)
get_row es q distinct = get_key (filled es) q ∙ find_filled es q distinct

pub get_put : (rows : Rows) (k q : RowKey) (row : Option (List Value)) → map.get (put rows k row) q
    ≡ cond (same_key q k) row (map.get rows q)
get_put rows k q None = map.get-remove keys_total rows k q ∙ ap (λ b. cond b None (map.get rows q)) (tied q k)
get_put rows k q (Some row) = map.get-insert keys_total rows k row q
    ∙ ap (λ b. cond b (Some row) (map.get rows q)) (tied q k)

pub in_place : (b : Bool) (row : Option (List Value)) (r : Option (Option (List Value))) → row_in (cond b (Some row) r)
    ≡ cond b row (row_in r)
in_place true row r = refl
in_place false row r = refl

-- a place's key and row
pub value_at : (es : Entries) (place : ℕ) (key : RowKey) (row : Option (List Value)) → slice_get es place
    ≡ Some (key, row) → slice_get (values_of es) place ≡ Some row
value_at [] place key row at = cc
value_at (e ∷ es) zero key row at = cc
value_at (e ∷ es) (suc place) key row at = value_at es place key row at

-- a write at a place is one at its key
pub set_rows : {S : Type 0} (m : IndexMap RowKey (Option (List Value)) S) (place : ℕ) (key : RowKey)
    (row new : Option (List Value)) → IsUnique same_key m
    → slice_get m.entries place ≡ Some (key, row) → rows_of (set_value_at m.entries place new)
    ≡ put (rows_of m.entries) key new
set_rows m place key row new unique at =
    let distinct : IsUnique same_key (with_value_at m place new) = rw (keys-with_value_at m place new) unique in
    let is = updates-with_value_at m place new laws unique key row at in
    map.same_map keys_total exact_keys (rows_of (set_value_at m.entries place new)) (put (rows_of m.entries) key new)
    (λ q.
    get_row (set_value_at m.entries place new) q distinct ∙ ap row_in (is.0 q)
    ∙ in_place (same_key key q) new (lookup (same_key q) m.entries)
    ∙ (λ i. cond (laws.symm key q i) new (sym (get_row m.entries q unique) i))
    ∙ sym (get_put (rows_of m.entries) key q new))

-- a key that has a place is found there
pub at_position : (es : Entries) (q : RowKey) (row : Option (List Value)) → lookup (same_key q) es ≡ Some row
    → slice_get es (position_or_len (same_key q) (keys_of es)) ≡ Some (q, row)
at_position [] q row found = cc
at_position (e ∷ es) q row found = by (same_key q e.0) refl (at_position es q row) found
  where
    by : (b : Bool) → same_key q e.0 ≡ b
        → (lookup (same_key q) es ≡ Some row → slice_get es (position_or_len (same_key q) (keys_of es)) ≡ Some (q, row))
        → cond b (Some e.1) (lookup (same_key q) es) ≡ Some row
        → slice_get (e ∷ es) (cond (not b) (1 + position_or_len (same_key q) (keys_of es)) 0) ≡ Some (q, row)
    by true is rest found = let value : e.1 ≡ row = cc in λ i. Some (sym (exact q e.0 is) i, value i)
    by false is rest found = let n = position_or_len (same_key q) (keys_of es) in let next : 1 + n ≡ suc n =
        omega arith in ap (slice_get (e ∷ es)) next ∙ rest found

index_is : (n m : ℕ) (b : Bool) → Some n ≡ cond b (Some m) None → n ≡ m
index_is n m true e = cc
index_is n m false e = cc

pub found_place : (es : Entries) (q k : RowKey) (place : ℕ) (row : Option (List Value))
    → IsDistinct same_key (keys_of es) → Some place ≡ position (same_key q) (keys_of es)
    → Some (k, row) ≡ slice_get es place → slice_get (values_of es) place ≡ lookup (same_key q) es
    → (slice_get es place ≡ Some (q, row)) × (map.get (rows_of es) q ≡ row)
found_place es q k place row distinct index entry value =
    let found : lookup (same_key q) es ≡ Some row = sym value ∙ value_at es place k row (sym entry) in
    let here : place ≡ position_or_len (same_key q) (keys_of es) =
    index_is place (position_or_len (same_key q) (keys_of es))
    (nat_lt (position_or_len (same_key q) (keys_of es)) (length (keys_of es))) index in
    (ap (slice_get es) here ∙ at_position es q row found, get_row es q distinct ∙ ap row_in found)

-- a key that has no place has no row
pub no_place : (es : Entries) (q : RowKey) → IsDistinct same_key (keys_of es) → false ≡ is_some (lookup (same_key q) es)
    → map.get (rows_of es) q ≡ None
no_place es q distinct none = get_row es q distinct ∙ by (lookup (same_key q) es) none
  where
    by : (r : Option (Option (List Value))) → false ≡ is_some r → row_in r ≡ None
    by None h = refl
    by (Some row) h = absurd (false≢true h)

-- ---- entries in two parts, and without the empty places
pub filled-append : (es fs : Entries) → filled (es ++ fs) ≡ filled es ++ filled fs
filled-append [] fs = refl
filled-append ((k, None) ∷ es) fs = filled-append es fs
filled-append ((k, Some row) ∷ es) fs = ap (λ (l : FilledPlaces). (k, row) ∷ l) (filled-append es fs)

pub filled-swept : (es : Entries) → filled (filter (λ e. is_some e.1) es) ≡ filled es
filled-swept [] = refl
filled-swept ((k, None) ∷ es) = filled-swept es
filled-swept ((k, Some row) ∷ es) = ap (λ (l : FilledPlaces). (k, row) ∷ l) (filled-swept es)

-- the keys of the rows differ, as those of the places do
filled_apart : (k : RowKey) (es : Entries) → AllByRecursion (λ y. same_key k y ≡ false) (keys_of es)
    → AllByRecursion (λ y. same_key k y ≡ false) (keys_of (filled es))
filled_apart k [] h = h
filled_apart k ((x, None) ∷ es) h = filled_apart k es h.1
filled_apart k ((x, Some row) ∷ es) h = (h.0, filled_apart k es h.1)

pub filled_distinct : (es : Entries) → IsDistinct same_key (keys_of es) → IsDistinct same_key (keys_of (filled es))
filled_distinct [] distinct = distinct
filled_distinct ((k, None) ∷ es) distinct = filled_distinct es (IsDistinct-tail same_key k (keys_of es) distinct)
filled_distinct ((k, Some row) ∷ es) distinct =
    IsDistinct-cons same_key k (keys_of (filled es))
    (filled_apart k es (IsDistinct-head same_key k (keys_of es) distinct))
    (filled_distinct es (IsDistinct-tail same_key k (keys_of es) distinct))

-- ---- an INSERT
-- a row under a new key goes in, at the end
pub put_new : (es new : Entries) (key : RowKey) (row : List Value) → IsDistinct same_key (keys_of es)
    → lookup (same_key key) es ≡ None → new ≡ es ++ (key, Some row) ∷ []
    → inserted (rows_of es) key row (map.get (rows_of es) key) ≡ Ok (rows_of new)
put_new es new key row distinct none is =
    ap (inserted (rows_of es) key row) (get_row es key distinct ∙ ap row_in none)
    ∙ ap Ok (sym (ap rows_of is ∙ ap map.from_entries (filled-append es ((key, Some row) ∷ []))
    ∙ map.from_entries_push keys_total exact_keys (filled es) key row
    (find_key (filled es) key ∙ find_filled es key distinct ∙ ap row_in none)))

-- and one under a key whose place is empty
pub put_again : (es new : Entries) (key : RowKey) (row : List Value) → IsDistinct same_key (keys_of es)
    → lookup (same_key key) es ≡ Some None → rows_of new ≡ put (rows_of es) key (Some row)
    → inserted (rows_of es) key row (map.get (rows_of es) key) ≡ Ok (rows_of new)
put_again es new key row distinct none is =
    ap (inserted (rows_of es) key row) (get_row es key distinct ∙ ap row_in none) ∙ ap Ok (sym is)

-- a key that has a row conflicts
pub put_taken : (es : Entries) (key : RowKey) (row : List Value) (there : Option (List Value))
    → IsDistinct same_key (keys_of es) → lookup (same_key key) es ≡ Some there → true ≡ is_some there
    → inserted (rows_of es) key row (map.get (rows_of es) key) ≡ Err Conflict
put_taken es key row there distinct found some =
    ap (inserted (rows_of es) key row) (get_row es key distinct ∙ ap row_in found) ∙ by there some
  where
    by : (r : Option (List Value)) → true ≡ is_some r → inserted (rows_of es) key row r ≡ Err Conflict
    by None h = absurd (false≢true (sym h))
    by (Some x) h = refl

pub is_none : (r : Option (List Value)) → false ≡ is_some r → r ≡ None
is_none None h = refl
is_none (Some x) h = absurd (false≢true h)

-- ---- one place more, of those that pairs show
module _ {X Y : Type 0} (show : X → RowKey × List Value) (place : Y → RowKey × Option (List Value)) where
  pub filled_more : (rows pushed : List X) (places : List Y) (x : X) (y : Y) → list_map show rows
      ≡ filled (list_map place places) → pushed ≡ rows ++ x ∷ []
      → place y ≡ ((show x).0, Some (show x).1) → list_map show pushed ≡ filled (list_map place (places ++ y ∷ []))
  filled_more rows pushed places x y so_far is at =
      ap (list_map show) is ∙ map-append show rows (x ∷ []) ∙ ap (λ (l : FilledPlaces). l ++ show x ∷ []) so_far
      ∙ sym (filled-append (list_map place places) (((show x).0, Some (show x).1) ∷ []))
      ∙ ap (λ (e : RowKey × Option (List Value)). filled (list_map place places ++ e ∷ [])) (sym at)
      ∙ ap filled (sym (map-append place places (y ∷ [])))

  pub filled_same : (rows : List X) (places : List Y) (y : Y) (key : RowKey) → list_map show rows
      ≡ filled (list_map place places) → place y ≡ (key, None)
      → list_map show rows ≡ filled (list_map place (places ++ y ∷ []))
  filled_same rows places y key so_far at =
      so_far ∙ sym (append-nil (filled (list_map place places)))
      ∙ sym (filled-append (list_map place places) ((key, None) ∷ []))
      ∙ ap (λ (e : RowKey × Option (List Value)). filled (list_map place places ++ e ∷ [])) (sym at)
      ∙ ap filled (sym (map-append place places (y ∷ [])))
