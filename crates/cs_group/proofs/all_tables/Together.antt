-- Where the changes of each key apply, all apply.
use Rattle.std.proofs.Common.{◌≡◌, ◌∙◌, ℕ, suc, Bool, true, false, cond, List, [], ◌∷◌, map, Option, Some}
use Rattle.std.proofs.Common.{None, Ok, refl, ap, sym}
use Rattle.std.specs.Prelude.{filter, ◌&&◌, nat_eq}
use Rattle.std.specs.FinMap as map
use Rattle.cs_model.specs.declared.change.Change.{Change}
use Rattle.cs_model.specs.declared.row_key.RowKey.{RowKey}
use Rattle.cs_model.specs.declared.shape.Shape.{Shape}
use Rattle.cs_model.specs.Key.{key_of}
use Rattle.cs_model.specs.Schema.{same_bytes}
use Rattle.cs_apply.specs.Single.{effect_at, single_from}
use Rattle.cs_apply.specs.State.{Rows, compatible}
use Rattle.cs_apply.specs.Steps.{put}
use Rattle.cs_apply.proofs.effects.OneByOne.{front_applies, one_by_one_none_left}
use Rattle.cs_apply.proofs.rows_by_key.Keys.{same_key, laws}
use Rattle.cs_group.specs.Group.{changed_row}
use Rattle.cs_group.proofs.one_row.Effects.{Row, on_change}
use Rattle.cs_group.proofs.one_row.OneRow.{and_then, on_list, then_found}
use Rattle.cs_group.proofs.one_row.Through.{mine, of_row}
use Rattle.cs_group.proofs.all_tables.Keyed.{NamedChange, Steps, on_named, puts_effect, steps_at, touch, touch_by}

-- ---- one change in front

go_back : (b : Bool) (x : NamedChange) (xs : List NamedChange) (old mid last : Option Row) → Steps b x old mid
    → on_named (cond b (x ∷ xs) xs) old ≡ Some last → on_named xs mid ≡ Some last
go_back true x xs old mid last s e = sym (ap (λ r. and_then r (on_named xs)) s) ∙ e
go_back false x xs old mid last s e = sym (ap (on_named xs) s) ∙ e

front_has_effect : (o : Option ℕ) (x : NamedChange) (rows : Rows) (rest : RowKey → List NamedChange)
    (last : RowKey → Option Row)
    → ((key : RowKey) → on_named (cond (touch_by o key x) (x ∷ rest key) (rest key)) (map.get rows key)
    ≡ Some (last key))
    → (mid : Rows) × (effect_at o rows x.0 x.1 ≡ Ok mid)
    × ((key : RowKey) → on_named (rest key) (map.get mid key) ≡ Some (last key))
front_has_effect None x rows rest last e = (rows, refl, e)
front_has_effect (Some table) x rows rest last e =
    let own = key_of table x.0.flags x.1 in
    let f = then_found (on_change x.0.flags x.1 (map.get rows own)) (on_named (rest own)) (last own)
    (sym (ap (λ b. on_named (cond b (x ∷ rest own) (rest own)) (map.get rows own)) (laws.refl own)) ∙ e own) in (
      put rows own f.0,
      puts_effect x.1.op rows own x.0.flags x.1.before x.1.after f.0 f.1,
      λ key. go_back (same_key own key) x (rest key) (map.get rows key) (map.get (put rows own f.0) key) (last key)
          (steps_at table x rows f.0 key f.1 (same_key own key) refl) (e key),
    )

-- ---- all

pub all_apply : (schema : List Shape) (kept : List Bool) (xs : List NamedChange) (at : ℕ) (rows : Rows)
    (last : RowKey → Option Row)
    → ((key : RowKey) → on_named (filter (touch schema kept key) xs) (map.get rows key) ≡ Some (last key))
    → (new : Rows) × (single_from schema kept xs at rows ≡ Ok new) × ((key : RowKey) → map.get new key ≡ last key)
all_apply schema kept [] at rows last e = (rows, one_by_one_none_left schema kept at rows, λ key. cc (e key))
all_apply schema kept (x ∷ xs) at rows last e =
    let f = front_has_effect (compatible schema kept x.0) x rows (λ key. filter (touch schema kept key) xs) last e in
    let g = all_apply schema kept xs (suc at) f.0 last f.2 in
    (g.0, front_applies schema kept x xs at rows f.0 g.0 f.1 g.1, g.2)

-- ---- the changes of a key's table

abbrev pub at_table : ℕ → Option ℕ → Bool
at_table table None = false
at_table table (Some i) = nat_eq i table

abbrev pub of_table : List Shape → List Bool → ℕ → Shape → Bool
of_table schema kept table shape = at_table table (compatible schema kept shape)

abbrev pub seen_in : List Shape → List Bool → ℕ → List NamedChange → List Change
seen_in schema kept table xs = map (λ (x : NamedChange). x.1)
    (filter (λ (x : NamedChange). of_table schema kept table x.0) xs)

-- the tables with this index have these key flags
abbrev pub HasTableFlags : List Shape → List Bool → ℕ → List ℕ → Type 0
HasTableFlags schema kept table flags = (shape : Shape) → of_table schema kept table shape ≡ true → shape.flags ≡ flags

and_then_same : (o : Option (Option Row)) (f g : Option Row → Option (Option Row)) → ((r : Option Row) → f r ≡ g r)
    → and_then o f ≡ and_then o g
and_then_same None f g h = refl
and_then_same (Some row) f g h = h row

-- one change of the table in front
one_of : (flags bytes own : List ℕ) (change : Change) (xs : List Change) (rest : Option Row → Option (Option Row))
    (row : Option Row)
    → own ≡ flags → ((r : Option Row) → rest r ≡ on_list flags xs r) → (b : Bool) → of_row flags bytes change ≡ b
    → cond b (and_then (on_change own change row) rest) (rest row) ≡ on_list flags (cond b (change ∷ xs) xs) row
one_of flags bytes own change xs rest row is same true e =
    ap (λ (fs : List ℕ). and_then (on_change fs change row) rest) is
    ∙ and_then_same (on_change flags change row) rest (on_list flags xs) same
one_of flags bytes own change xs rest row is same false e = same row

named_in_front : (b : Bool) (x : NamedChange) (xs : List NamedChange) (row : Option Row)
    → on_named (cond b (x ∷ xs) xs) row
    ≡ cond b (and_then (on_change x.0.flags x.1 row) (on_named xs)) (on_named xs row)
named_in_front true x xs row = refl
named_in_front false x xs row = refl

-- a key's changes are those of its table that are of its row
pub named_is : (schema : List Shape) (kept : List Bool) (flags : List ℕ) (key : RowKey)
    → HasTableFlags schema kept key.table flags
    → (xs : List NamedChange) (row : Option Row) → on_named (filter (touch schema kept key) xs) row
    ≡ on_list flags (mine flags key.bytes (seen_in schema kept key.table xs)) row
named_is schema kept flags key has [] row = refl
named_is schema kept flags key has (x ∷ xs) row =
    go (compatible schema kept x.0) (has x.0) (λ r. named_is schema kept flags key has xs r)
  where
    go : (o : Option ℕ) → (at_table key.table o ≡ true → x.0.flags ≡ flags)
        → ((r : Option Row) → on_named (filter (touch schema kept key) xs) r
        ≡ on_list flags (mine flags key.bytes (seen_in schema kept key.table xs)) r)
        → on_named (cond (touch_by o key x) (x ∷ filter (touch schema kept key) xs) (filter (touch schema kept key) xs))
        row
        ≡ on_list flags (mine flags key.bytes (map (λ (y : NamedChange). y.1) (cond (at_table key.table o)
        (x ∷ filter (λ (y : NamedChange). of_table schema kept key.table y.0) xs)
        (filter (λ (y : NamedChange). of_table schema kept key.table y.0) xs)))) row
    go None own rest = rest row
    go (Some table) own rest = by (nat_eq table key.table) refl
      where
        by : (b : Bool) → nat_eq table key.table ≡ b
            → on_named (cond (b && same_bytes (changed_row x.0.flags x.1) key.bytes)
            (x ∷ filter (touch schema kept key) xs)
            (filter (touch schema kept key) xs)) row
            ≡ on_list flags (mine flags key.bytes (map (λ (y : NamedChange). y.1) (cond b
            (x ∷ filter (λ (y : NamedChange). of_table schema kept key.table y.0) xs)
            (filter (λ (y : NamedChange). of_table schema kept key.table y.0) xs)))) row
        by false e = rest row
        by true e =
            let is : x.0.flags ≡ flags = own e in
            named_in_front (same_bytes (changed_row x.0.flags x.1) key.bytes) x (filter (touch schema kept key) xs) row
            ∙ ap (λ (fs : List ℕ). cond (same_bytes (changed_row fs x.1) key.bytes)
            (and_then (on_change x.0.flags x.1 row) (on_named (filter (touch schema kept key) xs)))
            (on_named (filter (touch schema kept key) xs) row)) is
            ∙ one_of flags key.bytes x.0.flags x.1 (mine flags key.bytes (seen_in schema kept key.table xs))
            (on_named (filter (touch schema kept key) xs)) row is rest (of_row flags key.bytes x.1) refl
