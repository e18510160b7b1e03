-- Whether each row of one map is a row of another, and when two tables are the same.
use Rattle.std.proofs.Common.{◌≡◌, ◌∙◌, Bool, true, false, cond, List, [], ◌∷◌}
use Rattle.std.proofs.Common.{Option, Some, None, IfSome, refl, ap, sym, subst}
use Rattle.std.proofs.lemmas.Bool.{false≢true}
use Rattle.std.proofs.lemmas.Option.{none-some}
use Rattle.std.proofs.lemmas.Map.{lookup-none}
use Rattle.std.proofs.lemmas.Map.Entries.{none_past_head}
use Rattle.std.proofs.lemmas.Map.Keys.{IsDistinct-tail}
use Rattle.std.proofs.lemmas.Bool.Decides.{Decides-and, Decides-like}
use Rattle.std.proofs.lemmas.Slice.Eq.{slice_eq-Decides}
use Rattle.std.specs.Bool.{Decides, beq}
use Rattle.std.specs.Cmp.{booleans_Decides}
use Rattle.std.specs.Cmp.Lexicographic.{bytes_decides, pointwise}
use Rattle.cs_model.specs.declared.shape.Shape.{Shape}
use Rattle.cs_model.specs.Schema.{same_bytes, same_shape}
use Rattle.std.specs.FinMap as map
use Rattle.std.specs.List.{IsDistinct, AllByRecursion}
use Rattle.std.specs.Map.{lookup, keys_of}
use Rattle.cs_model.specs.declared.row_key.RowKey.{RowKey}
use Rattle.cs_model.specs.declared.value.Value.{Value}
use Rattle.cs_apply.specs.State.{AreIn, Rows, TableState}
use Rattle.cs_apply.specs.Steps.{Entries, FilledPlaces, filled, rows_of}
use Rattle.cs_apply.proofs.stored.Filled.{filled_distinct}
use Rattle.cs_apply.proofs.rows_by_key.Keys.{same_key, exact, exact_keys, keys_total, get_key, laws}

-- each of these pairs is a row of the others
abbrev pub AllFound : Rows → FilledPlaces → Type 0
AllFound others pairs = AllByRecursion (λ p. map.get others p.0 ≡ Some p.1) pairs

found_by_key : (others : Rows) (pairs : FilledPlaces) (key : RowKey) (row : List Value) → AllFound others pairs
    → lookup (same_key key) pairs ≡ Some row → map.get others key ≡ Some row
found_by_key others [] key row all found = absurd cc
found_by_key others (p ∷ pairs) key row all found =
    by (same_key key p.0) refl (found_by_key others pairs key row all.1) found
  where
    by : (b : Bool) → same_key key p.0 ≡ b
        → (lookup (same_key key) pairs ≡ Some row → map.get others key ≡ Some row)
        → cond b (Some p.1) (lookup (same_key key) pairs) ≡ Some row → map.get others key ≡ Some row
    by true same rest h = ap (map.get others) (exact key p.0 same) ∙ all.0 ∙ h
    by false same rest h = rest h

found_each : (others : Rows) (pairs : FilledPlaces) → IsDistinct same_key (keys_of pairs)
    → ((key : RowKey) (row : List Value) → lookup (same_key key) pairs ≡ Some row → map.get others key ≡ Some row)
    → AllFound others pairs
found_each others [] one each = tt
found_each others (p ∷ pairs) one each = (
  each p.0 p.1 (ap (λ b. cond b (Some p.1) (lookup (same_key p.0) pairs)) (laws.refl p.0)),
  found_each others pairs (IsDistinct-tail same_key p.0 (keys_of pairs) one)
      (λ q row found. each q row (later q (same_key q p.0) refl row found)),
)
  where
    later : (q : RowKey) (b : Bool) → same_key q p.0 ≡ b → (row : List Value)
        → lookup (same_key q) pairs ≡ Some row → cond b (Some p.1) (lookup (same_key q) pairs) ≡ Some row
    later q true same row found =
        absurd (none-some row
        (sym (lookup-none (same_key q) pairs (none_past_head laws q p pairs one same)) ∙ found))
    later q false same row found = found

-- where all pairs are found, the rows are in the others
pub all_found_are_in : (others : Rows) (es : Entries) → AllFound others (filled es) → AreIn (rows_of es) others
all_found_are_in others es all key row found =
    found_by_key others (filled es) key row all (sym (get_key (filled es) key) ∙ found)

-- where the rows are in the others, all pairs are found
pub are_in_all_found : (others : Rows) (es : Entries) → IsDistinct same_key (keys_of es)
    → AreIn (rows_of es) others → AllFound others (filled es)
are_in_all_found others es one there = found_each others (filled es) (filled_distinct es one)
    (λ key row found. there key row (get_key (filled es) key ∙ found))

-- all of these places' rows are found exactly if those of the places that are left are
abbrev pub IsLeft : Rows → Entries → Entries → Type 0
IsLeft others es left =
    (AllFound others (filled left) → AllFound others (filled es))
    × (AllFound others (filled es) → AllFound others (filled left))

-- the row that a place has is found
pub place_found : (others : Rows) (key : RowKey) (place : Option (List Value)) (row : List Value) (has : Bool)
    → place ≡ Some row → has ≡ true → Decides has (map.get others key ≡ Some row)
    → IfSome place (λ values. map.get others key ≡ Some values)
place_found others key place row has full found says =
    subst (λ (p : Option (List Value)). IfSome p (λ values. map.get others key ≡ Some values)) (sym full) (says.0 found)

-- one place is passed that is empty, or whose row is found
pub place_passed : (others : Rows) (es left rest : Entries) (key : RowKey) (place : Option (List Value))
    → left ≡ (key, place) ∷ rest → IfSome place (λ row. map.get others key ≡ Some row)
    → IsLeft others es left → IsLeft others es rest
place_passed others es left rest key place is here so_far =
    by place here (subst (λ (l : Entries). IsLeft others es l) is so_far)
  where
    by : (p : Option (List Value)) → IfSome p (λ row. map.get others key ≡ Some row)
        → IsLeft others es ((key, p) ∷ rest) → IsLeft others es rest
    by None h so = so
    by (Some row) h so = (λ all. so.0 (h, all), λ all. (so.1 all).1)

-- one place's row is not found
pub not_all_in : (others : Rows) (es left rest : Entries) (key : RowKey) (place : Option (List Value)) (row : List Value)
    (has : Bool) → IsDistinct same_key (keys_of es) → left ≡ (key, place) ∷ rest → place ≡ Some row → has ≡ false
    → Decides has (map.get others key ≡ Some row) → IsLeft others es left
    → Decides false (AreIn (rows_of es) others)
not_all_in others es left rest key place row has one is full lacks says so_far = (
  λ z. absurd (false≢true z),
  λ there. absurd (false≢true (sym lacks ∙ says.1 (by place full
      ((subst (λ (l : Entries). IsLeft others es l) is so_far).1 (are_in_all_found others es one there))))),
)
  where
    by : (p : Option (List Value)) → p ≡ Some row → AllFound others (filled ((key, p) ∷ rest))
        → map.get others key ≡ Some row
    by None e all = absurd cc
    by (Some r) e all = all.0 ∙ e

-- nothing is left
pub all_in : (others : Rows) (es left : Entries) → left ≡ [] → IsLeft others es left
    → Decides true (AreIn (rows_of es) others)
all_in others es left none so_far = (
  λ _. all_found_are_in others es ((subst (λ (l : Entries). IsLeft others es l) none so_far).0 tt),
  λ _. refl,
)

-- rows in each other both ways are the same
same_both_ways : (rows others : Rows) → AreIn rows others → AreIn others rows → rows ≡ others
same_both_ways rows others there back = map.same_map keys_total exact_keys rows others
    (λ q. by (map.get rows q) (map.get others q) (there q) (back q))
  where
    by : (r s : Option (List Value)) → ((row : List Value) → r ≡ Some row → s ≡ Some row)
        → ((row : List Value) → s ≡ Some row → r ≡ Some row) → r ≡ s
    by None None f g = refl
    by None (Some s) f g = g s refl
    by (Some r) s f g = sym (f r refl)

-- ---- one test after another

pub decided_on : {P Q : Type 0} (a b value : Bool) → a ≡ true → value ≡ b → Decides a P → Decides b Q
    → Decides value (P × Q)
decided_on a b value is same one two =
    (λ v. (one.0 is, two.0 (sym same ∙ v)), λ both. same ∙ two.1 both.1)

pub decided_off : {P Q : Type 0} (a value : Bool) → a ≡ false → value ≡ a → Decides a P → Decides value (P × Q)
decided_off a value is same one = (
  λ v. absurd (false≢true (sym is ∙ sym same ∙ v)),
  λ both. absurd (false≢true (sym is ∙ one.1 both.0)),
)

-- ---- parts of tables

shapes_decided : (a b : Shape) → Decides (same_shape a b) (a ≡ b)
shapes_decided a b = Decides-like (same_shape a b) (λ p i. record { name = p.0 i; flags = p.1 i })
    (λ is. (ap (λ s. s.name) is, ap (λ s. s.flags) is))
    (Decides-and (same_bytes a.name b.name) (same_bytes a.flags b.flags) (bytes_decides a.name b.name)
    (bytes_decides a.flags b.flags))

pub schemas_decided : (a b : List Shape) (r : Bool) → r ≡ pointwise same_shape a b → Decides r (a ≡ b)
schemas_decided a b r is = slice_eq-Decides shapes_decided a b r is

pub kept_decided : (a b : List Bool) (r : Bool) → r ≡ pointwise beq a b → Decides r (a ≡ b)
kept_decided a b r is = slice_eq-Decides booleans_Decides a b r is

-- rows are the same if each of them is one of the others, both ways
pub rows_decided : (a b : Rows) (value : Bool) → Decides value (AreIn a b × AreIn b a) → Decides value (a ≡ b)
rows_decided a b value both = (
  λ v. let p = both.0 v in same_both_ways a b p.0 p.1,
  λ same.
      both.1 (
        λ key row found. ap (λ rows. map.get rows key) (sym same) ∙ found,
        λ key row found. ap (λ rows. map.get rows key) same ∙ found,
      ),
)

-- what is said of tables as they are kept is said of them as they are seen
pub setup_decided : (a b x y : TableState) (value : Bool) → a ≡ x → b ≡ y
    → Decides value ((a.schema ≡ b.schema) × (a.kept ≡ b.kept))
    → Decides value ((x.schema ≡ y.schema) × (x.kept ≡ y.kept))
setup_decided a b x y value left right =
    subst (λ (p : TableState × TableState). Decides value ((p.0.schema ≡ p.1.schema) × (p.0.kept ≡ p.1.kept)))
    (λ i. (left i, right i))

-- tables are the same if their parts are
pub tables_decided : (a b x y : TableState) (value : Bool) → a ≡ x → b ≡ y
    → Decides value (((x.schema ≡ y.schema) × (x.kept ≡ y.kept)) × (a.rows ≡ b.rows)) → Decides value (x ≡ y)
tables_decided a b x y value left right parts = (
  λ v. let p = parts.0 v in joined p.0.0 p.0.1 (ap (λ t. t.rows) (sym left) ∙ p.1 ∙ ap (λ t. t.rows) right),
  λ same. parts.1 ((ap (λ t. t.schema) same, ap (λ t. t.kept) same), ap (λ t. t.rows) (left ∙ same ∙ sym right)),
)
  where
    joined : x.schema ≡ y.schema → x.kept ≡ y.kept → x.rows ≡ y.rows → x ≡ y
    joined s k r = λ i. record { schema = s i; kept = k i; rows = r i }
