-- Sections that one schema admits: none of them clashes with another.
use Rattle.std.proofs.Common.{◌≡◌, ◌∙◌, ℕ, ◌+◌, suc, Bool, true, false, cond, not, ◌||◌, List, [], ◌∷◌, ◌++◌}
use Rattle.std.proofs.Common.{Option, Some, None, length, refl, sym, ap}
use Rattle.std.proofs.lemmas.Bool.{false≢true, or_parts}
use Rattle.std.proofs.lemmas.Iterator.Adapters.{position_from-zero}
use Rattle.std.proofs.lemmas.List.Folds.{list_any-append}
use Rattle.std.proofs.lemmas.Option.{none-some}
use Rattle.std.specs.Cmp.Lexicographic.{same_text, nat_list_eq_equiv}
use Rattle.std.specs.List.{AllByRecursion, position_from}
use Rattle.std.specs.Option.{option_or}
use Rattle.std.specs.Prelude.{◌&&◌, nat_lt, option_map, slice_get}
use Rattle.cs_model.proofs.CallerLemmas.{all_append, all_push}
use Rattle.cs_model.specs.declared.shape.Shape.{Shape}
use Rattle.cs_model.specs.declared.schema.TableFault.TheVariants.{DuplicateTable, BadShape}
use Rattle.cs_model.specs.Schema.{IsSchema, has_name, has_shape, has_valid_shape, refusal_at, refusal_of, same_bytes}
use Rattle.cs_model.specs.Schema.{same_shape, table_refusal, tables_refusal}
use Rattle.cs_model.specs.Section.{Section}
use Rattle.cs_group.specs.Group.{clashes, differs_from, first_clash}
use Rattle.cs_group.proofs.all_tables.Tables.{same_is, same_itself}

-- ---- which sections are admitted

-- a table of the schema has the section's shape
abbrev pub HasItsTable : List Shape → Section → Type 0
HasItsTable tables section = has_shape tables section.shape ≡ true

abbrev is_outside : List Shape → Section → Bool
is_outside tables section = not (has_shape tables section.shape)

none_mapped : {A B : Type 0} (f : A → B) (o : Option A) → option_map f o ≡ None → o ≡ None
none_mapped f None e = refl
none_mapped f (Some x) e = absurd (none-some (f x) (sym e))

admitted_from : (tables : List Shape) (sections : List Section) (i : ℕ)
    → position_from (is_outside tables) i sections ≡ None → AllByRecursion (HasItsTable tables) sections
admitted_from tables [] i e = tt
admitted_from tables (section ∷ sections) i e =
    by (has_shape tables section.shape) refl (admitted_from tables sections (i + 1)) e
  where
    by : (b : Bool) → has_shape tables section.shape ≡ b
        → (position_from (is_outside tables) (i + 1) sections ≡ None → AllByRecursion (HasItsTable tables) sections)
        → cond (not b) (Some i) (position_from (is_outside tables) (i + 1) sections) ≡ None
        → AllByRecursion (HasItsTable tables) (section ∷ sections)
    by true is more e = (is, more e)
    by false is more e = absurd (none-some i (sym e))

none_without_table : (tables : List Shape) (sections : List Section) (i : ℕ)
    → AllByRecursion (HasItsTable tables) sections → position_from (is_outside tables) i sections ≡ None
none_without_table tables [] i all = refl
none_without_table tables (section ∷ sections) i all =
    ap (λ b. cond (not b) (Some i) (position_from (is_outside tables) (i + 1) sections)) all.0
    ∙ none_without_table tables sections (i + 1) all.1

pub all_have_tables : (tables : List Shape) (sections : List Section) → refusal_of tables sections ≡ None
    → AllByRecursion (HasItsTable tables) sections
all_have_tables tables sections e =
    admitted_from tables sections 0 (sym (position_from-zero (is_outside tables) sections)
    ∙ none_mapped (λ i. refusal_at tables i (slice_get sections i)) _ e)

pub each_has_shape : (tables : List Shape) (sections : List Section) → AllByRecursion (HasItsTable tables) sections
    → refusal_of tables sections ≡ None
each_has_shape tables sections all =
    ap (option_map (λ i. refusal_at tables i (slice_get sections i)))
    (position_from-zero (is_outside tables) sections ∙ none_without_table tables sections 0 all)

pub both_admitted : (tables : List Shape) (some more : List Section) → refusal_of tables some ≡ None
    → refusal_of tables more ≡ None → refusal_of tables (some ++ more) ≡ None
both_admitted tables some more e f = each_has_shape tables (some ++ more)
    (all_append (HasItsTable tables) some more (all_have_tables tables some e) (all_have_tables tables more f))

-- ---- a schema has one table of each name

-- neither a table nor what comes behind it is refused
neither : {A : Type 0} (a b : Option A) → option_or a b ≡ None → (a ≡ None) × (b ≡ None)
neither None b e = (refl, e)
neither (Some x) b e = absurd (none-some x (sym e))

new_name : (earlier : List Shape) (table : Shape) → table_refusal earlier table ≡ None
    → has_name earlier table.name ≡ false
new_name earlier table e = by (has_name earlier table.name) refl e
  where
    by : (b : Bool) → has_name earlier table.name ≡ b
        → cond b (Some (DuplicateTable (length earlier))) (cond (has_valid_shape table && nat_lt (length earlier) 1024)
        None (Some (BadShape (length earlier)))) ≡ None → has_name earlier table.name ≡ false
    by true is e = absurd (none-some _ (sym e))
    by false is e = is

-- no table before has the name of a table of the schema
name_apart : (earlier tables : List Shape) (shape : Shape) → tables_refusal earlier tables ≡ None
    → has_shape tables shape ≡ true → has_name earlier shape.name ≡ false
name_apart earlier [] shape valid there = absurd (false≢true there)
name_apart earlier (table ∷ tables) shape valid there =
    by (same_shape table shape) refl there (name_apart (earlier ++ table ∷ []) tables shape parts.1)
  where
    parts : (table_refusal earlier table ≡ None) × (tables_refusal (earlier ++ table ∷ []) tables ≡ None)
    parts = neither (table_refusal earlier table) (tables_refusal (earlier ++ table ∷ []) tables) valid

    by : (b : Bool) → same_shape table shape ≡ b → (b || has_shape tables shape) ≡ true
        → (has_shape tables shape ≡ true → has_name (earlier ++ table ∷ []) shape.name ≡ false)
        → has_name earlier shape.name ≡ false
    by true is there more = ap (λ s. has_name earlier s.name) (sym (same_is table shape is))
        ∙ new_name earlier table parts.0
    by false is there more =
        (or_parts (has_name earlier shape.name) (has_name (table ∷ []) shape.name)
        (sym (list_any-append (λ t. same_bytes t.name shape.name) earlier (table ∷ [])) ∙ more there)).0

-- so two of its tables with one name are the same
pub one_of_name : (earlier tables : List Shape) (a b : Shape) → tables_refusal earlier tables ≡ None
    → has_shape tables a ≡ true → has_shape tables b ≡ true → a.name ≡ b.name → a ≡ b
one_of_name earlier [] a b valid in_a in_b same = absurd (false≢true in_a)
one_of_name earlier (table ∷ tables) a b valid in_a in_b same =
    by (same_shape table a) (same_shape table b) refl refl in_a in_b
    (λ h k. one_of_name (earlier ++ table ∷ []) tables a b rest h k same)
  where
    rest : tables_refusal (earlier ++ table ∷ []) tables ≡ None
    rest = (neither (table_refusal earlier table) (tables_refusal (earlier ++ table ∷ []) tables) valid).1

    -- a table behind this one has another name
    other : (shape : Shape) → has_shape tables shape ≡ true → table.name ≡ shape.name → ⊥
    other shape there is =
        let apart = or_parts (has_name earlier shape.name) (has_name (table ∷ []) shape.name)
        (sym (list_any-append (λ t. same_bytes t.name shape.name) earlier (table ∷ []))
        ∙ name_apart (earlier ++ table ∷ []) tables shape rest there) in
        let equal : same_bytes table.name shape.name ≡ true =
        ap (λ n. same_bytes n shape.name) is ∙ nat_list_eq_equiv.refl shape.name in
        false≢true (sym apart.1 ∙ ap (λ b. b || false) equal)

    by : (g h : Bool) → same_shape table a ≡ g → same_shape table b ≡ h → (g || has_shape tables a) ≡ true
        → (h || has_shape tables b) ≡ true → (has_shape tables a ≡ true → has_shape tables b ≡ true → a ≡ b) → a ≡ b
    by true true is_a is_b there_a there_b more = sym (same_is table a is_a) ∙ same_is table b is_b
    by true false is_a is_b there_a there_b more =
        absurd (other b there_b (ap (λ s. s.name) (same_is table a is_a) ∙ same))
    by false true is_a is_b there_a there_b more =
        absurd (other a there_a (ap (λ s. s.name) (same_is table b is_b) ∙ sym same))
    by false false is_a is_b there_a there_b more = more there_a there_b

-- ---- none of them clashes

alike_here : (tables : List Shape) (section earlier : Section) → IsSchema tables → HasItsTable tables earlier
    → HasItsTable tables section → differs_from section earlier ≡ false
alike_here tables section earlier valid old new = by (same_bytes earlier.shape.name section.shape.name) refl
  where
    by : (b : Bool) → same_bytes earlier.shape.name section.shape.name ≡ b
        → (b && not (same_shape earlier.shape section.shape)) ≡ false
    by false is = refl
    by true is =
        let same : earlier.shape ≡ section.shape = one_of_name [] tables earlier.shape section.shape valid old new
        (same_text earlier.shape.name section.shape.name (sym is)) in
        ap (λ s. not (same_shape s section.shape)) same ∙ ap not (same_itself section.shape)

no_clash_with : (tables : List Shape) (section : Section) (earlier : List Section) → IsSchema tables
    → AllByRecursion (HasItsTable tables) earlier → HasItsTable tables section → clashes earlier section ≡ false
no_clash_with tables section [] valid old new = refl
no_clash_with tables section (first ∷ earlier) valid old new =
    ap (λ b. b || clashes earlier section) (alike_here tables section first valid old.0 new)
    ∙ no_clash_with tables section earlier valid old.1 new

no_clash_in : (tables : List Shape) (earlier more : List Section) → IsSchema tables
    → AllByRecursion (HasItsTable tables) earlier → AllByRecursion (HasItsTable tables) more
    → first_clash earlier more ≡ None
no_clash_in tables earlier [] valid old new = refl
no_clash_in tables earlier (section ∷ more) valid old new =
    ap (λ b. cond b (Some 0) (option_map suc (first_clash (earlier ++ section ∷ []) more)))
    (no_clash_with tables section earlier valid old new.0)
    ∙ ap (option_map suc) (no_clash_in tables (earlier ++ section ∷ []) more valid
    (all_push (HasItsTable tables) earlier section old new.0) new.1)

pub admitted_apart : (tables : List Shape) (earlier more : List Section) → IsSchema tables
    → refusal_of tables earlier ≡ None → refusal_of tables more ≡ None → first_clash earlier more ≡ None
admitted_apart tables earlier more valid old new =
    no_clash_in tables earlier more valid (all_have_tables tables earlier old) (all_have_tables tables more new)
