-- Rows as bytes: the bytes of a row decode to the row.
use Rattle.std.proofs.Common.{◌≡◌, ◌↔◌, Bool, true, List, [], ◌∷◌, ◌++◌, ℕ, refl, sym, ap, subst, ◌∙◌}
use Rattle.std.specs.List.{AllByRecursion, list_all}
use Rattle.std.proofs.lemmas.List.{map-append}
use Rattle.cs_model.specs.declared.value.Value.{Value}
use Rattle.cs_model.specs.declared.value.Field.{Field}
use Rattle.cs_model.specs.declared.value.Field.TheVariants.{Undefined, Is}
use Rattle.cs_model.specs.FieldBytes.{field_bytes}
use Rattle.cs_model.specs.Packed.{packed, Fits, Packs, unpacked}
use Rattle.cs_model.specs.Row.{row_fields, values_of}
use Rattle.cs_model.specs.Rule.{is_defined}
use Rattle.cs_model.specs.Schema.{same_bytes}
use Rattle.cs_model.proofs.packing.PackedLaws.{packed_unpacked, fit_push, packed_push, same_said}

-- ---- a row and the record that says it

values_back : (row : List Value) → values_of (row_fields row) ≡ row
values_back [] = refl
values_back (v ∷ row) = ap (λ (vs : List Value). v ∷ vs) (values_back row)

-- a record whose fields all have a value says a row
pub row_all_defined : (fields : List Field) → list_all is_defined fields ≡ true → row_fields (values_of fields) ≡ fields
row_all_defined [] all = refl
row_all_defined (Undefined ∷ fields) all = absurd cc
row_all_defined (Is v ∷ fields) all = ap (λ (fs : List Field). Is v ∷ fs) (row_all_defined fields all)

-- ---- what is made packs what it was made of

pub row_made : (bytes : List ℕ) (row : List Value) → bytes ≡ packed (row_fields row)
    → AllByRecursion Fits (row_fields row)
    → (values_of (unpacked bytes) ≡ row) × Packs bytes (row_fields (values_of (unpacked bytes)))
row_made bytes row parts fit =
    let says : values_of (unpacked bytes) ≡ row = rw (parts, packed_unpacked (row_fields row) fit) (values_back row) in
    (says, subst (λ (vs : List Value). Packs bytes (row_fields vs)) (sym says) (record { parts = parts; fit = fit }))

pub row_of : (bytes : List ℕ) (fields : List Field) → list_all is_defined fields ≡ true → bytes ≡ packed fields
    → AllByRecursion Fits fields
    → (values_of (unpacked bytes) ≡ values_of fields) × Packs bytes (row_fields (values_of (unpacked bytes)))
row_of bytes fields all parts fit =
    let same = sym (row_all_defined fields all) in
    row_made bytes (values_of fields) (parts ∙ ap packed same)
    (subst (λ (fs : List Field). AllByRecursion Fits fs) same fit)

pub row_seen : (bytes : List ℕ) (row : List Value) → Packs bytes (row_fields (values_of (unpacked bytes)))
    → values_of (unpacked bytes) ≡ row → unpacked bytes ≡ row_fields row
row_seen bytes row packs is = ap unpacked packs.parts
    ∙ packed_unpacked (row_fields (values_of (unpacked bytes))) packs.fit ∙ ap row_fields is

pub row_pushed : (old new : List ℕ) (f : Field) → is_defined f ≡ true → Fits f
    → Packs old (row_fields (values_of (unpacked old))) → new ≡ old ++ field_bytes f
    → (values_of (unpacked new) ≡ values_of (unpacked old) ++ values_of (f ∷ []))
    × Packs new (row_fields (values_of (unpacked new)))
row_pushed old new Undefined defined fits packs added = absurd cc
row_pushed old new (Is v) defined fits packs added =
    let row = values_of (unpacked old) in
    let more : row_fields row ++ Is v ∷ [] ≡ row_fields (row ++ v ∷ []) =
    sym (map-append (λ (value : Value). Is value) row (v ∷ [])) in
    let bytes : new ≡ packed (row_fields row ++ Is v ∷ []) =
    added ∙ (ap (λ (w : List ℕ). w ++ field_bytes (Is v)) packs.parts ∙ sym (packed_push (row_fields row) (Is v)))
    in
    row_made new (row ++ v ∷ []) (bytes ∙ ap packed more)
    (subst (λ (fs : List Field). AllByRecursion Fits fs) more (fit_push (row_fields row) (Is v) packs.fit fits))

pub same_rows : (a b : List ℕ) (r : Bool) → Packs a (row_fields (values_of (unpacked a)))
    → Packs b (row_fields (values_of (unpacked b))) → r ≡ same_bytes a b
    → (r ≡ true) ↔ (values_of (unpacked a) ≡ values_of (unpacked b))
same_rows a b r p q e = same_said (λ (w : List ℕ). values_of (unpacked w))
    (λ (row : List Value). packed (row_fields row)) a b r p.parts q.parts e
