-- Rows and records, column by column and as bytes.
use Rattle.std.proofs.Common.{◌≡◌, ◌<◌, ℕ, ℤ, Bool, true, false, cond, eqb, inl, inr, List, [], ◌∷◌, ◌++◌, length, map}
use Rattle.std.proofs.Common.{drop, take, Option, Some, None, refl, sym, ap, subst, ◌∙◌, append_assoc}
use Rattle.std.specs.Prelude.{◌&&◌, MatchOption}
use Rattle.std.specs.Option.{option_map}
use Rattle.std.specs.Ordering.{int_eq}
use Rattle.std.specs.List.{list_all, AllByRecursion}
use Rattle.std.specs.Cmp.Lexicographic.{pointwise, same_text, nat_list_eq_equiv}
use Rattle.std.proofs.lemmas.Bool.{cases_Bool, and_parts, and_from, false≢true}
use Rattle.std.proofs.lemmas.Bool.Decides.{Decides-int_eq, Decides-eqb}
use Rattle.std.proofs.lemmas.Slice.Eq.{starts_is}
use Rattle.cs_model.specs.declared.value.Value.{Value}
use Rattle.cs_model.specs.declared.value.Value.TheVariants.{Integer, Text, Blob, Null}
use Rattle.cs_model.specs.declared.value.Field.{Field}
use Rattle.cs_model.specs.declared.value.Field.TheVariants.{Undefined, Is}
use Rattle.cs_model.specs.FieldBytes.{field_bytes}
use Rattle.std.proofs.lemmas.List.{append-nil, drop_more}
use Rattle.cs_model.specs.Packed.{packed, fields_in, unpacked, Fits}
use Rattle.cs_model.specs.Row.{row_fields, values_of}
use Rattle.cs_model.specs.Rule.{Given, Key, is_defined, is_key_value, row_rule, meets}
use Rattle.cs_model.specs.Changeset.{AreRecords, IsChange, Obeys}
use Rattle.cs_model.specs.declared.change.Change.{Change}
use Rattle.cs_model.specs.declared.change.Op.{Op}
use Rattle.cs_model.specs.declared.change.Op.TheVariants.{Insert, Delete}
use Rattle.cs_model.specs.declared.shape.Shape.{Shape}
use Rattle.cs_apply.specs.Effect.{same_value, agrees, all_agree, rest_agrees, updated_field, updated}
use Rattle.cs_apply.specs.Steps.{chosen, merged, field_agrees, fields_agree}

-- ---- a row's record in the place of the row

field_agrees_is : (field : Field) (value : Value) → field_agrees field (Is value) ≡ agrees field value
field_agrees_is Undefined value = refl
field_agrees_is (Is old) value = refl

all_past : (flags : List ℕ) (values : List Field) → fields_agree flags [] values ≡ true
all_past [] values = refl
all_past (flag ∷ flags) values = refl

pub rest_agrees_is : (flags : List ℕ) (fields : List Field) (row : List Value)
    → fields_agree flags fields (row_fields row) ≡ rest_agrees flags fields row
rest_agrees_is [] fields row = refl
rest_agrees_is (flag ∷ flags) [] row = refl
rest_agrees_is (flag ∷ flags) (field ∷ fields) [] = refl
rest_agrees_is (flag ∷ flags) (field ∷ fields) (value ∷ row) =
    let rest = rest_agrees_is flags fields row in
    λ i. cond (eqb flag 0) (field_agrees_is field value i && rest i) (rest i)

-- the columns end
pub no_field : (flags : List ℕ) (i : ℕ) (fields values : List Field) (total : Bool) → fields ≡ []
    → fields_agree (drop i flags) fields values ≡ total → true ≡ total
no_field flags i fields values total none so_far = sym (all_past (drop i flags) values)
    ∙ (ap (λ (fs : List Field). fields_agree (drop i flags) fs values) (sym none) ∙ so_far)

pub no_value : (flags : List ℕ) (i : ℕ) (field : Field) (rest fields values : List Field) (total : Bool) → i
    < length flags → fields ≡ field ∷ rest → values ≡ [] → fields_agree (drop i flags) fields values ≡ total → false
    ≡ total
no_value flags i field rest fields values total lt some none so_far =
    sym (λ k. fields_agree (drop_more flags i 0 lt k) (some k) (none k)) ∙ so_far

chosen_is : (field : Field) (value : Value) → chosen (Some field) (Is value) ≡ Is (updated_field field value)
chosen_is Undefined value = refl
chosen_is (Is new) value = refl

merged_none : (row : List Value) → values_of (merged [] (row_fields row)) ≡ row
merged_none [] = refl
merged_none (value ∷ row) = ap (λ (r : List Value). value ∷ r) (merged_none row)

pub updated_is : (fields : List Field) (row : List Value) → values_of (merged fields (row_fields row))
    ≡ updated fields row
updated_is [] row = merged_none row
updated_is (field ∷ fields) [] = refl
updated_is (field ∷ fields) (value ∷ row) =
    ap (λ (f : Field). values_of (f ∷ merged fields (row_fields row))) (chosen_is field value)
    ∙ ap (λ (r : List Value). updated_field field value ∷ r) (updated_is fields row)

-- ---- one column more

first_value : (field : Field) (fields : List Field) → values_of (field ∷ fields) ≡ values_of (field ∷ [])
    ++ values_of fields
first_value Undefined fields = refl
first_value (Is value) fields = refl

pub merged_more : (made : List Value) (field : Field) (fields : List Field) (value : Field) (values : List Field)
    (total : List Value)
    → made ++ values_of (merged (field ∷ fields) (value ∷ values)) ≡ total
    → (made ++ values_of (chosen (Some field) value ∷ [])) ++ values_of (merged fields values) ≡ total
merged_more made field fields value values total so_far =
    append_assoc made _ _
    ∙ (ap (λ (r : List Value). made ++ r) (sym (first_value (chosen (Some field) value) (merged fields values)))
    ∙ so_far)

pub merged_past : (made : List Value) (value : Field) (values : List Field) (total : List Value)
    → made ++ values_of (merged [] (value ∷ values)) ≡ total → (made ++ values_of (chosen None value ∷ []))
    ++ values_of (merged [] values) ≡ total
merged_past made value values total so_far =
    append_assoc made _ _
    ∙ (ap (λ (r : List Value). made ++ r) (sym (first_value (chosen None value) (merged [] values))) ∙ so_far)

-- what a cursor over the record gives, and the one behind it
pub merged_next : (given : Option Field) (made new : List Value) (field value : Field)
    (old fields all values : List Field) (total : List Value)
    → MatchOption given ((old ≡ []) × (fields ≡ [])) (λ first. old ≡ first ∷ fields)
    → all ≡ value ∷ values → field ≡ chosen given value → new ≡ made ++ values_of (field ∷ [])
    → made ++ values_of (merged old all) ≡ total → new ++ values_of (merged fields values) ≡ total
merged_next None made new field value old fields all values total next is one added so_far =
    let before : made ++ values_of (merged [] (value ∷ values)) ≡ total =
    (λ i. made ++ values_of (merged (sym next.0 i) (sym is i))) ∙ so_far in
    (λ i. (added ∙ ap (λ (f : Field). made ++ values_of (f ∷ [])) one) i ++ values_of (merged (next.1 i) values))
    ∙ merged_past made value values total before
merged_next (Some first) made new field value old fields all values total next is one added so_far =
    let before : made ++ values_of (merged (first ∷ fields) (value ∷ values)) ≡ total =
    (λ i. made ++ values_of (merged (sym next i) (sym is i))) ∙ so_far in
    (λ i. (added ∙ ap (λ (f : Field). made ++ values_of (f ∷ [])) one) i ++ values_of (merged fields values))
    ∙ merged_more made first fields value values total before

-- an option that is seen otherwise
pub seen_next : {A : Type 0} (see : A → Field) (given : Option A) (old fields : List Field)
    → MatchOption given ((old ≡ []) × (fields ≡ [])) (λ x. old ≡ see x ∷ fields)
    → MatchOption (option_map see given) ((old ≡ []) × (fields ≡ [])) (λ first. old ≡ first ∷ fields)
seen_next see None old fields h = h
seen_next see (Some x) old fields h = h

-- ---- the same bytes

int_is : (a b : ℤ) → int_eq a b ≡ true → a ≡ b
int_is a b h = (Decides-int_eq a b).0 h

int_itself : (a : ℤ) → int_eq a a ≡ true
int_itself a = (Decides-int_eq a a).1 refl

pub value_is : (a b : Value) → same_value a b ≡ true → a ≡ b
value_is (Integer a) (Integer b) h = ap (λ (n : ℤ). Integer n) (int_is a b h)
value_is (Integer a) (Text b) h = absurd (false≢true h)
value_is (Integer a) (Blob b) h = absurd (false≢true h)
value_is (Integer a) Null h = absurd (false≢true h)
value_is (Text a) (Integer b) h = absurd (false≢true h)
value_is (Text a) (Text b) h = ap (λ (w : List ℕ). Text w) (same_text a b (sym h))
value_is (Text a) (Blob b) h = absurd (false≢true h)
value_is (Text a) Null h = absurd (false≢true h)
value_is (Blob a) (Integer b) h = absurd (false≢true h)
value_is (Blob a) (Text b) h = absurd (false≢true h)
value_is (Blob a) (Blob b) h = ap (λ (w : List ℕ). Blob w) (same_text a b (sym h))
value_is (Blob a) Null h = absurd (false≢true h)
value_is Null (Integer b) h = absurd (false≢true h)
value_is Null (Text b) h = absurd (false≢true h)
value_is Null (Blob b) h = absurd (false≢true h)
value_is Null Null h = refl

pub itself : (a : Value) → same_value a a ≡ true
itself (Integer n) = int_itself n
itself (Text bytes) = nat_list_eq_equiv.refl bytes
itself (Blob bytes) = nat_list_eq_equiv.refl bytes
itself Null = refl

-- a row that begins with a record's fields agrees with it
front_agrees : (fields : List Field) (row : List Value) (more : List Field) → row_fields row ≡ fields ++ more
    → all_agree fields row ≡ true
front_agrees [] row more h = refl
front_agrees (field ∷ fields) [] more h = absurd cc
front_agrees (field ∷ fields) (value ∷ row) more h =
    let first : field ≡ Is value = cc in
    let others : row_fields row ≡ fields ++ more = cc in
    and_from (agrees field value) (all_agree fields row) (ap (λ (f : Field). agrees f value) first ∙ itself value)
    (front_agrees fields row more others)

-- and the other way round, where each field says something
record ColumnsFrontOf (fields : List Field) (row : List Value) : Type 0 where
  pub more : List Value
  pub parts : row_fields row ≡ fields ++ row_fields more

agrees_front : (fields : List Field) (row : List Value) → list_all is_defined fields ≡ true → all_agree fields row
    ≡ true → ColumnsFrontOf fields row
agrees_front [] row given h = record { more = row; parts = refl }
agrees_front (field ∷ fields) [] given h = absurd (false≢true h)
agrees_front (Undefined ∷ fields) (value ∷ row) given h = absurd (false≢true given)
agrees_front (Is old ∷ fields) (value ∷ row) given h =
    let parts = and_parts (same_value old value) (all_agree fields row) h in
    let rest = agrees_front fields row given parts.1 in
    record { more = rest.more; parts = λ i. Is (sym (value_is old value parts.0) i) ∷ rest.parts i }

packed_more : (fields more : List Field) → packed (fields ++ more) ≡ packed fields ++ packed more
packed_more [] more = refl
packed_more (field ∷ fields) more = ap (λ (w : List ℕ). field_bytes field ++ w) (packed_more fields more)
    ∙ sym (append_assoc (field_bytes field) (packed fields) (packed more))

abbrev pub FieldsFirst : Type 0
FieldsFirst = (fields : List Field) (rest : List ℕ) → AllByRecursion Fits fields → unpacked (packed fields ++ rest)
    ≡ fields ++ unpacked rest

row_again : FieldsFirst → (row : List Value) → AllByRecursion Fits (row_fields row) → unpacked (packed (row_fields row))
    ≡ row_fields row ++ unpacked []
row_again first row fit = ap unpacked (sym (append-nil (packed (row_fields row)))) ∙ first (row_fields row) [] fit

unpacked_nothing : unpacked [] ≡ []
unfolding unpacked fields_in
unpacked_nothing = refl

pub starts_agree : FieldsFirst → (fields : List Field) (row : List Value) (r : Bool) → list_all is_defined fields ≡ true
    → AllByRecursion Fits fields → AllByRecursion Fits (row_fields row)
    → r ≡ pointwise eqb (packed fields) (take (length (packed fields)) (packed (row_fields row))) → r
    ≡ all_agree fields row
starts_agree first fields row r given fit row_fit e =
    let told = starts_is Decides-eqb (packed (row_fields row)) (packed fields) r e in
    elim (cases_Bool r) [
      | inl hit ↦
          let rest = drop (length (packed fields)) (packed (row_fields row)) in
          let said : row_fields row ≡ fields ++ unpacked rest =
          sym (row_again first row row_fit
          ∙ (ap (λ (w : List Field). row_fields row ++ w) unpacked_nothing ∙ append-nil (row_fields row)))
          ∙ (ap unpacked (told.0 hit) ∙ first fields rest fit) in
          hit ∙ sym (front_agrees fields row (unpacked rest) said)
      | inr missed ↦ elim (cases_Bool (all_agree fields row)) [
        | inl agree ↦
            let front = agrees_front fields row given agree in
            absurd (false≢true (sym missed
            ∙ told.1 (packed (row_fields front.more))
            (ap packed front.parts ∙ packed_more fields (row_fields front.more))))
        | inr other ↦ missed ∙ sym other
      ]
    ]

-- ---- the record of a whole row has a value in each column

key_defined : (field : Field) → is_key_value field ≡ true → is_defined field ≡ true
key_defined Undefined h = absurd (false≢true h)
key_defined (Is value) h = refl

rule_defined : (b : Bool) (field : Field) → meets (cond b Given Key) field ≡ true → is_defined field ≡ true
rule_defined true field h = h
rule_defined false field h = key_defined field h

all_defined : (flags : List ℕ) (fields : List Field) → Obeys (map row_rule flags) fields
    → list_all is_defined fields ≡ true
all_defined [] [] h = refl
all_defined [] (field ∷ fields) h = absurd h
all_defined (flag ∷ flags) [] h = absurd h
all_defined (flag ∷ flags) (field ∷ fields) h =
    and_from (is_defined field) (list_all is_defined fields) (rule_defined (eqb flag 0) field h.1)
    (all_defined flags fields h.2)

-- so an INSERT has a value for each column, and so has a DELETE
pub inserted_defined : (shape : Shape) (change : Change) → change.op ≡ Insert → IsChange shape change
    → list_all is_defined change.after ≡ true
inserted_defined shape change is fits = all_defined shape.flags change.after
    (subst (λ (op : Op). AreRecords shape.flags op change.before change.after) is fits).1

pub deleted_defined : (shape : Shape) (change : Change) → change.op ≡ Delete → IsChange shape change
    → list_all is_defined change.before ≡ true
deleted_defined shape change is fits = all_defined shape.flags change.before
    (subst (λ (op : Op). AreRecords shape.flags op change.before change.after) is fits).0
