-- Fields that are replaced where they stand, one column after another.
use Rattle.std.proofs.Common.{◌≡◌, ◌∙◌, ℕ, ◌+◌, ◌≤◌, ◌<◌, List, [], ◌∷◌, ◌++◌, length, take}
use Rattle.std.proofs.Common.{Bool, true, false, if◌then◌else◌, Some, slice_get, slice_set, refl, sym, ap}
use Rattle.std.proofs.Common.{append_assoc, arith}
use Rattle.std.proofs.Common.{length-append}
use Rattle.std.proofs.Math.Seq.{take-append_seam}
use Rattle.std.proofs.lemmas.List.{append-nil, map-append}
use Rattle.cs_model.specs.declared.value.Field.{Field}
use Rattle.cs_model.specs.declared.field_ref.FieldRef.{FieldRef}
use Rattle.cs_model.specs.Seen.{field_seen, fields_seen}
use Rattle.cs_group.specs.Merge.{field_or, record_or}

-- ---- a list at one place

pub list_get_at : {A : Type 0} (front : List A) (first : A) (others : List A)
    → slice_get (front ++ first ∷ others) (length front) ≡ Some first
list_get_at [] first others = refl
list_get_at (x ∷ front) first others = list_get_at front first others

pub list_set_at : {A : Type 0} (front : List A) (first x : A) (others : List A)
    → slice_set (front ++ first ∷ others) (length front) x ≡ front ++ x ∷ others
list_set_at [] first x others = refl
list_set_at (y ∷ front) first x others = ap (λ ys. y ∷ ys) (list_set_at front first x others)

-- ---- some columns are done

-- The fields before a column are done. What becomes of those from the column on makes the whole.
pub record ColumnsDone (items : List FieldRef) (column : ℕ) (rest : List Field → List Field) (whole : List Field)
    (most : ℕ) : Type 0 where
  pub front : List FieldRef
  pub back : List FieldRef
  pub parts : items ≡ front ++ back
  pub at : length front ≡ column
  pub size : length items ≡ most
  pub made : fields_seen front ++ rest (fields_seen back) ≡ whole

pub none_done : (items : List FieldRef) (rest : List Field → List Field) (whole : List Field) (most : ℕ)
    → rest (fields_seen items) ≡ whole → length items ≡ most → ColumnsDone items 0 rest whole most
none_done items rest whole most is size =
    record { front = []; back = items; parts = refl; at = refl; size = size; made = is }

-- the field of the column
record ColumnFirst (items : List FieldRef) (column : ℕ) (rest : List Field → List Field) (whole : List Field)
    (most : ℕ) : Type 0 where
  front : List FieldRef
  first : FieldRef
  others : List FieldRef
  parts : items ≡ front ++ first ∷ others
  at : length front ≡ column
  size : length items ≡ most
  made : fields_seen front ++ rest (field_seen first ∷ fields_seen others) ≡ whole

column_first : (items : List FieldRef) (column : ℕ) (rest : List Field → List Field) (whole : List Field) (most : ℕ)
    → ColumnsDone items column rest whole most → column < most → ColumnFirst items column rest whole most
column_first items column rest whole most d some = by d.back d.parts d.made
  where
    by : (back : List FieldRef) → items ≡ d.front ++ back → fields_seen d.front ++ rest (fields_seen back) ≡ whole
        → ColumnFirst items column rest whole most
    by [] parts made = absurd (omega (arith, some, d.at, d.size, ap length parts, length-append d.front []))
    by (first ∷ others) parts made = record {
      front = d.front;
      first = first;
      others = others;
      parts = parts;
      at = d.at;
      size = d.size;
      made = made;
    }

one_done : (front : List FieldRef) (x : FieldRef) (rest later : List Field → List Field) (first : Field)
    (others whole : List Field) → rest (first ∷ others) ≡ field_seen x ∷ later others
    → fields_seen front ++ rest (first ∷ others) ≡ whole → fields_seen (front ++ x ∷ []) ++ later others ≡ whole
one_done front x rest later first others whole is made =
    ap (λ fs. fs ++ later others) (map-append field_seen front (x ∷ []))
    ∙ append_assoc (fields_seen front) (field_seen x ∷ []) (later others)
    ∙ ap (λ fs. fields_seen front ++ fs) (sym is) ∙ made

-- the column's field is replaced
pub set_done : (items : List FieldRef) (column : ℕ) (rest later : List Field → List Field) (whole : List Field)
    (most : ℕ) (x : FieldRef) → ColumnsDone items column rest whole most → column < most
    → ((first : FieldRef) (others : List Field) → slice_get items column ≡ Some first
    → rest (field_seen first ∷ others) ≡ field_seen x ∷ later others)
    → ColumnsDone (slice_set items column x) (column + 1) later whole most
set_done items column rest later whole most x d some turns =
    let f = column_first items column rest whole most d some in
    let there : slice_get items column ≡ Some f.first =
    (λ i. slice_get (f.parts i) (sym f.at i)) ∙ list_get_at f.front f.first f.others in
    let after : slice_set items column x ≡ f.front ++ x ∷ f.others =
    (λ i. slice_set (f.parts i) (sym f.at i) x) ∙ list_set_at f.front f.first x f.others in
    record {
      front = f.front ++ x ∷ [];
      back = f.others;
      parts = after ∙ sym (append_assoc f.front (x ∷ []) f.others);
      at = omega (arith, length-append f.front (x ∷ []), f.at);
      size = omega (
        arith,
        ap length after,
        ap length f.parts,
        length-append f.front (x ∷ f.others),
        length-append f.front (f.first ∷ f.others),
        f.size,
      );
      made = one_done f.front x rest later (field_seen f.first) (fields_seen f.others) whole
          (turns f.first (fields_seen f.others) there) f.made;
    }

-- nothing becomes of the columns that are left
pub cut_done : (items : List FieldRef) (column : ℕ) (rest : List Field → List Field) (whole : List Field) (most : ℕ)
    → ColumnsDone items column rest whole most → ((back : List Field) → rest back ≡ [])
    → fields_seen (take column items) ≡ whole
cut_done items column rest whole most d none =
    ap fields_seen ((λ i. take (sym d.at i) (d.parts i)) ∙ take-append_seam d.front d.back)
    ∙ sym (append-nil (fields_seen d.front)) ∙ ap (λ fs. fields_seen d.front ++ fs) (sym (none (fields_seen d.back)))
    ∙ d.made

-- no column is left
pub columns_all_done : (items : List FieldRef) (column : ℕ) (rest : List Field → List Field) (whole : List Field)
    (most : ℕ) → ColumnsDone items column rest whole most → most ≤ column → rest [] ≡ [] → fields_seen items ≡ whole
columns_all_done items column rest whole most d over none = by d.back d.parts d.made
  where
    by : (back : List FieldRef) → items ≡ d.front ++ back → fields_seen d.front ++ rest (fields_seen back) ≡ whole
        → fields_seen items ≡ whole
    by [] parts made =
        ap fields_seen (parts ∙ append-nil d.front) ∙ sym (append-nil (fields_seen d.front))
        ∙ ap (λ fs. fields_seen d.front ++ fs) (sym none) ∙ made
    by (first ∷ others) parts made =
        absurd (omega (arith, over, d.at, d.size, ap length parts, length-append d.front (first ∷ others)))

-- ---- a record's values in place of another's fields: of all, or of the undefined ones

abbrev pub put_all : Bool → List Field → List Field → List Field
put_all all values fields = if all then record_or values fields else record_or fields values

abbrev pub put_one : Bool → Field → Field → Field
put_one all value field = if all then field_or value field else field_or field value

pub one_by : (all : Bool) (value field : Field) (values fields : List Field)
    → put_all all (value ∷ values) (field ∷ fields) ≡ put_one all value field ∷ put_all all values fields
one_by true value field values fields = refl
one_by false value field values fields = refl

record_or_none : (fields : List Field) → record_or fields [] ≡ []
record_or_none [] = refl
record_or_none (field ∷ fields) = refl

pub by_no_value : (all : Bool) (fields : List Field) → put_all all [] fields ≡ []
by_no_value true fields = refl
by_no_value false fields = record_or_none fields

pub to_no_field : (all : Bool) (values : List Field) → put_all all values [] ≡ []
to_no_field true values = record_or_none values
to_no_field false values = refl
