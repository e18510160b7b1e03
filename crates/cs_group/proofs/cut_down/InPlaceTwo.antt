-- The two records of an UPDATE, cut down where they stand to the columns that it changes.
use Rattle.std.proofs.Common.{◌≡◌, ◌∙◌, ℕ, zero, suc, ◌+◌, ◌≤◌, List, [], ◌∷◌, ◌++◌, length, take, min, Bool, false}
use Rattle.std.proofs.Common.{Some, None}
use Rattle.std.proofs.Common.{slice_get, slice_set, refl, sym, ap, append_assoc, length-append, arith}
use Rattle.std.proofs.Math.Bool.{or-false}
use Rattle.std.proofs.lemmas.List.{append-nil, length-set, length-take-le, map-append}
use Rattle.std.proofs.lemmas.List.Folds.{list_any-append}
use Rattle.std.proofs.lemmas.Option.{none-some}
use Rattle.std.specs.List.{list_any}
use Rattle.std.specs.Prelude.{◌||◌}
use Rattle.cs_model.specs.Rule.{is_defined}
use Rattle.cs_model.specs.declared.value.Field.{Field}
use Rattle.cs_model.specs.declared.field_ref.FieldRef.{FieldRef}
use Rattle.cs_model.specs.Seen.{field_seen, fields_seen}
use Rattle.cs_group.specs.Merge.{by_column, new_if_changed, news_changed, old_if_changed, olds_changed}
use Rattle.cs_group.proofs.cut_down.InPlace.{list_get_at, list_set_at}

-- ---- both records are cut where one of them or the flags end

columns_cut : (make : ℕ → Field → Field → Field) (n : ℕ) (flags : List ℕ) (before after : List FieldRef)
    → n ≡ min (min (length flags) (length before)) (length after)
    → by_column make flags (fields_seen (take n before)) (fields_seen (take n after))
    ≡ by_column make flags (fields_seen before) (fields_seen after)
columns_cut make zero [] before after is = refl
columns_cut make zero (flag ∷ flags) [] after is = refl
columns_cut make zero (flag ∷ flags) (old ∷ before) [] is = refl
columns_cut make zero (flag ∷ flags) (old ∷ before) (new ∷ after) is = absurd (omega (arith, is))
columns_cut make (suc n) [] before after is = refl
columns_cut make (suc n) (flag ∷ flags) [] after is = refl
columns_cut make (suc n) (flag ∷ flags) (old ∷ before) [] is = refl
columns_cut make (suc n) (flag ∷ flags) (old ∷ before) (new ∷ after) is =
    ap (λ fs. make flag (field_seen old) (field_seen new) ∷ fs)
    (columns_cut make n flags before after (omega (arith, is)))

-- ---- some columns are done

-- The columns before this one are done in both records, which have `columns` each. `any` says whether they have a new
-- value.
pub record BothDone (before after : List FieldRef) (column columns : ℕ) (flags : List ℕ) (olds news : List Field)
    (any : Bool) : Type 0 where
  pub old_front : List FieldRef
  pub new_front : List FieldRef
  pub old_back : List FieldRef
  pub new_back : List FieldRef
  pub old_parts : before ≡ old_front ++ old_back
  pub new_parts : after ≡ new_front ++ new_back
  pub old_at : length old_front ≡ column
  pub new_at : length new_front ≡ column
  pub old_size : length before ≡ columns
  pub new_size : length after ≡ columns
  pub old_made : fields_seen old_front ++ olds_changed flags (fields_seen old_back) (fields_seen new_back) ≡ olds
  pub new_made : fields_seen new_front ++ news_changed flags (fields_seen old_back) (fields_seen new_back) ≡ news
  pub any_made : list_any is_defined (fields_seen new_front) ≡ any

pub none_both : (before after old_cut new_cut : List FieldRef) (columns : ℕ) (flags : List ℕ)
    → columns ≡ min (min (length flags) (length before)) (length after) → old_cut ≡ take columns before
    → new_cut ≡ take columns after
    → BothDone old_cut new_cut 0 columns flags (olds_changed flags (fields_seen before) (fields_seen after))
    (news_changed flags (fields_seen before) (fields_seen after)) false
none_both before after old_cut new_cut columns flags is is_old is_new = record {
  old_front = [];
  new_front = [];
  old_back = old_cut;
  new_back = new_cut;
  old_parts = refl;
  new_parts = refl;
  old_at = refl;
  new_at = refl;
  old_size = ap length is_old ∙ length-take-le columns before (omega (arith, is));
  new_size = ap length is_new ∙ length-take-le columns after (omega (arith, is));
  old_made = (λ i. olds_changed flags (fields_seen (is_old i)) (fields_seen (is_new i)))
      ∙ columns_cut old_if_changed columns flags before after is;
  new_made = (λ i. news_changed flags (fields_seen (is_old i)) (fields_seen (is_new i)))
      ∙ columns_cut new_if_changed columns flags before after is;
  any_made = refl;
}

-- ---- the field of a column

past_front : {A : Type 0} (front : List A) → slice_get (front ++ []) (length front) ≡ None
past_front [] = refl
past_front (x ∷ front) = past_front front

-- there is one
pub here_is : {A : Type 0} (items front back : List A) (column : ℕ) (x : A) → items ≡ front ++ back
    → length front ≡ column → slice_get items column ≡ Some x → (others : List A) × (back ≡ x ∷ others)
here_is items front [] column x parts at is =
    absurd (none-some x (sym (past_front front) ∙ (λ i. slice_get (sym parts i) (at i)) ∙ is))
here_is items front (first ∷ others) column x parts at is =
    let both : Some first ≡ Some x =
    sym (list_get_at front first others) ∙ (λ i. slice_get (sym parts i) (at i)) ∙ is in
    let same : first ≡ x = cc in
    (others, ap (λ f. f ∷ others) same)

-- ---- one column more

column_more : (front : List FieldRef) (x : FieldRef) (first : Field) (rest whole : List Field) → first ≡ field_seen x
    → fields_seen front ++ first ∷ rest ≡ whole → fields_seen (front ++ x ∷ []) ++ rest ≡ whole
column_more front x first rest whole is made =
    ap (λ fs. fs ++ rest) (map-append field_seen front (x ∷ []))
    ∙ append_assoc (fields_seen front) (field_seen x ∷ []) rest
    ∙ ap (λ f. fields_seen front ++ f ∷ rest) (sym is) ∙ made

column_replaced : {A : Type 0} (items front others : List A) (column : ℕ) (first x : A)
    → items ≡ front ++ first ∷ others → length front ≡ column → slice_set items column x ≡ (front ++ x ∷ []) ++ others
column_replaced items front others column first x parts at =
    (λ i. slice_set (parts i) (sym at i) x) ∙ list_set_at front first x others
    ∙ sym (append_assoc front (x ∷ []) others)

pub both_more : (before after : List FieldRef) (column columns flag : ℕ) (flags : List ℕ) (olds news : List Field)
    (any : Bool) (old new x y : FieldRef) → BothDone before after column columns (flag ∷ flags) olds news any
    → slice_get before column ≡ Some old → slice_get after column ≡ Some new
    → field_seen x ≡ old_if_changed flag (field_seen old) (field_seen new)
    → field_seen y ≡ new_if_changed flag (field_seen old) (field_seen new)
    → BothDone (slice_set before column x) (slice_set after column y) (column + 1) columns flags olds news
    (any || is_defined (field_seen y))
both_more before after column columns flag flags olds news any old new x y d is_old is_new is_x is_y =
    let o = here_is before d.old_front d.old_back column old d.old_parts d.old_at is_old in
    let n = here_is after d.new_front d.new_back column new d.new_parts d.new_at is_new in
    let old_parts : before ≡ d.old_front ++ old ∷ o.0 = d.old_parts ∙ ap (λ fs. d.old_front ++ fs) o.1 in
    let new_parts : after ≡ d.new_front ++ new ∷ n.0 = d.new_parts ∙ ap (λ fs. d.new_front ++ fs) n.1 in
    record {
      old_front = d.old_front ++ x ∷ [];
      new_front = d.new_front ++ y ∷ [];
      old_back = o.0;
      new_back = n.0;
      old_parts = column_replaced before d.old_front o.0 column old x old_parts d.old_at;
      new_parts = column_replaced after d.new_front n.0 column new y new_parts d.new_at;
      old_at = omega (arith, length-append d.old_front (x ∷ []), d.old_at);
      new_at = omega (arith, length-append d.new_front (y ∷ []), d.new_at);
      old_size = length-set before column x ∙ d.old_size;
      new_size = length-set after column y ∙ d.new_size;
      old_made = column_more d.old_front x (old_if_changed flag (field_seen old) (field_seen new))
          (olds_changed flags (fields_seen o.0) (fields_seen n.0)) olds (sym is_x)
          ((λ i. fields_seen d.old_front
          ++ olds_changed (flag ∷ flags) (fields_seen (sym o.1 i)) (fields_seen (sym n.1 i))) ∙ d.old_made);
      new_made = column_more d.new_front y (new_if_changed flag (field_seen old) (field_seen new))
          (news_changed flags (fields_seen o.0) (fields_seen n.0)) news (sym is_y)
          ((λ i. fields_seen d.new_front
          ++ news_changed (flag ∷ flags) (fields_seen (sym o.1 i)) (fields_seen (sym n.1 i))) ∙ d.new_made);
      any_made = ap (list_any is_defined) (map-append field_seen d.new_front (y ∷ []))
          ∙ list_any-append is_defined (fields_seen d.new_front) (field_seen y ∷ [])
          ∙ (λ i. d.any_made i || or-false (is_defined (field_seen y)) i);
    }

-- ---- the end

made_of_none : (make : ℕ → Field → Field → Field) (flags : List ℕ) (after : List Field)
    → by_column make flags [] after ≡ []
made_of_none make [] after = refl
made_of_none make (flag ∷ flags) after = refl

-- all columns are done
pub record IsBothDone (before after : List FieldRef) (olds news : List Field) (any : Bool) : Type 0 where
  pub old_is : fields_seen before ≡ olds
  pub new_is : fields_seen after ≡ news
  pub any_is : any ≡ list_any is_defined news

front_alone : (items front back : List FieldRef) → items ≡ front ++ back → length items ≤ length front
    → (back ≡ []) × (items ≡ front)
front_alone items front [] parts over = (refl, parts ∙ append-nil front)
front_alone items front (first ∷ others) parts over =
    absurd (omega (arith, over, ap length parts, length-append front (first ∷ others)))

pub both_end : (before after : List FieldRef) (column columns : ℕ) (flags : List ℕ) (olds news : List Field)
    (any : Bool) → BothDone before after column columns flags olds news any → columns ≤ column
    → IsBothDone before after olds news any
both_end before after column columns flags olds news any d over =
    let o = front_alone before d.old_front d.old_back d.old_parts (omega (arith, over, d.old_at, d.old_size)) in
    let n = front_alone after d.new_front d.new_back d.new_parts (omega (arith, over, d.new_at, d.new_size)) in
    let fields = fields_seen d.new_back in
    let new_is : fields_seen d.new_front ≡ news =
    sym (append-nil (fields_seen d.new_front)) ∙ ap (λ fs. fields_seen d.new_front ++ fs)
    (sym ((λ i. news_changed flags (fields_seen (o.0 i)) fields) ∙ made_of_none new_if_changed flags fields))
    ∙ d.new_made in
    record {
      old_is = ap fields_seen o.1 ∙ sym (append-nil (fields_seen d.old_front))
          ∙ ap (λ fs. fields_seen d.old_front ++ fs)
          (sym ((λ i. olds_changed flags (fields_seen (o.0 i)) fields) ∙ made_of_none old_if_changed flags fields))
          ∙ d.old_made;
      new_is = ap fields_seen n.1 ∙ new_is;
      any_is = sym d.any_made ∙ ap (list_any is_defined) new_is;
    }
