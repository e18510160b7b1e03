-- Changes: the bytes encode what is read, and every encoding is read.
use Rattle.std.proofs.Common.{◌≡◌, ◌==◌, ℕ, zero, suc, ◌<◌, inl, inr, Bool, true, false, not, cond, List, [], ◌∷◌, ◌++◌}
use Rattle.std.proofs.Common.{length, map, Option, Some, None, Result, Ok, Err, refl, sym, ap, subst, ◌∙◌, append_assoc}
use Rattle.std.proofs.Common.{arith}
use Rattle.std.specs.List.{AllByRecursion}
use Rattle.std.proofs.lemmas.Bool.{eqb-true, ne_eqb}
use Rattle.std.proofs.lemmas.List.{append-nil}
use Rattle.cs_model.specs.declared.value.Field.{Field}
use Rattle.cs_model.specs.declared.change.Op.{Op}
use Rattle.cs_model.specs.declared.change.Op.TheVariants.{Insert, Update, Delete}
use Rattle.cs_model.specs.declared.change.Change.{Change}
use Rattle.cs_model.specs.Rule.{row_rule, old_rule, new_rules}
use Rattle.cs_model.specs.Changeset.{AreRecords}
use Rattle.cs_model.specs.Text.{SpellsField, SpellsEach, op_byte, SpellsIndirect, SpellsChange}
use Rattle.cs_parse.specs.declared.fault.FaultKind.TheVariants.{Patchset, BadOperation}
use Rattle.cs_parse.specs.declared.stop.ParseRefusal.{ParseRefusal}
use Rattle.cs_parse.specs.declared.stop.ParseRefusal.TheVariants.{Bad}
use Rattle.cs_parse.specs.Reading.{◌>>=◌, record_at, records_at, marked_at, op_of, operated, change_at, ends_section}
use Rattle.cs_parse.specs.Reading.{changes_at}
use Rattle.cs_model.specs.Bytes.{AreBytes}
use Rattle.cs_parse.proofs.reading.Steps.{Takes, back_fits, bind_ok, done, ok_is, steps_chosen}
use Rattle.cs_parse.proofs.reading.FieldLaws.{record_takes, record_again}
use Rattle.cs_parse.proofs.reading.ManyLaws.{IsReader, TakesEach, many_takes, many_again}

-- a change of a table with these key flags
abbrev pub IsChangeBy : List ℕ → Change → Type 0
IsChangeBy flags change = AreRecords flags change.op change.before change.after

-- ---- the records of a change

-- two records, one behind the other
pub record SpellsRecords (flags : List ℕ) (op : Op) (text : List ℕ) (fields : List Field × List Field) : Type 0 where
  pub old : List ℕ
  pub new : List ℕ
  pub parts : text ≡ old ++ new
  pub is_old : SpellsEach SpellsField old fields.0
  pub is_new : SpellsEach SpellsField new fields.1
  pub valid : AreRecords flags op fields.0 fields.1

abbrev Records : Type 0
Records = (List Field × List Field) × List ℕ

abbrev TakesRecords : List ℕ → Op → List ℕ → Records → Type 0
TakesRecords flags op bytes x = Takes (SpellsRecords flags op) bytes x

pub records_take : (flags : List ℕ) (op : Op) (bytes : List ℕ) (x : Records) → AreBytes bytes
    → records_at flags op bytes ≡ Ok x → TakesRecords flags op bytes x
unfolding records_at
records_take flags Insert bytes x fits e =
    let a = bind_ok (record_at (map row_rule flags) bytes) (λ row. done (([], row.0), row.1)) x e in
    let t = record_takes (map row_rule flags) bytes a.0 fits a.1 in
    let spelled : SpellsRecords flags Insert t.0.text ([], a.0.0) =
    record { old = []; new = t.0.text; parts = refl; is_old = refl; is_new = t.0.spelled; valid = (refl, t.1) } in
    subst (λ (y : Records). TakesRecords flags Insert bytes y) (ok_is (([], a.0.0), a.0.1) x a.2)
    (record { text = t.0.text; parts = t.0.parts; spelled = spelled })
records_take flags Update bytes x fits e =
    let a = bind_ok (record_at (map old_rule flags) bytes)
    (λ old. record_at (new_rules flags old.0) old.1 >>= λ new. done ((old.0, new.0), new.1)) x e in
    let b = bind_ok (record_at (new_rules flags a.0.0) a.0.1) (λ new. done ((a.0.0, new.0), new.1)) x a.2 in
    let t = record_takes (map old_rule flags) bytes a.0 fits a.1 in
    let u = record_takes (new_rules flags a.0.0) a.0.1 b.0 (back_fits bytes t.0.text a.0.1 t.0.parts fits) b.1 in
    let whole : bytes ≡ (t.0.text ++ u.0.text) ++ b.0.1 = t.0.parts ∙ ap (λ w. t.0.text ++ w) u.0.parts
    ∙ sym (append_assoc t.0.text u.0.text b.0.1) in
    let spelled : SpellsRecords flags Update (t.0.text ++ u.0.text) (a.0.0, b.0.0) =
    record {
      old = t.0.text;
      new = u.0.text;
      parts = refl;
      is_old = t.0.spelled;
      is_new = u.0.spelled;
      valid = (t.1, u.1);
    } in
    subst (λ (y : Records). TakesRecords flags Update bytes y) (ok_is ((a.0.0, b.0.0), b.0.1) x b.2)
    (record { text = t.0.text ++ u.0.text; parts = whole; spelled = spelled })
records_take flags Delete bytes x fits e =
    let a = bind_ok (record_at (map row_rule flags) bytes) (λ row. done ((row.0, []), row.1)) x e in
    let t = record_takes (map row_rule flags) bytes a.0 fits a.1 in
    let spelled : SpellsRecords flags Delete t.0.text (a.0.0, []) =
    record {
      old = t.0.text;
      new = [];
      parts = sym (append-nil t.0.text);
      is_old = t.0.spelled;
      is_new = refl;
      valid = (t.1, refl);
    } in
    subst (λ (y : Records). TakesRecords flags Delete bytes y) (ok_is ((a.0.0, []), a.0.1) x a.2)
    (record { text = t.0.text; parts = t.0.parts; spelled = spelled })

none_spelled : (text : List ℕ) (fields : List Field) → SpellsEach SpellsField text fields → fields ≡ [] → text ≡ []
none_spelled text fields h none = subst (λ b. SpellsEach SpellsField text b) none h

pub records_again : (flags : List ℕ) (op : Op) (text : List ℕ) (fields : List Field × List Field) (rest : List ℕ)
    → SpellsRecords flags op text fields → records_at flags op (text ++ rest) ≡ Ok (fields, rest)
unfolding records_at
records_again flags Insert text fields rest h =
    let none = none_spelled h.old fields.0 h.is_old h.valid.0 in
    let whole : text ≡ h.new = h.parts ∙ ap (λ w. w ++ h.new) none in
    ap (λ w. records_at flags Insert (w ++ rest)) whole
    ∙ ap (λ r. r >>= λ row. done (([], row.0), row.1))
    (record_again (map row_rule flags) h.new fields.1 rest h.is_new h.valid.1)
    ∙ ap (λ b. done ((b, fields.1), rest)) (sym h.valid.0)
records_again flags Update text fields rest h =
    let regrouped : text ++ rest ≡ h.old ++ (h.new ++ rest) = ap (λ w. w ++ rest) h.parts
    ∙ append_assoc h.old h.new rest in
    ap (records_at flags Update) regrouped
    ∙ ap (λ r. r >>= λ old. record_at (new_rules flags old.0) old.1 >>= λ new. done ((old.0, new.0), new.1))
    (record_again (map old_rule flags) h.old fields.0 (h.new ++ rest) h.is_old h.valid.0)
    ∙ ap (λ r. r >>= λ new. done ((fields.0, new.0), new.1))
    (record_again (new_rules flags fields.0) h.new fields.1 rest h.is_new h.valid.1)
records_again flags Delete text fields rest h =
    let none = none_spelled h.new fields.1 h.is_new h.valid.1 in
    let whole : text ≡ h.old = h.parts ∙ ap (λ w. h.old ++ w) none ∙ append-nil h.old in
    ap (λ w. records_at flags Delete (w ++ rest)) whole
    ∙ ap (λ r. r >>= λ row. done ((row.0, []), row.1))
    (record_again (map row_rule flags) h.old fields.0 rest h.is_old h.valid.0)
    ∙ ap (λ a. done ((fields.0, a), rest)) (sym h.valid.1)

-- ---- a change

abbrev pub change_made : Op → Bool → List Field → List Field → Change
change_made op indirect before after = record { op = op; indirect = indirect; before = before; after = after }

pub mark_spells : (mark : ℕ) → SpellsIndirect mark (not (mark == 0))
mark_spells zero = refl
mark_spells (suc mark) = subst (λ b. SpellsIndirect (suc mark) (not b)) (sym (ne_eqb (suc mark) 0 (λ e. absurd cc)))
    (λ e. absurd cc)

mark_is : (mark : ℕ) (indirect : Bool) → SpellsIndirect mark indirect → not (mark == 0) ≡ indirect
mark_is mark true h = ap not (ne_eqb mark 0 h)
mark_is mark false h = ap (λ m. not (m == 0)) h

abbrev pub marked : Op → ℕ → Records → Result (Change × List ℕ) ParseRefusal
marked op mark records = done (change_made op (not (mark == 0)) records.0.0 records.0.1, records.1)

marked_takes : (flags : List ℕ) (op : Op) (bytes : List ℕ) (x : Change × List ℕ) → AreBytes bytes
    → marked_at flags op bytes ≡ Ok x → Takes SpellsChange (op_byte op ∷ bytes) x × IsChangeBy flags x.0
unfolding marked_at
marked_takes flags op [] x fits e = absurd cc
marked_takes flags op (mark ∷ rest) x fits e =
    let a = bind_ok (records_at flags op rest) (marked op mark) x e in
    let t = records_take flags op rest a.0 (λ i. fits (suc i)) a.1 in
    let change = change_made op (not (mark == 0)) a.0.0.0 a.0.0.1 in
    let text = op_byte op ∷ mark ∷ t.text in
    let spelled : SpellsChange text change =
    record {
      byte = mark;
      old = t.spelled.old;
      new = t.spelled.new;
      parts = ap (λ w. op_byte op ∷ mark ∷ w) t.spelled.parts;
      is_indirect = mark_spells mark;
      is_old =
          t.spelled.is_old;
      is_new = t.spelled.is_new;
    } in
    subst (λ (y : Change × List ℕ). Takes SpellsChange (op_byte op ∷ mark ∷ rest) y × IsChangeBy flags y.0)
    (ok_is (change, a.0.1) x a.2)
    (record { text = text; parts = ap (λ w. op_byte op ∷ mark ∷ w) t.parts; spelled = spelled }, t.spelled.valid)

pub op_is : (byte : ℕ) (op : Op) → op_of byte ≡ Some op → byte ≡ op_byte op
op_is byte op e =
    elim (steps_chosen (byte == 18) (Some Insert)
    (cond (byte == 23) (Some Update) (cond (byte == 9) (Some Delete) None)) (Some op) e) as (λ w. byte ≡ op_byte op) [
      | inl is ↦
          let same : Insert ≡ op = cc is.1 in
          eqb-true byte 18 is.0 ∙ ap op_byte same
      | inr other ↦ elim (steps_chosen (byte == 23) (Some Update) (cond (byte == 9) (Some Delete) None)
          (Some op) other.1)
          as (λ w. byte ≡ op_byte op) [
            | inl is ↦
                let same : Update ≡ op = cc is.1 in
                eqb-true byte 23 is.0 ∙ ap op_byte same
            | inr other ↦ elim (steps_chosen (byte == 9) (Some Delete) None (Some op) other.1) as
                (λ w. byte ≡ op_byte op) [
                  | inl is ↦
                      let same : Delete ≡ op = cc is.1 in
                      eqb-true byte 9 is.0 ∙ ap op_byte same
                  | inr none ↦ absurd (cc none.1)
                ]
          ]
    ]

operated_takes : (flags : List ℕ) (o : Option Op) (byte : ℕ) (rest : List ℕ) (x : Change × List ℕ) → AreBytes rest
    → op_of byte ≡ o → operated flags o byte rest ≡ Ok x → Takes SpellsChange (byte ∷ rest) x × IsChangeBy flags x.0
operated_takes flags (Some op) byte rest x fits is e =
    subst (λ b. Takes SpellsChange (b ∷ rest) x × IsChangeBy flags x.0) (sym (op_is byte op is))
    (marked_takes flags op rest x fits e)
operated_takes flags None byte rest x fits is e =
    let none : Err (Bad (suc (length rest)) (cond (byte == 80) Patchset BadOperation)) ≡ done x = e in
    absurd cc

pub change_takes : (flags bytes : List ℕ) (x : Change × List ℕ) → AreBytes bytes → change_at flags bytes ≡ Ok x
    → Takes SpellsChange bytes x × IsChangeBy flags x.0
unfolding change_at
change_takes flags [] x fits e = absurd cc
change_takes flags (byte ∷ rest) x fits e = operated_takes flags (op_of byte) byte rest x (λ i. fits (suc i)) refl e

op_of_byte : (op : Op) → op_of (op_byte op) ≡ Some op
op_of_byte Insert = refl
op_of_byte Update = refl
op_of_byte Delete = refl

pub by_byte : (flags : List ℕ) (op : Op) (rest : List ℕ) → change_at flags (op_byte op ∷ rest) ≡ marked_at flags op rest
unfolding change_at
by_byte flags op rest = ap (λ o. operated flags o (op_byte op) rest) (op_of_byte op)

change_marked_again : (flags : List ℕ) (op : Op) (mark : ℕ) (text : List ℕ) (fields : List Field × List Field)
    (rest : List ℕ) → SpellsRecords flags op text fields
    → marked_at flags op (mark ∷ (text ++ rest)) ≡ Ok (change_made op (not (mark == 0)) fields.0 fields.1, rest)
unfolding marked_at
change_marked_again flags op mark text fields rest h =
    ap (λ r. r >>= marked op mark) (records_again flags op text fields rest h)

pub change_again : (flags text : List ℕ) (change : Change) (rest : List ℕ) → SpellsChange text change
    → IsChangeBy flags change → change_at flags (text ++ rest) ≡ Ok (change, rest)
change_again flags text change rest h valid =
    let op = change.op in
    let fields : SpellsRecords flags op (h.old ++ h.new) (change.before, change.after) =
    record { old = h.old; new = h.new; parts = refl; is_old = h.is_old; is_new = h.is_new; valid = valid } in
    ap (λ w. change_at flags (w ++ rest)) h.parts
    ∙ by_byte flags op (h.byte ∷ ((h.old ++ h.new) ++ rest))
    ∙ change_marked_again flags op h.byte (h.old ++ h.new) (change.before, change.after) rest fields
    ∙ ap (λ i. done (change_made op i change.before change.after, rest)) (mark_is h.byte change.indirect h.is_indirect)

-- ---- changes one after another

change_long : (text : List ℕ) (change : Change) → SpellsChange text change → 0 < length text
change_long text change h = omega (arith, ap length h.parts)

pub op_no_header : (op : Op) → (op_byte op == 84) ≡ false
op_no_header Insert = refl
op_no_header Update = refl
op_no_header Delete = refl

change_goes_on : (text : List ℕ) (change : Change) (rest : List ℕ) → SpellsChange text change
    → ends_section (text ++ rest) ≡ false
change_goes_on text change rest h = ap (λ w. ends_section (w ++ rest)) h.parts ∙ op_no_header change.op

abbrev pub IsAny : List ℕ → Type 0
IsAny rest = Unit {0}

pub change_reader : (flags : List ℕ) → IsReader ends_section (change_at flags) SpellsChange (IsChangeBy flags) IsAny
change_reader flags = record {
  at_end = refl;
  long = change_long;
  takes = change_takes flags;
  again = λ text change rest h valid last. change_again flags text change rest h valid;
  goes_on = change_goes_on;
  follows = λ text change rest h. tt;
}

pub changes_take : (flags bytes : List ℕ) (x : List Change × List ℕ) → AreBytes bytes → changes_at flags bytes ≡ Ok x
    → TakesEach ends_section SpellsChange (IsChangeBy flags) bytes x
unfolding changes_at
changes_take flags bytes x fits e =
    many_takes ends_section (change_at flags) SpellsChange (IsChangeBy flags) IsAny (change_reader flags) (length bytes)
    bytes x fits (omega arith) e

pub changes_again : (flags text : List ℕ) (changes : List Change) (rest : List ℕ) → SpellsEach SpellsChange text changes
    → AllByRecursion (IsChangeBy flags) changes → ends_section rest ≡ true → changes_at flags (text ++ rest)
    ≡ Ok (changes, rest)
unfolding changes_at
changes_again flags text changes rest h valid ended =
    many_again ends_section (change_at flags) SpellsChange (IsChangeBy flags) IsAny (change_reader flags)
    (length (text ++ rest)) text changes rest h valid ended tt (omega arith)
