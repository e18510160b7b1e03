-- The faults of a change are exact.
use Rattle.std.proofs.Common.{◌≡◌, ◌==◌, ℕ, suc, inl, inr, Bool, true, false, not, cond, ◌||◌, List, [], ◌∷◌, ◌++◌}
use Rattle.std.proofs.Common.{length, map, Option, Some, None, Result, Ok, Err, refl, sym, ap, subst, ◌∙◌}
use Rattle.std.proofs.lemmas.Bool.{eqb-true, or_parts}
use Rattle.std.proofs.lemmas.List.{append-nil}
use Rattle.cs_model.specs.declared.value.Field.{Field}
use Rattle.cs_model.specs.declared.change.Op.{Op}
use Rattle.cs_model.specs.declared.change.Op.TheVariants.{Insert, Update, Delete}
use Rattle.cs_model.specs.declared.change.Change.{Change}
use Rattle.cs_model.specs.Rule.{row_rule, old_rule, new_rules}
use Rattle.cs_model.specs.Text.{SpellsField, SpellsEach, op_byte, SpellsChange}
use Rattle.cs_parse.specs.declared.fault.FaultKind.{FaultKind}
use Rattle.cs_parse.specs.declared.fault.FaultKind.TheVariants.{Patchset, BadOperation}
use Rattle.cs_parse.specs.Place.{BytePlace, Between, begins_part, wrong}
use Rattle.cs_parse.specs.Stands.{InRecord, InRecords, AtChange}
use Rattle.cs_parse.proofs.reading.Steps.{steps_are_bytes}
use Rattle.cs_parse.specs.declared.stop.ParseRefusal.{ParseRefusal}
use Rattle.cs_parse.specs.declared.stop.ParseRefusal.TheVariants.{Short, Bad}
use Rattle.cs_parse.specs.Reading.{◌>>=◌, record_at, records_at, marked_at, op_of, operated, change_at, ends_section}
use Rattle.cs_model.specs.Bytes.{AreBytes}
use Rattle.cs_parse.proofs.reading.Steps.{Takes, done, ok_is, steps_chosen}
use Rattle.cs_parse.proofs.reading.ChangeLaws.{IsChangeBy, SpellsRecords, change_made, mark_spells, op_is, by_byte}
use Rattle.cs_parse.proofs.reading.ChangeLaws.{op_no_header}
use Rattle.cs_parse.proofs.refusing.Exact.{Completes, ExactStopped, ExactReader, Nowhere, SeqText, SeqPlace, seq}
use Rattle.cs_parse.proofs.refusing.Exact.{stopped_here, stopped_behind, seq_exact, mapped_exact, renamed}
use Rattle.cs_parse.proofs.refusing.Exact.{same_reader}
use Rattle.cs_parse.proofs.refusing.ExactFields.{RecordText, record_exact}

abbrev Fields : Type 0
Fields = List Field × List Field

-- ---- the records of a change

-- one record, where the other has no fields
one_record : (flags : List ℕ) (op : Op) (pair : List Field → Fields)
    → ((text : List ℕ) (row : List Field) → RecordText (map row_rule flags) text row
    → SpellsRecords flags op text (pair row))
    → ((text : List ℕ) (fields : Fields) → SpellsRecords flags op text fields → (row : List Field)
    × RecordText (map row_rule flags) text row × (fields ≡ pair row))
    → ((front : List ℕ) (place : BytePlace) → InRecord (map row_rule flags) front place
    → InRecords flags op front place)
    → ((front : List ℕ) (place : BytePlace) → InRecords flags op front place
    → InRecord (map row_rule flags) front place)
    → ExactReader (λ bytes. record_at (map row_rule flags) bytes >>= λ row. done (pair row.0, row.1))
    (SpellsRecords flags op) (InRecords flags op)
one_record flags op pair to from place_to place_from =
    let rules = map row_rule flags in
    renamed (λ bytes. record_at rules bytes >>= λ row. done (pair row.0, row.1))
    (λ text fields. (row : List Field) × RecordText rules text row × (fields ≡ pair row)) (SpellsRecords flags op)
    (InRecord rules) (InRecords flags op) (record {
      text_to = λ text fields h. subst (λ fs. SpellsRecords flags op text fs) (sym h.2) (to text h.0 h.1);
      text_from = from;
      place_to = place_to;
      place_from = place_from;
    }) (mapped_exact pair (record_at rules) (RecordText rules) (InRecord rules) (record_exact rules))

insert_exact : (flags : List ℕ) → ExactReader (records_at flags Insert) (SpellsRecords flags Insert)
    (InRecords flags Insert)
unfolding records_at
insert_exact flags = one_record flags Insert (λ row. ([], row))
    (λ text row h. record { old = []; new = text; parts = refl; is_old = refl; is_new = h.0; valid = (refl, h.1) })
    (λ text fields h.
    let none : h.old ≡ [] = subst (λ b. SpellsEach SpellsField h.old b) h.valid.0 h.is_old in
    let whole : text ≡ h.new = h.parts ∙ ap (λ w. w ++ h.new) none in (
      fields.1,
      (subst (λ w. SpellsEach SpellsField w fields.1) (sym whole) h.is_new, h.valid.1),
      ap (λ b. (b, fields.1)) h.valid.0,
    )) (λ front place h. h) (λ front place h. h)

delete_exact : (flags : List ℕ) → ExactReader (records_at flags Delete) (SpellsRecords flags Delete)
    (InRecords flags Delete)
unfolding records_at
delete_exact flags = one_record flags Delete (λ row. (row, []))
    (λ text row h.
    let whole = sym (append-nil text) in
    record { old = text; new = []; parts = whole; is_old = h.0; is_new = refl; valid = (h.1, refl) })
    (λ text fields h.
    let none : h.new ≡ [] = subst (λ b. SpellsEach SpellsField h.new b) h.valid.1 h.is_new in
    let whole : text ≡ h.old = h.parts ∙ ap (λ w. h.old ++ w) none ∙ append-nil h.old in (
      fields.0,
      (subst (λ w. SpellsEach SpellsField w fields.0) (sym whole) h.is_old, h.valid.0),
      ap (λ a. (fields.0, a)) h.valid.1,
    )) (λ front place h. h) (λ front place h. h)

abbrev NewText : List ℕ → List Field → List ℕ → Fields → Type 0
NewText flags before text fields = (new : List Field) × RecordText (new_rules flags before) text new
    × (fields ≡ (before, new))

abbrev ExactChangesInNewRecord : List ℕ → List Field → List ℕ → BytePlace → Type 0
ExactChangesInNewRecord flags before = InRecord (new_rules flags before)

new_behind : List ℕ → List Field → List ℕ → Result (Fields × List ℕ) ParseRefusal
new_behind flags before bytes = record_at (new_rules flags before) bytes >>= λ new. done ((before, new.0), new.1)

new_place_to : (flags front : List ℕ) (place : BytePlace)
    → SeqPlace (RecordText (map old_rule flags)) (InRecord (map old_rule flags)) (ExactChangesInNewRecord flags) front
    place → InRecords flags Update front place
new_place_to flags front place (inl h) = inl h
new_place_to flags front place (inr (before, old, new, parts, h, stands)) =
    inr (record { old = old; before = before; new = new; parts = parts; is_old = h.0; obeys = h.1; stands = stands })

new_place_from : (flags front : List ℕ) (place : BytePlace) → InRecords flags Update front place
    → SeqPlace (RecordText (map old_rule flags)) (InRecord (map old_rule flags)) (ExactChangesInNewRecord flags) front
    place
new_place_from flags front place (inl h) = inl h
new_place_from flags front place (inr h) = inr (h.before, h.old, h.new, h.parts, (h.is_old, h.obeys), h.stands)

update_exact : (flags : List ℕ) → ExactReader (records_at flags Update) (SpellsRecords flags Update)
    (InRecords flags Update)
unfolding records_at new_behind
update_exact flags =
    let rules = map old_rule flags in
    renamed (seq (record_at rules) (new_behind flags)) (SeqText (RecordText rules) (NewText flags))
    (SpellsRecords flags Update) (SeqPlace (RecordText rules) (InRecord rules) (ExactChangesInNewRecord flags))
    (InRecords flags Update) (record {
      text_to = λ text fields h. subst (λ fs. SpellsRecords flags Update text fs) (sym h.5.2)
          (record { old = h.1; new = h.2; parts = h.3; is_old = h.4.0; is_new = h.5.1.0; valid = (h.4.1, h.5.1.1) });
      text_from = λ text fields h.
          (fields.0, h.old, h.new, h.parts, (h.is_old, h.valid.0), (fields.1, (h.is_new, h.valid.1), refl));
      place_to = new_place_to flags;
      place_from = new_place_from flags;
    }) (seq_exact (record_at rules) (new_behind flags) (RecordText rules) (NewText flags) (InRecord rules)
    (ExactChangesInNewRecord flags) (record_exact rules)
    (λ text before h. mapped_exact (λ new. (before, new)) (record_at (new_rules flags before))
    (RecordText (new_rules flags before)) (ExactChangesInNewRecord flags before)
    (record_exact (new_rules flags before))))

records_exact : (flags : List ℕ) (op : Op)
    → ExactReader (records_at flags op) (SpellsRecords flags op) (InRecords flags op)
records_exact flags Insert = insert_exact flags
records_exact flags Update = update_exact flags
records_exact flags Delete = delete_exact flags

-- ---- behind the operation byte

mark_at : List ℕ → Result (ℕ × List ℕ) ParseRefusal
mark_at [] = Err Short
mark_at (mark ∷ rest) = Ok (mark, rest)

abbrev MarkText : List ℕ → ℕ → Type 0
MarkText text mark = text ≡ mark ∷ []

mark_takes : (bytes : List ℕ) (x : ℕ × List ℕ) → mark_at bytes ≡ Ok x → Takes MarkText bytes x
unfolding mark_at
mark_takes [] x e = absurd (cc e)
mark_takes (mark ∷ rest) x e = subst (λ (y : ℕ × List ℕ). Takes MarkText (mark ∷ rest) y) (ok_is (mark, rest) x e)
    (record { text = mark ∷ []; parts = refl; spelled = refl })

mark_again : (mark : ℕ) (rest : List ℕ) → mark_at (mark ∷ rest) ≡ Ok (mark, rest)
unfolding mark_at
mark_again mark rest = refl

mark_stops : (bytes : List ℕ) (left : ℕ) (kind : FaultKind) → mark_at bytes ≡ Err (Bad left kind)
    → ExactStopped MarkText Nowhere bytes left kind
unfolding mark_at
mark_stops [] left kind e = absurd (cc e)
mark_stops (mark ∷ rest) left kind e = absurd (cc e)

mark_completes : (bytes : List ℕ) → mark_at bytes ≡ Err Short → Completes MarkText bytes
unfolding mark_at
mark_completes [] e = record { more = 0 ∷ []; bytes = refl; value = 0; whole = refl }
mark_completes (mark ∷ rest) e = absurd (cc e)

mark_exact : ExactReader mark_at MarkText Nowhere
mark_exact = record {
  begins = record { more = 0 ∷ []; bytes = refl; value = 0; whole = refl };
  takes = λ bytes x fits e. mark_takes bytes x e;
  again = λ text mark rest h. ap (λ w. mark_at (w ++ rest)) h ∙ mark_again mark rest;
  stops = λ bytes left kind fits e. mark_stops bytes left kind e;
  places = λ front place byte kind more h w. absurd h;
  completes = λ bytes fits e. mark_completes bytes e;
}

abbrev make : Op → ℕ → Fields → Change
make op mark fields = change_made op (not (mark == 0)) fields.0 fields.1

abbrev MadeText : List ℕ → Op → ℕ → List ℕ → Change → Type 0
MadeText flags op mark text change = (fields : Fields) × SpellsRecords flags op text fields
    × (change ≡ make op mark fields)

abbrev MarkedText : List ℕ → Op → List ℕ → Change → Type 0
MarkedText flags op = SeqText MarkText (MadeText flags op)

abbrev MarkedPlace : List ℕ → Op → List ℕ → BytePlace → Type 0
MarkedPlace flags op = SeqPlace MarkText Nowhere (λ mark. InRecords flags op)

made_behind : List ℕ → Op → ℕ → List ℕ → Result (Change × List ℕ) ParseRefusal
made_behind flags op mark bytes = records_at flags op bytes >>= λ records. done (make op mark records.0, records.1)

marked_is : (flags : List ℕ) (op : Op) (bytes : List ℕ) → marked_at flags op bytes
    ≡ seq mark_at (made_behind flags op) bytes
unfolding marked_at mark_at made_behind
marked_is flags op [] = refl
marked_is flags op (mark ∷ rest) = refl

made_exact : (flags : List ℕ) (op : Op) (mark : ℕ) → ExactReader (made_behind flags op mark) (MadeText flags op mark)
    (InRecords flags op)
unfolding made_behind
made_exact flags op mark =
    mapped_exact (make op mark) (records_at flags op) (SpellsRecords flags op) (InRecords flags op)
    (records_exact flags op)

marked_exact : (flags : List ℕ) (op : Op)
    → ExactReader (marked_at flags op) (MarkedText flags op) (MarkedPlace flags op)
marked_exact flags op =
    same_reader (seq mark_at (made_behind flags op)) (marked_at flags op) (MarkedText flags op) (MarkedPlace flags op)
    (marked_is flags op)
    (seq_exact mark_at (made_behind flags op) MarkText (MadeText flags op) Nowhere (λ mark. InRecords flags op)
    mark_exact (λ text mark h. made_exact flags op mark))

-- ---- a change

abbrev pub ChangeText : List ℕ → List ℕ → Change → Type 0
ChangeText flags text change = SpellsChange text change × IsChangeBy flags change

change_to : (flags : List ℕ) (op : Op) (text : List ℕ) (change : Change) → MarkedText flags op text change
    → ChangeText flags (op_byte op ∷ text) change
change_to flags op text change (mark, first, back, parts, m, (fields, h, is)) =
    let whole : op_byte op ∷ text ≡ op_byte op ∷ mark ∷ (h.old ++ h.new) =
    ap (λ w. op_byte op ∷ w) (parts ∙ ap (λ w. w ++ back) m ∙ ap (λ w. mark ∷ w) h.parts) in
    let spelled : SpellsChange (op_byte op ∷ text) (make op mark fields) =
    record {
      byte = mark;
      old = h.old;
      new = h.new;
      parts = whole;
      is_indirect = mark_spells mark;
      is_old = h.is_old;
      is_new = h.is_new;
    } in
    subst (λ c. ChangeText flags (op_byte op ∷ text) c) (sym is) (spelled, h.valid)

change_begun : (flags : List ℕ) (op : Op) (byte : ℕ) (front : List ℕ) → byte ≡ op_byte op
    → Completes (MarkedText flags op) front → Completes (ChangeText flags) (byte ∷ front)
change_begun flags op byte front is c =
    record {
      more = c.more;
      bytes = c.bytes;
      value = c.value;
      whole = subst (λ b. ChangeText flags (b ∷ (front ++ c.more)) c.value) (sym is)
          (change_to flags op (front ++ c.more) c.value c.whole);
    }

pub some_change : (flags : List ℕ) → Completes (ChangeText flags) []
some_change flags =
    let c = change_begun flags Insert 18 [] refl (marked_exact flags Insert).begins in
    let small : steps_are_bytes (18 ∷ c.more) = c.bytes in
    record { more = 18 ∷ c.more; bytes = small; value = c.value; whole = c.whole }

place_in : (flags : List ℕ) (op : Op) (byte : ℕ) (front : List ℕ) (place : BytePlace) → byte ≡ op_byte op
    → MarkedPlace flags op front place → AtChange flags (byte ∷ front) place
place_in flags op byte front place is (inl h) = absurd h
place_in flags op byte front place is (inr (mark, first, fields, parts, m, h)) =
    inr (record {
      op = op;
      mark = mark;
      fields = fields;
      parts = ap (λ b. b ∷ front) is
          ∙ ap (λ w. op_byte op ∷ w) (parts ∙ ap (λ w. w ++ fields) m);
      stands = h;
    })

-- ---- a byte that begins no change

abbrev exact_changes_begins_none : ℕ → FaultKind
exact_changes_begins_none byte = cond (byte == 80) Patchset BadOperation

others_no : (byte : ℕ) → op_of byte ≡ None → ((byte == 9) ≡ false) × ((byte == 18) ≡ false) × ((byte == 23) ≡ false)
others_no byte e =
    elim (steps_chosen (byte == 18) (Some Insert)
    (cond (byte == 23) (Some Update) (cond (byte == 9) (Some Delete) None)) None e) as
    (λ w. ((byte == 9) ≡ false) × ((byte == 18) ≡ false) × ((byte == 23) ≡ false)) [
      | inl h ↦ absurd (cc h.1)
      | inr h ↦ elim (steps_chosen (byte == 23) (Some Update) (cond (byte == 9) (Some Delete) None) None h.1) as
          (λ w. ((byte == 9) ≡ false) × ((byte == 18) ≡ false) × ((byte == 23) ≡ false)) [
            | inl k ↦ absurd (cc k.1)
            | inr k ↦ elim (steps_chosen (byte == 9) (Some Delete) None None k.1) as
                (λ w. ((byte == 9) ≡ false) × ((byte == 18) ≡ false) × ((byte == 23) ≡ false)) [
                  | inl l ↦ absurd (cc l.1)
                  | inr l ↦ (l.0, h.0, k.0)
                ]
          ]
    ]

exact_changes_either : (b : Bool) → cond b (Some Patchset) (Some BadOperation) ≡ Some (cond b Patchset BadOperation)
exact_changes_either true = refl
exact_changes_either false = refl

wrong_between : (byte : ℕ) → op_of byte ≡ None → (byte == 84) ≡ false → wrong Between byte
    ≡ Some (exact_changes_begins_none byte)
wrong_between byte none no_header =
    let o = others_no byte none in
    let stays : begins_part byte ≡ false = rw (no_header, o.0, o.1, o.2) refl in
    ap (λ t. cond (byte == 80) (Some Patchset) (cond t None (Some BadOperation))) stays
    ∙ exact_changes_either (byte == 80)

wrong_is : (byte : ℕ) (kind : FaultKind) → wrong Between byte ≡ Some kind → (op_of byte ≡ None) × ((byte == 84) ≡ false)
    × (exact_changes_begins_none byte ≡ kind)
wrong_is byte kind w = elim
    (steps_chosen (byte == 80) (Some Patchset) (cond (begins_part byte) None (Some BadOperation)) (Some kind) w) as
    (λ w. (op_of byte ≡ None) × ((byte == 84) ≡ false) × (exact_changes_begins_none byte ≡ kind)) [
      | inl h ↦
          let is = eqb-true byte 80 h.0 in
          let same : Patchset ≡ kind = cc h.1 in
          (ap op_of is, ap (λ b. b == 84) is, ap exact_changes_begins_none is ∙ same)
      | inr h ↦ elim (steps_chosen (begins_part byte) None (Some BadOperation) (Some kind) h.1) as
          (λ w. (op_of byte ≡ None) × ((byte == 84) ≡ false) × (exact_changes_begins_none byte ≡ kind)) [
            | inl k ↦ absurd (cc k.1)
            | inr k ↦
                let a = or_parts (byte == 84) (byte == 9 || (byte == 18 || byte == 23)) k.0 in
                let b = or_parts (byte == 9) (byte == 18 || byte == 23) a.1 in
                let d = or_parts (byte == 18) (byte == 23) b.1 in
                let same : BadOperation ≡ kind = cc k.1 in
                let none : op_of byte ≡ None = rw (d.0, d.1, b.0) refl in
                (none, a.0, ap (λ t. cond t Patchset BadOperation) h.0 ∙ same)
          ]
    ]

-- ---- the faults of a change

operated_stops : (flags : List ℕ) (o : Option Op) (byte : ℕ) (rest : List ℕ) (left : ℕ) (kind : FaultKind)
    → AreBytes rest → op_of byte ≡ o → (byte == 84) ≡ false → operated flags o byte rest ≡ Err (Bad left kind)
    → ExactStopped (ChangeText flags) (AtChange flags) (byte ∷ rest) left kind
operated_stops flags (Some op) byte rest left kind fits is no_header e =
    let known = op_is byte op is in
    stopped_behind (byte ∷ rest) (byte ∷ []) rest left kind refl (λ front c. change_begun flags op byte front known c)
    (λ front place s. place_in flags op byte front place known s) ((marked_exact flags op).stops rest left kind fits e)
operated_stops flags None byte rest left kind fits is no_header e =
    let len : left ≡ suc (length rest) = cc e in
    let same : exact_changes_begins_none byte ≡ kind = cc e in
    stopped_here [] byte rest left kind Between len (some_change flags) (inl (refl, refl))
    (wrong_between byte is no_header ∙ ap (λ k. Some k) same)

pub exact_change_stops : (flags bytes : List ℕ) (left : ℕ) (kind : FaultKind) → ends_section bytes ≡ false
    → AreBytes bytes → change_at flags bytes ≡ Err (Bad left kind)
    → ExactStopped (ChangeText flags) (AtChange flags) bytes left kind
unfolding change_at
exact_change_stops flags [] left kind more fits e = absurd (cc more)
exact_change_stops flags (byte ∷ rest) left kind more fits e =
    operated_stops flags (op_of byte) byte rest left kind (λ i. fits (suc i)) refl more e

operated_completes : (flags : List ℕ) (o : Option Op) (byte : ℕ) (rest : List ℕ) → AreBytes rest → op_of byte ≡ o
    → operated flags o byte rest ≡ Err Short → Completes (ChangeText flags) (byte ∷ rest)
operated_completes flags (Some op) byte rest fits is e =
    change_begun flags op byte rest (op_is byte op is) ((marked_exact flags op).completes rest fits e)
operated_completes flags None byte rest fits is e = absurd (cc e)

pub change_completes : (flags bytes : List ℕ) → AreBytes bytes → change_at flags bytes ≡ Err Short
    → Completes (ChangeText flags) bytes
unfolding change_at
change_completes flags [] fits e = some_change flags
change_completes flags (byte ∷ rest) fits e = operated_completes flags (op_of byte) byte rest (λ i. fits (suc i)) refl e

exact_changes_none_at : (flags : List ℕ) (byte : ℕ) (more : List ℕ) → op_of byte ≡ None → change_at flags (byte ∷ more)
    ≡ Err (Bad (suc (length more)) (exact_changes_begins_none byte))
unfolding change_at
exact_changes_none_at flags byte more none = ap (λ o. operated flags o byte more) none

-- the change isn't over, and it is refused there
abbrev pub RefusedAt : List ℕ → List ℕ → ℕ → FaultKind → List ℕ → Type 0
RefusedAt flags front byte kind more = (ends_section (front ++ byte ∷ more) ≡ false)
    × (change_at flags (front ++ byte ∷ more) ≡ Err (Bad (suc (length more)) kind))

pub change_places : (flags front : List ℕ) (place : BytePlace) (byte : ℕ) (kind : FaultKind) (more : List ℕ)
    → AtChange flags front place → wrong place byte ≡ Some kind → RefusedAt flags front byte kind more
change_places flags front place byte kind more (inl h) w =
    let k = wrong_is byte kind (sym (ap (λ p. wrong p byte) h.1) ∙ w) in
    let refused : RefusedAt flags [] byte kind more =
    (k.1, exact_changes_none_at flags byte more k.0 ∙ ap (λ f. Err (Bad (suc (length more)) f)) k.2) in
    subst (λ f. RefusedAt flags f byte kind more) (sym h.0) refused
change_places flags front place byte kind more (inr h) w =
    let op = h.op in
    let at : MarkedPlace flags op (h.mark ∷ h.fields) place =
    inr (h.mark, h.mark ∷ [], h.fields, refl, refl, h.stands) in
    let refused : RefusedAt flags (op_byte op ∷ h.mark ∷ h.fields) byte kind more = (
      op_no_header op,
      by_byte flags op (h.mark ∷ (h.fields ++ byte ∷ more))
          ∙ (marked_exact flags op).places (h.mark ∷ h.fields) place byte kind more at w,
    ) in
    subst (λ f. RefusedAt flags f byte kind more) (sym h.parts) refused
