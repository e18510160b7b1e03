-- A record read in two parts, whatever follows the first, and a change scanned that way.
use Rattle.std.proofs.Common.{◌≡◌, ◌==◌, ◌⊎◌, inl, inr, true, false, ℕ, ◌+◌, ◌-◌, ◌<◌, ◌≤◌, List, [], ◌∷◌, ◌++◌, length}
use Rattle.std.proofs.Common.{take, drop, map, get_or, Some, Result, Ok, Err, refl, sym, ap, subst, ◌∙◌, append_assoc}
use Rattle.std.proofs.Common.{arith}
use Rattle.std.proofs.lemmas.Bool.{eqb-true}
use Rattle.std.proofs.lemmas.List.{nil_from_length, drop-append-le, drop_all, drop_more, drop-drop, length-append}
use Rattle.std.proofs.lemmas.List.{length-drop, take-append-drop}
use Rattle.std.proofs.Math.Seq.{drop-append_seam}
use Rattle.cs_model.specs.Bytes.{AreBytes}
use Rattle.cs_model.specs.declared.value.Field.{Field}
use Rattle.cs_model.specs.declared.change.Op.{Op}
use Rattle.cs_model.specs.declared.change.Op.TheVariants.{Insert, Update, Delete}
use Rattle.cs_model.specs.Rule.{Rule, row_rule, old_rule, new_rule, new_rules}
use Rattle.cs_parse.specs.declared.stop.ParseRefusal.{ParseRefusal}
use Rattle.cs_parse.specs.declared.stop.ParseRefusal.TheVariants.{Short}
use Rattle.cs_parse.specs.declared.spot.Spot.{Spot}
use Rattle.cs_parse.specs.declared.spot.Spot.TheVariants.{Start, Row, Old, New, Name}
use Rattle.cs_parse.specs.Reading.{◌>>=◌, op_of, operated, field_at, record_at, records_at, marked_at, change_at}
use Rattle.cs_parse.specs.Spot.{Passes, Halts, HaltsNew, IsBack, BeginsChangeOf, InFirst, PassedFirst, SpotInNew}
use Rattle.cs_parse.specs.Spot.{HasOne, IsSpot}
use Rattle.cs_parse.proofs.reading.Steps.{done, back_fits}
use Rattle.cs_parse.proofs.reading.FieldLaws.{record_takes, record_again}
use Rattle.cs_parse.proofs.refusing.ExactFields.{field_exact}
use Rattle.cs_parse.proofs.counting.Skims.{fields_of, record_more, field_begins}
use Rattle.cs_parse.proofs.reading.ChangeLaws.{marked}
use Rattle.cs_parse.proofs.feeding.NameLaws.{name_more}

-- ---- a record in two parts

abbrev SpotRead : Type 0
SpotRead = Result (List Field × List ℕ) ParseRefusal

-- what is read behind these fields
abbrev behind_fields : List Field → SpotRead → SpotRead
behind_fields fields read = read >>= λ x. done (fields ++ x.0, x.1)

spot_no_fields : (read : SpotRead) → read ≡ behind_fields [] read
spot_no_fields (Ok x) = refl
spot_no_fields (Err e) = refl

fields_joined : (front fields : List Field) (read : SpotRead) → behind_fields front (behind_fields fields read)
    ≡ behind_fields (front ++ fields) read
fields_joined front fields (Ok x) = ap (λ w. done (w, x.1)) (sym (append_assoc front fields x.0))
fields_joined front fields (Err e) = refl

pub none_passed : (rules : List Rule) (bytes : List ℕ) → Passes rules rules bytes bytes
none_passed rules bytes =
    record { fields = []; text = []; parts = refl; reads = λ back. spot_no_fields (record_at rules back) }

one_passed : (rule : Rule) (rules : List Rule) (bytes : List ℕ) (field : Field) (rest : List ℕ) → AreBytes bytes
    → field_at rule bytes ≡ Ok (field, rest) → Passes (rule ∷ rules) rules bytes rest
one_passed rule rules bytes field rest fits e =
    let exact = field_exact rule in
    let t = exact.takes bytes (field, rest) fits e in
    record {
      fields = field ∷ [];
      text = t.text;
      parts = t.parts;
      reads = λ back. record_more rule rules (t.text ++ back)
          ∙ ap (λ r. r >>= fields_of rules) (exact.again t.text field back t.spelled);
    }

both_passed : (rules others last : List Rule) (bytes rest after : List ℕ) → Passes rules others bytes rest
    → Passes others last rest after → Passes rules last bytes after
both_passed rules others last bytes rest after p q = record {
  fields = p.fields ++ q.fields;
  text = p.text ++ q.text;
  parts = p.parts ∙ ap (λ w. p.text ++ w) q.parts ∙ sym (append_assoc p.text q.text after);
  reads = λ back. ap (record_at rules) (append_assoc p.text q.text back) ∙ p.reads (q.text ++ back)
      ∙ ap (behind_fields p.fields) (q.reads back) ∙ fields_joined p.fields q.fields (record_at last back);
}

passed_more : (rules others : List Rule) (bytes rest more : List ℕ) → Passes rules others bytes rest
    → Passes rules others (bytes ++ more) (rest ++ more)
passed_more rules others bytes rest more p = record {
  fields = p.fields;
  text = p.text;
  parts = ap (λ w. w ++ more) p.parts ∙ append_assoc p.text rest more;
  reads = p.reads;
}

-- what the whole record gives
passed_reads : (rules others : List Rule) (bytes rest : List ℕ) (p : Passes rules others bytes rest)
    → record_at rules bytes ≡ behind_fields p.fields (record_at others rest)
passed_reads rules others bytes rest p = ap (record_at rules) p.parts ∙ p.reads rest

pub passed_short : (rules others : List Rule) (bytes rest : List ℕ) → Passes rules others bytes rest
    → record_at others rest ≡ Err Short → record_at rules bytes ≡ Err Short
passed_short rules others bytes rest p e = passed_reads rules others bytes rest p ∙ ap (behind_fields p.fields) e

passed_all : (rules : List Rule) (bytes rest : List ℕ) → Passes rules [] bytes rest → (fields : List Field)
    × (record_at rules bytes ≡ Ok (fields, rest))
unfolding record_at
passed_all rules bytes rest p = (p.fields ++ [], passed_reads rules [] bytes rest p)

field_short : (rule : Rule) (rules : List Rule) (bytes : List ℕ) (why : ParseRefusal) → field_at rule bytes ≡ Err why
    → why ≡ Short → record_at (rule ∷ rules) bytes ≡ Err Short
field_short rule rules bytes why e is = record_more rule rules bytes
    ∙ ap (λ r. r >>= fields_of rules) (e ∙ ap (λ w. Err w) is)

-- a record that is whole is so with any bytes behind it
record_longer : (rules : List Rule) (bytes : List ℕ) (fields : List Field) (rest more : List ℕ) → AreBytes bytes
    → record_at rules bytes ≡ Ok (fields, rest) → record_at rules (bytes ++ more) ≡ Ok (fields, rest ++ more)
record_longer rules bytes fields rest more fits e =
    let t = record_takes rules bytes (fields, rest) fits e in
    ap (λ w. record_at rules (w ++ more)) t.0.parts ∙ ap (record_at rules) (append_assoc t.0.text rest more)
    ∙ record_again rules t.0.text fields (rest ++ more) t.0.spelled t.1

-- ---- places

-- where the bytes begin that are left
spot_place_of : (bytes front rest : List ℕ) → bytes ≡ front ++ rest → drop (length bytes - length rest) bytes ≡ rest
spot_place_of bytes front rest e =
    let n : length bytes - length rest ≡ length front = omega (arith, ap length e, length-append front rest) in
    ap (λ k. drop k bytes) n ∙ ap (drop (length front)) e ∙ drop-append_seam front rest

pub back_of_drop : (bytes : List ℕ) (place : ℕ) (text rest : List ℕ) → drop place bytes ≡ text ++ rest
    → IsBack bytes rest
back_of_drop bytes place text rest e = (
  take place bytes ++ text,
  sym (take-append-drop place bytes) ∙ ap (λ w. take place bytes ++ w) e
      ∙ sym (append_assoc (take place bytes) text rest),
)

pub back_shorter : (bytes rest : List ℕ) → IsBack bytes rest → length rest ≤ length bytes
back_shorter bytes rest b = omega (arith, ap length b.1, length-append b.0 rest)

fits_from : (bytes : List ℕ) (place : ℕ) → AreBytes bytes → AreBytes (drop place bytes)
fits_from bytes place fits = back_fits bytes (take place bytes) (drop place bytes) (sym (take-append-drop place bytes))
    fits

-- ---- the loop over a record

-- the field of column i was
pub rules_more : (rule : ℕ → Rule) (flags bytes : List ℕ) (i : ℕ) (rest : List ℕ) (field : Field) (after : List ℕ)
    → AreBytes bytes → i < length flags → field_at (rule (get_or flags i 0)) rest ≡ Ok (field, after)
    → Passes (map rule flags) (map rule (drop i flags)) bytes rest
    → Passes (map rule flags) (map rule (drop (i + 1) flags)) bytes after
rules_more rule flags bytes i rest field after fits lt e p =
    let others = map rule (drop (i + 1) flags) in
    let one = one_passed (rule (get_or flags i 0)) others rest field after (back_fits bytes p.text rest p.parts fits)
    e in
    both_passed (map rule flags) (map rule (drop i flags)) others bytes rest after p
    (subst (λ w. Passes (map rule w) others rest after) (sym (drop_more flags i 0 lt)) one)

-- it ends too early
pub rules_halt : (rule : ℕ → Rule) (flags bytes : List ℕ) (i : ℕ) (rest : List ℕ) (why : ParseRefusal) → i
    < length flags → field_at (rule (get_or flags i 0)) rest ≡ Err why → why ≡ Short
    → Passes (map rule flags) (map rule (drop i flags)) bytes rest → Halts rule flags bytes i rest
rules_halt rule flags bytes i rest why lt e is p = record {
  columns = omega arith;
  passes = p;
  short = λ more. ap (λ w. record_at (map rule w) rest) (drop_more flags i 0 lt)
      ∙ field_short (rule (get_or flags i 0)) (map rule (drop (i + 1) flags)) rest why e is;
}

-- all were
pub rules_end : (rule : ℕ → Rule) (flags bytes : List ℕ) (i : ℕ) (rest : List ℕ) → length flags ≤ i
    → Passes (map rule flags) (map rule (drop i flags)) bytes rest → Halts rule flags bytes (length flags) rest
rules_end rule flags bytes i rest le p = record {
  columns = omega arith;
  passes = subst (λ w. Passes (map rule flags) (map rule w) bytes rest)
      (drop_all i flags le ∙ sym (drop_all (length flags) flags (omega arith))) p;
  short = λ less. absurd (omega (arith, less));
}

-- ---- the loop over an UPDATE's two records

pub back_field : (rule : Rule) (bytes rest : List ℕ) (field : Field) (after : List ℕ) → AreBytes bytes
    → IsBack bytes rest → field_at rule rest ≡ Ok (field, after) → IsBack bytes after
back_field rule bytes rest field after fits b e =
    let t = (field_exact rule).takes rest (field, after) (back_fits bytes b.0 rest b.1 fits) e in
    (b.0 ++ t.text, b.1 ∙ ap (λ w. b.0 ++ w) t.parts ∙ sym (append_assoc b.0 t.text after))

-- the old record begins with its field of column i
pub old_more : (flags : List ℕ) (before : List Field) (left : List ℕ) (i : ℕ) (old : List ℕ) (first : Field)
    (after : List ℕ) → i < length flags → field_at (old_rule (get_or flags i 0)) old ≡ Ok (first, after)
    → record_at (map old_rule (drop i flags)) old ≡ Ok (drop i before, left)
    → (drop i before ≡ first ∷ drop (i + 1) before)
    × (record_at (map old_rule (drop (i + 1) flags)) after ≡ Ok (drop (i + 1) before, left))
old_more flags before left i old first after lt reads e =
    let others = map old_rule (drop (i + 1) flags) in
    let begins = field_begins (old_rule (get_or flags i 0)) others old first after (drop i before) left reads
    (sym (ap (λ w. record_at (map old_rule w) old) (drop_more flags i 0 lt)) ∙ e) in
    (begins.0 ∙ ap (λ w. first ∷ w) (drop-drop 1 i before), begins.1 ∙ ap (λ w. done (w, left)) (drop-drop 1 i before))

-- the new record's rules from column i on
new_column : (flags : List ℕ) (before : List Field) (i : ℕ) (old : Field) → i < length flags → drop i before ≡ old
    ∷ drop (i + 1) before
    → new_rules (drop i flags) (drop i before) ≡ new_rule (get_or flags i 0) old
    ∷ new_rules (drop (i + 1) flags) (drop (i + 1) before)
new_column flags before i old lt begins = ap (λ w. new_rules w (drop i before)) (drop_more flags i 0 lt)
    ∙ ap (λ w. new_rules (get_or flags i 0 ∷ drop (i + 1) flags) w) begins

pub new_more : (flags : List ℕ) (before : List Field) (bytes : List ℕ) (i : ℕ) (old : Field) (rest : List ℕ)
    (field : Field) (after : List ℕ) → AreBytes bytes → i < length flags → drop i before ≡ old ∷ drop (i + 1) before
    → field_at (new_rule (get_or flags i 0) old) rest ≡ Ok (field, after)
    → Passes (new_rules flags before) (new_rules (drop i flags) (drop i before)) bytes rest
    → Passes (new_rules flags before) (new_rules (drop (i + 1) flags) (drop (i + 1) before)) bytes after
new_more flags before bytes i old rest field after fits lt begins e p =
    let others = new_rules (drop (i + 1) flags) (drop (i + 1) before) in
    let one = one_passed (new_rule (get_or flags i 0) old) others rest field after
    (back_fits bytes p.text rest p.parts fits) e in
    both_passed (new_rules flags before) (new_rules (drop i flags) (drop i before)) others bytes rest after p
    (subst (λ w. Passes w others rest after) (sym (new_column flags before i old lt begins)) one)

pub new_halt : (flags : List ℕ) (before : List Field) (left bytes : List ℕ) (i : ℕ) (first : Field) (old rest : List ℕ)
    (why : ParseRefusal) → i < length flags → drop i before ≡ first ∷ drop (i + 1) before
    → record_at (map old_rule (drop i flags)) old ≡ Ok (drop i before, left)
    → field_at (new_rule (get_or flags i 0) first) rest ≡ Err why → why ≡ Short
    → Passes (new_rules flags before) (new_rules (drop i flags) (drop i before)) bytes rest
    → HaltsNew flags before left bytes i old rest
new_halt flags before left bytes i first old rest why lt begins reads e is p = record {
  columns = omega arith;
  old_left = reads;
  passes = p;
  short = ap (λ w. record_at w rest) (new_column flags before i first lt begins)
      ∙ field_short (new_rule (get_or flags i 0) first) (new_rules (drop (i + 1) flags) (drop (i + 1) before)) rest why
      e is;
}

-- ---- spots

left_columns : (rule : ℕ → Rule) (flags : List ℕ) (fields count : ℕ) → map rule (drop count (drop fields flags))
    ≡ map rule (drop (fields + count) flags)
left_columns rule flags fields count = ap (map rule) (drop-drop count fields flags)

-- more fields of a first record are passed
pub first_passed : (op : Op) (rule : ℕ → Rule) (flags bytes : List ℕ) (fields place : ℕ) (columns front : List ℕ)
    (count : ℕ) (rest : List ℕ) → columns ≡ drop fields flags → front ≡ drop place bytes
    → InFirst op rule flags bytes fields place → Halts rule columns front count rest
    → PassedFirst op rule flags bytes (fields + count) (length bytes - length rest)
first_passed op rule flags bytes fields place columns front count rest columns_are front_is first halts =
    let left = ap (λ w. map rule (drop count w)) columns_are ∙ left_columns rule flags fields count in
    let back = back_of_drop bytes place halts.passes.text rest (sym front_is ∙ halts.passes.parts) in
    let here : drop (length bytes - length rest) bytes ≡ rest = spot_place_of bytes back.0 rest back.1 in
    let len = ap length columns_are ∙ length-drop fields flags in
    let start : Passes (map rule flags) (map rule columns) first.records front =
    subst (λ w. Passes (map rule flags) (map rule w) first.records front) (sym columns_are)
    (subst (λ w. Passes (map rule flags) (map rule (drop fields flags)) first.records w) (sym front_is)
    first.passes) in
    let whole = both_passed (map rule flags) (map rule columns) (map rule (drop count columns)) first.records front rest
    start halts.passes in
    record {
      reached = record {
        records = first.records;
        begins = first.begins;
        columns = omega (arith, halts.columns, len, first.columns);
        within = omega arith;
        passes = subst (λ w. Passes (map rule flags) (map rule (drop (fields + count) flags)) first.records w)
            (sym here) (subst (λ w. Passes (map rule flags) w first.records rest) left whole);
      };
      short = λ less. ap (record_at (map rule (drop (fields + count) flags))) here
          ∙ sym (ap (λ w. record_at w rest) left) ∙ halts.short (omega (arith, less, len));
    }

-- and of a new one
pub new_reached : (flags bytes : List ℕ) (fields place old count : ℕ) (old_rest rest : List ℕ)
    (new : SpotInNew flags bytes fields place old) → IsBack bytes old_rest
    → HaltsNew (drop fields flags) (drop fields new.before) new.left (drop place bytes) count old_rest rest
    → (next : SpotInNew flags bytes (fields + count) (length bytes - length rest) (length bytes - length old_rest))
    × (record_at (new_rules (drop (fields + count) flags) (drop (fields + count) next.before))
    (drop (length bytes - length rest) bytes) ≡ Err Short)
new_reached flags bytes fields place old count old_rest rest new old_back halts =
    let columns_are = drop-drop count fields flags in
    let before_is = drop-drop count fields new.before in
    let left = ap (λ w. new_rules w (drop count (drop fields new.before))) columns_are
    ∙ ap (new_rules (drop (fields + count) flags)) before_is in
    let back = back_of_drop bytes place halts.passes.text rest halts.passes.parts in
    let here : drop (length bytes - length rest) bytes ≡ rest = spot_place_of bytes back.0 rest back.1 in
    let old_here : drop (length bytes - length old_rest) bytes ≡ old_rest =
    spot_place_of bytes old_back.0 old_rest old_back.1 in
    let behind = new_rules (drop count (drop fields flags)) (drop count (drop fields new.before)) in
    let whole = both_passed (new_rules flags new.before) (new_rules (drop fields flags) (drop fields new.before)) behind
    new.left (drop place bytes) rest new.passes halts.passes in (
      record {
        records = new.records;
        begins = new.begins;
        before = new.before;
        left = new.left;
        old_read = new.old_read;
        columns = omega (arith, halts.columns, length-drop fields flags, new.columns);
        within = omega arith;
        old_within = omega arith;
        old_left = ap (record_at (map old_rule (drop (fields + count) flags))) old_here
            ∙ sym (ap (λ w. record_at (map old_rule w) old_rest) columns_are) ∙ halts.old_left
            ∙ ap (λ w. done (w, new.left)) before_is;
        passes = subst (λ w. Passes (new_rules flags new.before)
            (new_rules (drop (fields + count) flags) (drop (fields + count) new.before)) new.left w) (sym here)
            (subst (λ w. Passes (new_rules flags new.before) w new.left rest) left whole);
      },
      ap (record_at (new_rules (drop (fields + count) flags) (drop (fields + count) new.before))) here
          ∙ sym (ap (λ w. record_at w rest) left) ∙ halts.short,
    )

-- ---- changes that are short

abbrev new_records : List ℕ → List Field × List ℕ → Result ((List Field × List Field) × List ℕ) ParseRefusal
new_records flags old = record_at (new_rules flags old.0) old.1 >>= λ new. done ((old.0, new.0), new.1)

-- a change ends too early where its records do
pub records_short : (op : Op) (flags bytes records : List ℕ) → BeginsChangeOf op bytes records
    → records_at flags op records ≡ Err Short → change_at flags bytes ≡ Err Short
unfolding change_at marked_at
records_short op flags bytes records b e =
    ap (change_at flags) b.parts ∙ ap (λ o. operated flags o b.byte (b.mark ∷ records)) b.is_op
    ∙ ap (λ r. r >>= marked op b.mark) e

pub row_records : (op : Op) (flags records : List ℕ) → HasOne op → record_at (map row_rule flags) records ≡ Err Short
    → records_at flags op records ≡ Err Short
unfolding records_at
row_records Insert flags records one e = ap (λ r. r >>= λ row. done (([], row.0), row.1)) e
row_records Update flags records one e = absurd one
row_records Delete flags records one e = ap (λ r. r >>= λ row. done ((row.0, []), row.1)) e

pub old_records : (flags records : List ℕ) → record_at (map old_rule flags) records ≡ Err Short
    → records_at flags Update records ≡ Err Short
unfolding records_at
old_records flags records e = ap (λ r. r >>= new_records flags) e

pub new_short : (flags records : List ℕ) (before : List Field) (left : List ℕ) → record_at (map old_rule flags) records
    ≡ Ok (before, left) → record_at (new_rules flags before) left ≡ Err Short → records_at flags Update records
    ≡ Err Short
unfolding records_at
new_short flags records before left old e = ap (λ r. r >>= new_records flags) old
    ∙ ap (λ r. r >>= λ new. done ((before, new.0), new.1)) e

-- how far the new record was gone over this time
pub new_halts : (flags bytes : List ℕ) (fields place old : ℕ) (columns old_front front : List ℕ) (count : ℕ)
    (old_rest rest : List ℕ) → columns ≡ drop fields flags → old_front ≡ drop old bytes → front ≡ drop place bytes
    → (new : SpotInNew flags bytes fields place old)
    → ((before : List Field) (left : List ℕ) → record_at (map old_rule columns) old_front ≡ Ok (before, left)
    → HaltsNew columns before left front count old_rest rest)
    → HaltsNew (drop fields flags) (drop fields new.before) new.left (drop place bytes) count old_rest rest
new_halts flags bytes fields place old columns old_front front count old_rest rest columns_are old_is front_is new
    halts =
    let reads = ap (λ w. record_at (map old_rule w) old_front) columns_are
    ∙ ap (record_at (map old_rule (drop fields flags))) old_is ∙ new.old_left in
    let before = drop fields new.before in
    subst (λ w. HaltsNew (drop fields flags) before new.left w count old_rest rest) front_is
    (subst (λ w. HaltsNew w before new.left front count old_rest rest) columns_are (halts before new.left reads))

pub more_columns : (flags : List ℕ) (fields count : ℕ) → fields ≤ length flags → count ≤ length (drop fields flags)
    → fields + count ≤ length flags
more_columns flags fields count le more = omega (arith, length-drop fields flags)

-- ---- where a record begins

-- where the old record is whole the new one begins
pub new_begins : (flags bytes : List ℕ) (fields place : ℕ) → length flags ≤ fields
    → InFirst Update old_rule flags bytes fields place → SpotInNew flags bytes 0 place 2
new_begins flags bytes fields place le first =
    let none = ap (map old_rule) (drop_all fields flags le) in
    let whole = passed_all (map old_rule flags) first.records (drop place bytes)
    (subst (λ w. Passes (map old_rule flags) w first.records (drop place bytes)) none first.passes) in
    let records_are : drop 2 bytes ≡ first.records = ap (drop 2) first.begins.parts in
    record {
      records = first.records;
      begins = first.begins;
      before = whole.0;
      left = drop place bytes;
      old_read = whole.1;
      columns = omega arith;
      within = first.within;
      old_within = omega (arith, ap length first.begins.parts);
      old_left = ap (record_at (map old_rule flags)) records_are ∙ whole.1;
      passes = none_passed (new_rules flags whole.0) (drop place bytes);
    }

first_begins : (op : Op) (rule : ℕ → Rule) (flags bytes : List ℕ) (byte mark : ℕ) (rest : List ℕ) → bytes ≡ byte ∷ mark
    ∷ rest → op_of byte ≡ Some op → InFirst op rule flags bytes 0 2
first_begins op rule flags bytes byte mark rest parts is =
    let records_are : drop 2 bytes ≡ rest = ap (drop 2) parts in
    record {
      records = rest;
      begins = record { byte = byte; mark = mark; parts = parts; is_op = is };
      columns = omega arith;
      within = omega (arith, ap length parts);
      passes = subst (λ w. Passes (map rule flags) (map rule flags) rest w) (sym records_are)
          (none_passed (map rule flags) rest);
    }

-- ---- the first bytes of a change

pub none_short : (flags bytes : List ℕ) → length bytes ≡ 0 → change_at flags bytes ≡ Err Short
unfolding change_at
none_short flags bytes none = ap (change_at flags) (nil_from_length bytes none)

no_mark : (flags : List ℕ) (byte : ℕ) (op : Op) → op_of byte ≡ Some op → change_at flags (byte ∷ []) ≡ Err Short
unfolding change_at marked_at
no_mark flags byte op is = ap (λ o. operated flags o byte []) is

some_op : (byte : ℕ) → (byte ≡ 9) ⊎ ((byte ≡ 18) ⊎ (byte ≡ 23)) → (op : Op) × (op_of byte ≡ Some op)
some_op byte (inl e) = (Delete, ap op_of e)
some_op byte (inr (inl e)) = (Insert, ap op_of e)
some_op byte (inr (inr e)) = (Update, ap op_of e)

-- only an operation's byte is there
pub one_short : (flags bytes : List ℕ) (byte : ℕ) (rest : List ℕ) → bytes ≡ byte ∷ rest → (byte ≡ 9)
    ⊎ ((byte ≡ 18) ⊎ (byte ≡ 23)) → true ≡ (length rest == 0) → change_at flags bytes ≡ Err Short
one_short flags bytes byte rest parts is none =
    let op = some_op byte is in
    let no_rest = nil_from_length rest (eqb-true (length rest) 0 (sym none)) in
    ap (change_at flags) (parts ∙ ap (λ w. byte ∷ w) no_rest) ∙ no_mark flags byte op.0 op.1

-- a mark stands behind it
some_mark : (rest : List ℕ) → false ≡ (length rest == 0) → (mark : ℕ) × (records : List ℕ) × (rest ≡ mark ∷ records)
some_mark [] some = absurd cc
some_mark (mark ∷ records) some = (mark, records, refl)

spot_begun : (op : Op) (rule : ℕ → Rule) (flags bytes : List ℕ) (byte : ℕ) (rest : List ℕ) → bytes ≡ byte ∷ rest
    → op_of byte ≡ Some op → false ≡ (length rest == 0) → InFirst op rule flags bytes 0 2
spot_begun op rule flags bytes byte rest parts is some =
    let m = some_mark rest some in
    first_begins op rule flags bytes byte m.0 m.1 (parts ∙ ap (λ w. byte ∷ w) m.2) is

pub row_begun : (flags bytes : List ℕ) (byte : ℕ) (rest : List ℕ) → bytes ≡ byte ∷ rest → (byte ≡ 9) ⊎ (byte ≡ 18)
    → false ≡ (length rest == 0) → IsSpot flags bytes (Row 0 2)
row_begun flags bytes byte rest parts (inl e) some =
    (Delete, tt, spot_begun Delete row_rule flags bytes byte rest parts (ap op_of e) some)
row_begun flags bytes byte rest parts (inr e) some =
    (Insert, tt, spot_begun Insert row_rule flags bytes byte rest parts (ap op_of e) some)

pub old_begun : (flags bytes : List ℕ) (byte : ℕ) (rest : List ℕ) → bytes ≡ byte ∷ rest → byte ≡ 23 → false
    ≡ (length rest == 0) → IsSpot flags bytes (Old 0 2)
old_begun flags bytes byte rest parts e some = spot_begun Update old_rule flags bytes byte rest parts (ap op_of e) some

-- ---- more bytes

begins_more : (op : Op) (bytes records more : List ℕ) → BeginsChangeOf op bytes records
    → BeginsChangeOf op (bytes ++ more) (records ++ more)
begins_more op bytes records more b =
    record { byte = b.byte; mark = b.mark; parts = ap (λ w. w ++ more) b.parts; is_op = b.is_op }

spot_within_more : (bytes more : List ℕ) (place : ℕ) → place ≤ length bytes → place ≤ length (bytes ++ more)
spot_within_more bytes more place le = omega (arith, length-append bytes more)

pub first_more : (op : Op) (rule : ℕ → Rule) (flags bytes : List ℕ) (fields place : ℕ) (more : List ℕ)
    → InFirst op rule flags bytes fields place → InFirst op rule flags (bytes ++ more) fields place
first_more op rule flags bytes fields place more first = record {
  records = first.records ++ more;
  begins = begins_more op bytes first.records more first.begins;
  columns = first.columns;
  within = spot_within_more bytes more place first.within;
  passes = subst (λ w. Passes (map rule flags) (map rule (drop fields flags)) (first.records ++ more) w)
      (sym (drop-append-le place bytes more first.within))
      (passed_more (map rule flags) (map rule (drop fields flags)) first.records (drop place bytes) more first.passes);
}

pub new_longer : (flags bytes : List ℕ) (fields place old : ℕ) (more : List ℕ) → AreBytes bytes
    → SpotInNew flags bytes fields place old → SpotInNew flags (bytes ++ more) fields place old
new_longer flags bytes fields place old more fits new = record {
  records = new.records ++ more;
  begins = begins_more Update bytes new.records more new.begins;
  before = new.before;
  left = new.left ++ more;
  old_read = record_longer (map old_rule flags) new.records new.before new.left more
      (back_fits bytes (new.begins.byte ∷ new.begins.mark ∷ []) new.records new.begins.parts fits) new.old_read;
  columns = new.columns;
  within = spot_within_more bytes more place new.within;
  old_within = spot_within_more bytes more old new.old_within;
  old_left = ap (record_at (map old_rule (drop fields flags))) (drop-append-le old bytes more new.old_within)
      ∙ record_longer (map old_rule (drop fields flags)) (drop old bytes) (drop fields new.before) new.left more
      (fits_from bytes old fits) new.old_left;
  passes = subst (λ w. Passes (new_rules flags new.before) (new_rules (drop fields flags) (drop fields new.before))
      (new.left ++ more) w) (sym (drop-append-le place bytes more new.within))
      (passed_more (new_rules flags new.before) (new_rules (drop fields flags) (drop fields new.before)) new.left
      (drop place bytes) more new.passes);
}

-- the old record is the one that it was
pub longer_before : (flags bytes : List ℕ) (fields place old : ℕ) (more : List ℕ) (fits : AreBytes bytes)
    (new : SpotInNew flags bytes fields place old) → (new_longer flags bytes fields place old more fits new).before
    ≡ new.before
unfolding new_longer
longer_before flags bytes fields place old more fits new = refl

pub spot_more : (flags bytes more : List ℕ) (spot : Spot) → AreBytes bytes → IsSpot flags bytes spot
    → IsSpot flags (bytes ++ more) spot
spot_more flags bytes more Start fits is = tt
spot_more flags bytes more (Row fields place) fits is =
    (is.0, is.1, first_more is.0 row_rule flags bytes fields place more is.2)
spot_more flags bytes more (Old fields place) fits is = first_more Update old_rule flags bytes fields place more is
spot_more flags bytes more (New fields place old) fits is = new_longer flags bytes fields place old more fits is
spot_more flags bytes more (Name place letters) fits is = name_more bytes more place letters is
