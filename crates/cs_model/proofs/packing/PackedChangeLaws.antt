-- Changes as bytes: the bytes of changes decode to the changes.
use Rattle.std.proofs.Common.{◌≡◌, ℕ, zero, suc, ◌+◌, ◌-◌, ◌<◌, ◌≤◌, Bool, true, false, not, eqb, List, [], ◌∷◌, ◌++◌}
use Rattle.std.proofs.Common.{length, take, refl, sym, ap, subst, ◌∙◌, arith}
use Rattle.std.specs.List.{AllByRecursion, flat_map}
use Rattle.std.proofs.Math.Dec.{eqb-suc-zero}
use Rattle.std.proofs.Math.Seq.{take-append_seam}
use Rattle.std.proofs.lemmas.List.{append_assoc, append-nil, length-append}
use Rattle.cs_model.specs.declared.value.Field.{Field}
use Rattle.cs_model.specs.declared.change.Op.{Op}
use Rattle.cs_model.specs.declared.change.Op.TheVariants.{Insert, Update, Delete}
use Rattle.cs_model.specs.declared.change.Change.{Change}
use Rattle.cs_model.specs.FieldBytes.{field_bytes}
use Rattle.cs_model.specs.Text.{op_byte, SpellsEach, SpellsField, SpellsIndirect, SpellsChange}
use Rattle.cs_model.specs.Packed.{packed, unpacked, Fits, Packs, typed_in}
use Rattle.cs_model.specs.PackedChanges.{mark, change_bytes, changes_bytes, Long, Fit, change_of, PacksAll, some_in}
use Rattle.cs_model.specs.PackedChanges.{op_in, records_by, changes_said, unpacked_changes, BeginsFields, BeginsUnpacked}
use Rattle.cs_model.proofs.packing.PackedLaws as records
use Rattle.cs_model.proofs.packing.PackedLaws.{typed_back, own_field}
use Rattle.cs_model.proofs.packing.CutLaws.{some_no_longer}

-- ---- going past so many fields

-- no bytes are left
some_of_none : (n : ℕ) → (some_in n []).1 ≡ []
unfolding some_in
some_of_none zero = refl
some_of_none (suc n) = refl

pub skip_end : (n : ℕ) (rest total : List ℕ) → length rest ≡ 0 → (some_in n rest).1 ≡ total → rest ≡ total
skip_end n [] total none e = sym (some_of_none n) ∙ e
skip_end n (b ∷ rest) total none e = absurd (omega (arith, none))

some_zero : (bytes : List ℕ) → (some_in 0 bytes).1 ≡ bytes
unfolding some_in
some_zero bytes = refl

-- no fields are left
pub skip_done : (columns i : ℕ) (rest total : List ℕ) → columns ≤ i → (some_in (columns - i) rest).1 ≡ total → rest
    ≡ total
skip_done columns i rest total done e =
    let none : columns - i ≡ 0 = omega arith in
    sym (some_zero rest) ∙ (rw none at e)

-- one field, and those behind it
abbrev pub then_some : ℕ → Field × List ℕ → List Field × List ℕ
then_some n x = (x.0 ∷ (some_in n x.1).0, (some_in n x.1).1)

pub some_step : (n byte : ℕ) (rest : List ℕ) → some_in (suc n) (byte ∷ rest) ≡ then_some n (typed_in byte rest)
unfolding some_in
some_step n byte rest = refl

-- a field more
pub some_reads : (columns i : ℕ) (rest behind : List ℕ) (byte : ℕ) (f : Field) (after : List ℕ) → i < columns → rest
    ≡ byte ∷ behind → f ≡ (typed_in byte behind).0 → after ≡ (typed_in byte behind).1
    → some_in (columns - i) rest ≡ then_some (columns - (i + 1)) (f, after)
some_reads columns i rest behind byte f after more is_rest is_field is_after =
    let one : columns - i ≡ suc (columns - (i + 1)) = omega arith in
    rw (is_field, is_after, one, is_rest) (some_step (columns - (i + 1)) byte behind)

pub skip_goes : (columns i : ℕ) (rest behind : List ℕ) (byte : ℕ) (after total : List ℕ) → i < columns → rest ≡ byte
    ∷ behind → after ≡ (typed_in byte behind).1
    → (some_in (columns - i) rest).1 ≡ total → (some_in (columns - (i + 1)) after).1 ≡ total
skip_goes columns i rest behind byte after total more is_rest is_after e =
    sym (ap (λ (x : List Field × List ℕ). x.1)
    (some_reads columns i rest behind byte (typed_in byte behind).0 after more is_rest refl is_after)) ∙ e

-- ---- one change, and the others

pub records_no_longer : (n : ℕ) (op : Op) (indirect : Bool) (bytes : List ℕ) → length (records_by n op indirect bytes).1
    ≤ length bytes
records_no_longer n Insert indirect bytes = some_no_longer n bytes
records_no_longer n Update indirect bytes = omega (arith, some_no_longer n bytes, some_no_longer n (some_in n bytes).1)
records_no_longer n Delete indirect bytes = some_no_longer n bytes

none_said : (n fuel : ℕ) → changes_said n fuel [] ≡ []
unfolding changes_said
none_said n zero = refl
none_said n (suc fuel) = refl

one_said : (n fuel op : ℕ) → changes_said n fuel (op ∷ []) ≡ []
unfolding changes_said
one_said n zero op = refl
one_said n (suc fuel) op = refl

enough : (n fuel more : ℕ) (bytes : List ℕ) → length bytes ≤ fuel → length bytes ≤ more → changes_said n fuel bytes
    ≡ changes_said n more bytes
unfolding changes_said
enough n fuel more [] p q = none_said n fuel ∙ sym (none_said n more)
enough n fuel more (op ∷ []) p q = one_said n fuel op ∙ sym (one_said n more op)
enough n zero more (op ∷ (m ∷ rest)) p q = absurd (omega (arith, p))
enough n (suc fuel) zero (op ∷ (m ∷ rest)) p q = absurd (omega (arith, q))
enough n (suc fuel) (suc more) (op ∷ (m ∷ rest)) p q =
    let less = records_no_longer n (op_in op) (not (eqb m 0)) rest in
    ap (λ (cs : List Change). (records_by n (op_in op) (not (eqb m 0)) rest).0 ∷ cs)
    (enough n fuel more (records_by n (op_in op) (not (eqb m 0)) rest).1 (omega arith) (omega arith))

pub changes_none : (n : ℕ) (bytes : List ℕ) → length bytes ≡ 0 → unpacked_changes n bytes ≡ []
unfolding unpacked_changes changes_said
changes_none n bytes none = rw none refl

packed_change_one_byte : (n op : ℕ) → unpacked_changes n (op ∷ []) ≡ []
unfolding unpacked_changes
packed_change_one_byte n op = one_said n 1 op

pub changes_short : (n : ℕ) (bytes : List ℕ) (op : ℕ) (rest : List ℕ) → bytes ≡ op ∷ rest → length rest ≡ 0
    → unpacked_changes n bytes ≡ []
changes_short n bytes op [] whole none = rw whole (packed_change_one_byte n op)
changes_short n bytes op (m ∷ rest) whole none = absurd (omega (arith, none))

first_said : (n op m : ℕ) (rest : List ℕ) → unpacked_changes n (op ∷ (m ∷ rest))
    ≡ (records_by n (op_in op) (not (eqb m 0)) rest).0
    ∷ unpacked_changes n (records_by n (op_in op) (not (eqb m 0)) rest).1
unfolding unpacked_changes changes_said
first_said n op m rest =
    let after = (records_by n (op_in op) (not (eqb m 0)) rest).1 in
    let less = records_no_longer n (op_in op) (not (eqb m 0)) rest in
    ap (λ (cs : List Change). (records_by n (op_in op) (not (eqb m 0)) rest).0 ∷ cs)
    (enough n (suc (length rest)) (length after) after (omega arith) (omega arith))

pub changes_first : (n : ℕ) (bytes behind : List ℕ) (op m : ℕ) (rest : List ℕ) (c : Change) (after : List ℕ) → bytes
    ≡ op ∷ behind → behind ≡ m ∷ rest
    → c ≡ (records_by n (op_in op) (not (eqb m 0)) rest).0 → after ≡ (records_by n (op_in op) (not (eqb m 0)) rest).1
    → unpacked_changes n bytes ≡ c ∷ unpacked_changes n after
changes_first n bytes behind op m rest c after whole next one others =
    rw (whole, next, one, others) (first_said n op m rest)

-- ---- what is written is read

some_none : (bytes : List ℕ) → some_in 0 bytes ≡ ([], bytes)
unfolding some_in
some_none bytes = refl

some_back : (fields : List Field) (text rest : List ℕ) → SpellsEach SpellsField text fields → AllByRecursion Fits fields
    → some_in (length fields) (text ++ rest) ≡ (fields, rest)
some_back [] text rest spells fit = ap (λ (w : List ℕ). some_in 0 (w ++ rest)) spells ∙ some_none rest
some_back (f ∷ fs) text rest spells fit =
    let front = spells.0 in
    let others = spells.1 ++ rest in
    let a = typed_back f front others spells.3 fit.0 in
    ap (λ (w : List ℕ). some_in (suc (length fs)) w)
    (ap (λ (w : List ℕ). w ++ rest) spells.2 ∙ (append_assoc front spells.1 rest ∙ a.whole))
    ∙ (some_step (length fs) a.byte a.body
    ∙ (ap (λ (x : Field × List ℕ). then_some (length fs) x) a.reads
    ∙ ap (λ (x : List Field × List ℕ). (f ∷ x.0, x.1)) (some_back fs spells.1 rest spells.4 fit.1)))

pub some_of : (n : ℕ) (fields : List Field) (text rest : List ℕ) → length fields ≡ n
    → SpellsEach SpellsField text fields → AllByRecursion Fits fields → some_in n (text ++ rest) ≡ (fields, rest)
some_of n fields text rest long spells fit =
    subst (λ (k : ℕ). some_in k (text ++ rest) ≡ (fields, rest)) long (some_back fields text rest spells fit)

no_fields : (text : List ℕ) (fields : List Field) → SpellsEach SpellsField text fields → fields ≡ [] → text ≡ []
no_fields text fields spells none = subst (λ (fs : List Field). SpellsEach SpellsField text fs) none spells

records_back : (n : ℕ) (op : Op) (indirect : Bool) (before after : List Field) (old new rest : List ℕ)
    → Long n op before after → SpellsEach SpellsField old before → SpellsEach SpellsField new after
    → AllByRecursion Fits before → AllByRecursion Fits after
    → records_by n op indirect ((old ++ new) ++ rest) ≡ (change_of op indirect before after, rest)
records_back n Insert indirect before after old new rest long k l p q =
    let none = no_fields old before k long.0 in
    rw (long.0, none) (ap (λ (x : List Field × List ℕ). (change_of Insert indirect [] x.0, x.1))
    (some_of n after new rest long.1 l q))
records_back n Update indirect before after old new rest long k l p q =
    let one = some_of n before old (new ++ rest) long.0 k p in
    let other = some_of n after new rest long.1 l q in
    rw append_assoc (
    ap (λ (x : List Field × List ℕ). (change_of Update indirect x.0 (some_in n x.1).0, (some_in n x.1).1)) one
    ∙ ap (λ (x : List Field × List ℕ). (change_of Update indirect before x.0, x.1)) other)
records_back n Delete indirect before after old new rest long k l p q =
    let none = no_fields new after l long.1 in
    rw (long.1, none, append-nil)
    (ap (λ (x : List Field × List ℕ). (change_of Delete indirect x.0 [], x.1))
    (some_of n before old rest long.0 k p))

pub op_back : (op : Op) → op_in (op_byte op) ≡ op
op_back Insert = refl
op_back Update = refl
op_back Delete = refl

indirect_back : (byte : ℕ) (indirect : Bool) → SpellsIndirect byte indirect → not (eqb byte 0) ≡ indirect
indirect_back zero true spells = absurd (spells refl)
indirect_back (suc byte) true spells = ap not (eqb-suc-zero byte)
indirect_back byte false spells = rw spells refl

change_back : (n : ℕ) (c : Change) (text rest : List ℕ) → SpellsChange text c → Fit n c
    → unpacked_changes n (text ++ rest) ≡ c ∷ unpacked_changes n rest
change_back n c text rest s fit =
    let body = (s.old ++ s.new) ++ rest in
    let said : records_by n (op_in (op_byte c.op)) (not (eqb s.byte 0)) body ≡ (c, rest) =
    rw (op_back c.op, indirect_back s.byte c.indirect s.is_indirect)
    (records_back n c.op c.indirect c.before c.after s.old s.new rest fit.long s.is_old s.is_new fit.before
    fit.after) in
    changes_first n (text ++ rest) (s.byte ∷ body) (op_byte c.op) s.byte body c rest
    (ap (λ (w : List ℕ). w ++ rest) s.parts) refl (sym (ap (λ (x : Change × List ℕ). x.0) said))
    (sym (ap (λ (x : Change × List ℕ). x.1) said))

pub spelled_said : (n : ℕ) (text : List ℕ) (changes : List Change) → SpellsEach SpellsChange text changes
    → AllByRecursion (Fit n) changes → unpacked_changes n text ≡ changes
spelled_said n text [] spells fit = changes_none n text (ap length spells)
spelled_said n text (c ∷ cs) spells fit =
    ap (λ (w : List ℕ). unpacked_changes n w) spells.2
    ∙ (change_back n c spells.0 spells.1 spells.3 fit.0
    ∙ ap (λ (ds : List Change). c ∷ ds) (spelled_said n spells.1 cs spells.4 fit.1))

-- ---- canonical bytes are a spelling

own_each : {A : Type 0} (bytes : A → List ℕ) (Spelling : List ℕ → A → Type 0) (P : A → Type 0)
    → ((x : A) → P x → Spelling (bytes x) x) → (xs : List A) → AllByRecursion P xs
    → SpellsEach Spelling (flat_map bytes xs) xs
own_each bytes Spelling P own [] all = refl
own_each bytes Spelling P own (x ∷ xs) all =
    (bytes x, flat_map bytes xs, refl, own x all.0, own_each bytes Spelling P own xs all.1)

pub own_fields : (fields : List Field) → AllByRecursion Fits fields → SpellsEach SpellsField (packed fields) fields
own_fields fields fit = own_each field_bytes SpellsField Fits own_field fields fit

own_indirect : (indirect : Bool) → SpellsIndirect (mark indirect) indirect
own_indirect true = λ none. omega (arith, none)
own_indirect false = refl

own_change : (n : ℕ) (c : Change) → Fit n c → SpellsChange (change_bytes c) c
own_change n c fit = record {
  byte = mark c.indirect;
  old = packed c.before;
  new = packed c.after;
  parts = refl;
  is_indirect = own_indirect c.indirect;
  is_old = own_fields c.before fit.before;
  is_new =
      own_fields c.after fit.after;
}

pub own_changes : (n : ℕ) (changes : List Change) → AllByRecursion (Fit n) changes
    → SpellsEach SpellsChange (changes_bytes changes) changes
own_changes n changes fit = own_each change_bytes SpellsChange (Fit n) (own_change n) changes fit

pub packed_again : (n : ℕ) (changes : List Change) → AllByRecursion (Fit n) changes
    → unpacked_changes n (changes_bytes changes) ≡ changes
packed_again n changes fit =
    spelled_said n (changes_bytes changes) changes (own_changes n changes fit) fit

-- ---- what is made packs what it was made of

pub made : (n : ℕ) (bytes : List ℕ) (changes : List Change) → bytes ≡ changes_bytes changes
    → AllByRecursion (Fit n) changes → (unpacked_changes n bytes ≡ changes)
    × PacksAll n bytes (unpacked_changes n bytes)
made n bytes changes parts fit =
    let says : unpacked_changes n bytes ≡ changes = rw parts (packed_again n changes fit) in
    (says, subst (λ (cs : List Change). PacksAll n bytes cs) (sym says) (record { parts = parts; fit = fit }))

pub empty : (n : ℕ) (bytes : List ℕ) → bytes ≡ [] → (unpacked_changes n bytes ≡ [])
    × PacksAll n bytes (unpacked_changes n bytes)
empty n bytes none = made n bytes [] none tt

-- ---- a change's own bytes, where the bytes are those of changes

pub own_packs : (n : ℕ) (bytes rest front : List ℕ) (k : ℕ) → BeginsFields n bytes → rest ≡ (some_in n bytes).1 → k
    ≡ length bytes - length rest → front ≡ take k bytes → Packs front (unpacked front)
own_packs n bytes rest front k b is_rest is_k is_front =
    let said : some_in n bytes ≡ (b.fields, b.rest) = ap (λ (w : List ℕ). some_in n w) b.parts
    ∙ some_of n b.fields (packed b.fields) b.rest b.long (own_fields b.fields b.fit) b.fit in
    let left : rest ≡ b.rest = is_rest ∙ ap (λ (x : List Field × List ℕ). x.1) said in
    let len : k ≡ length (packed b.fields) =
    omega (arith, ap length left, ap length b.parts, length-append (packed b.fields) b.rest) in
    let same : front ≡ packed b.fields = is_front ∙ ap (λ (w : List ℕ). take k w) b.parts
    ∙ rw len (take-append_seam (packed b.fields) b.rest) in
    (records.packed_made front b.fields same b.fit).1

-- behind the old record of an UPDATE is its new one
pub begins_after : (n : ℕ) (op : Op) (bytes after : List ℕ) → BeginsUnpacked n op bytes → op ≡ Update → after
    ≡ (some_in n bytes).1 → BeginsFields n after
begins_after n op bytes after b is e =
    let long : Long n Update b.before b.after = subst (λ (o : Op). Long n o b.before b.after) is b.long in
    let said : some_in n bytes ≡ (b.before, packed b.after ++ b.rest) =
    ap (λ (w : List ℕ). some_in n w) (b.parts ∙ append_assoc (packed b.before) (packed b.after) b.rest)
    ∙ some_of n b.before (packed b.before) (packed b.after ++ b.rest) long.0 (own_fields b.before b.before_fit)
    b.before_fit in
    record {
      fields = b.after;
      rest = b.rest;
      long = long.1;
      fit = b.after_fit;
      parts = e
          ∙ ap (λ (x : List Field × List ℕ). x.1) said;
    }

-- the first change, of which two bytes are read, and the others
record First (n op m : ℕ) (rest : List ℕ) : Type 0 where
  pub change : Change
  pub others : List Change
  pub is_op : op ≡ op_byte change.op
  pub parts : rest ≡ (packed change.before ++ packed change.after) ++ changes_bytes others
  pub fit : Fit n change
  pub others_fit : AllByRecursion (Fit n) others

packed_change_first : (n : ℕ) (bytes behind rest : List ℕ) (op m : ℕ) (cs : List Change) → PacksAll n bytes cs → bytes
    ≡ op ∷ behind → behind ≡ m ∷ rest → First n op m rest
packed_change_first n bytes behind rest op m [] packs whole next =
    let none : [] ≡ op ∷ behind = sym packs.parts ∙ whole in
    absurd cc
packed_change_first n bytes behind rest op m (c ∷ cs) packs whole next =
    let body = (packed c.before ++ packed c.after) ++ changes_bytes cs in
    let same : op ∷ (m ∷ rest) ≡ op_byte c.op ∷ (mark c.indirect ∷ body) = ap (λ (w : List ℕ). op ∷ w) (sym next)
    ∙ (sym whole ∙ packs.parts) in
    let is_op : op ≡ op_byte c.op = cc in
    let parts : rest ≡ body = cc in
    record { change = c; others = cs; is_op = is_op; parts = parts; fit = packs.fit.0; others_fit = packs.fit.1 }

first_op : (n op m : ℕ) (rest : List ℕ) (o : Op) (f : First n op m rest) → o ≡ op_in op → o ≡ f.change.op
first_op n op m rest o f is = is ∙ (ap op_in f.is_op ∙ op_back f.change.op)

pub packed_change_begins_change : (n : ℕ) (bytes behind rest : List ℕ) (op m : ℕ) (o : Op)
    → PacksAll n bytes (unpacked_changes n bytes) → bytes ≡ op ∷ behind → behind ≡ m ∷ rest → o ≡ op_in op
    → BeginsUnpacked n o rest
packed_change_begins_change n bytes behind rest op m o packs whole next is =
    let f = packed_change_first n bytes behind rest op m (unpacked_changes n bytes) packs whole next in
    record {
      before = f.change.before;
      after = f.change.after;
      rest = changes_bytes f.others;
      long = subst (λ (p : Op). Long n p f.change.before f.change.after) (sym (first_op n op m rest o f is)) f.fit.long;
      before_fit = f.fit.before;
      after_fit = f.fit.after;
      parts = f.parts;
    }

pub rest_packs : (n : ℕ) (bytes behind rest : List ℕ) (op m : ℕ) (o : Op) (indirect : Bool) (after : List ℕ)
    → PacksAll n bytes (unpacked_changes n bytes) → bytes ≡ op ∷ behind → behind ≡ m ∷ rest → o ≡ op_in op
    → after ≡ (records_by n o indirect rest).1 → PacksAll n after (unpacked_changes n after)
rest_packs n bytes behind rest op m o indirect after packs whole next is e =
    let f = packed_change_first n bytes behind rest op m (unpacked_changes n bytes) packs whole next in
    let read : records_by n f.change.op indirect rest
    ≡ (change_of f.change.op indirect f.change.before f.change.after, changes_bytes f.others) =
    ap (λ (w : List ℕ). records_by n f.change.op indirect w) f.parts
    ∙ records_back n f.change.op indirect f.change.before f.change.after (packed f.change.before)
    (packed f.change.after) (changes_bytes f.others) f.fit.long (own_fields f.change.before f.fit.before)
    (own_fields f.change.after f.fit.after) f.fit.before f.fit.after in
    let left : after ≡ changes_bytes f.others =
    e ∙ (ap (λ (p : Op). (records_by n p indirect rest).1) (first_op n op m rest o f is)
    ∙ ap (λ (x : Change × List ℕ). x.1) read) in
    (made n after f.others left f.others_fit).1
