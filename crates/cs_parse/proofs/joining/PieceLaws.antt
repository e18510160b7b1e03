-- Texts that come in pieces: permanent faults, and what is kept.
use Rattle.std.proofs.Common.{◌≡◌, ℕ, suc, ◌+◌, ◌-◌, ◌<◌, ◌≤◌, ◌⊎◌, inl, inr, Bool, true, false, cond, List, [], ◌∷◌}
use Rattle.std.proofs.Common.{◌++◌, length, take, get_or, Option, Some, None, Result, Ok, Err, slice_get, refl, sym, ap}
use Rattle.std.proofs.Common.{subst, ◌∙◌, append_assoc, arith, zero}
use Rattle.std.proofs.lemmas.Bool.{false≢true, cases_lt}
use Rattle.std.proofs.lemmas.List.{append-nil, take-append-le, take_all, length-append, get_or_append_left}
use Rattle.std.proofs.lemmas.List.{get_or-append-add}
use Rattle.cs_model.specs.Section.{Section}
use Rattle.cs_model.specs.declared.value.Field.TheVariants.{Undefined, Is}
use Rattle.cs_model.specs.Rule.{Rule, Key, Given, Open, Blank, PairedWith}
use Rattle.cs_model.specs.Changeset.{most_bytes}
use Rattle.cs_model.specs.Text.{SpellsEach, SpellsSection}
use Rattle.cs_parse.specs.declared.fault.FaultKind.{FaultKind}
use Rattle.cs_parse.specs.declared.fault.FaultKind.TheVariants as kind
use Rattle.std.specs.Prelude.{◌==◌, ◌||◌, nat_lt}
use Rattle.cs_parse.specs.declared.fault.ParseFault.{ParseFault}
use Rattle.cs_parse.specs.Place.{BytePlace, Start, Between, InColumns, LastKey, FirstLetter, PastName, AtType, InLength}
use Rattle.cs_parse.specs.Place.{leaves_none, rule_refusal, type_refusal, begins_part as begins, wrong}
use Rattle.cs_parse.specs.Stands.{Stands}
use Rattle.cs_parse.specs.Fault.{Viable, IsFirst, IsFault}
use Rattle.cs_parse.specs.Reading.{answer_of}
use Rattle.cs_parse.specs.Pieces.{may_be_mended, lasting, fault_in, text_after, text_taken, IsLasting, IsFaultless}
use Rattle.cs_parse.specs.Pieces.{joined_pieces, text_kept}
use Rattle.cs_model.specs.Bytes.{AreBytes}
use Rattle.cs_parse.proofs.reading.Steps.{back_fits, bytes_from}
use Rattle.cs_parse.proofs.reading.NumberLaws.{number_front_fits}
use Rattle.cs_parse.proofs.reading.TextLaws.{answer_takes}
use Rattle.cs_parse.proofs.refusing.FaultLaws.{refused_is_fault, fault_is_refused}

-- ---- what the table tells lasts

abbrev Lasts : Option FaultKind → Type 0
Lasts None = Unit {0}
Lasts (Some kind) = may_be_mended kind ≡ false

-- a fault where the test holds, or where it doesn't
bad : (b : Bool) (kind : FaultKind) → may_be_mended kind ≡ false → Lasts (cond b (Some kind) None)
bad true kind h = h
bad false kind h = tt

good : (b : Bool) (kind : FaultKind) → may_be_mended kind ≡ false → Lasts (cond b None (Some kind))
good true kind h = tt
good false kind h = h

-- a fault where the test holds, and else what follows
piece_first : (b : Bool) (kind : FaultKind) (next : Option FaultKind) → may_be_mended kind ≡ false → Lasts next
    → Lasts (cond b (Some kind) next)
piece_first true kind next h k = h
piece_first false kind next h k = k

rule_lasts : (rule : Rule) (byte : ℕ) → Lasts (rule_refusal rule byte)
rule_lasts Key byte = bad (byte == 0 || byte == 5) kind.KeyMissing refl
rule_lasts Given byte = bad (byte == 0) kind.UndefinedField refl
rule_lasts Open byte = tt
rule_lasts Blank byte = good (byte == 0) kind.KeyChanged refl
rule_lasts (PairedWith Undefined) byte = good (byte == 0) kind.OneSided refl
rule_lasts (PairedWith (Is value)) byte = bad (byte == 0) kind.OneSided refl

type_lasts : (rule : Rule) (byte : ℕ) → Lasts (type_refusal rule byte)
type_lasts rule byte =
    piece_first (nat_lt 5 byte) kind.BadType (cond (byte == 2) (Some kind.Real) (rule_refusal rule byte)) refl
    (piece_first (byte == 2) kind.Real (rule_refusal rule byte) refl (rule_lasts rule byte))

wrong_lasts : (place : BytePlace) (byte : ℕ) → Lasts (wrong place byte)
wrong_lasts Start byte = piece_first (byte == 80) kind.Patchset (cond (byte == 84) None (Some kind.BadMarker)) refl
    (good (byte == 84) kind.BadMarker refl)
wrong_lasts Between byte = piece_first (byte == 80) kind.Patchset (cond (begins byte) None (Some kind.BadOperation))
    refl (good (begins byte) kind.BadOperation refl)
wrong_lasts (InColumns left high) byte = bad (leaves_none 1 2000 left high byte) kind.Columns refl
wrong_lasts LastKey byte = bad (byte == 0) kind.NoKey refl
wrong_lasts FirstLetter byte = bad (byte == 0) kind.EmptyName refl
wrong_lasts PastName byte = good (byte == 0) kind.NameTooLong refl
wrong_lasts (AtType rule) byte = type_lasts rule byte
wrong_lasts (InLength left high) byte = bad (leaves_none 0 16777216 left high byte) kind.ValueTooLong refl

-- ---- faults that last

piece_told : (fault : ParseFault) (b : Bool) → may_be_mended fault.kind ≡ b → lasting (Err fault)
    ≡ cond b None (Some fault)
piece_told fault b h = ap (λ w. cond w None (Some fault)) h

abbrev kind_mended : ParseFault → Bool
kind_mended fault = may_be_mended fault.kind

-- a fault that is told, or none
cases : (answer : Result (List Section) ParseFault) → ((c : List Section) × (answer ≡ Ok c))
    ⊎ ((fault : ParseFault) × (answer ≡ Err fault))
cases (Ok c) = inl (c, refl)
cases (Err fault) = inr (fault, refl)

mended_or_not : (b : Bool) → (b ≡ true) ⊎ (b ≡ false)
mended_or_not true = inl refl
mended_or_not false = inr refl

some_is : (a b : ParseFault) → Some a ≡ Some b → a ≡ b
some_is a b e = cc

pub lasting_is : (text : List ℕ) (fault : ParseFault) → AreBytes text → fault_in text ≡ Some fault
    → IsLasting text fault
lasting_is text fault fits e = elim (cases (answer_of text)) as (λ w. IsLasting text fault) [
  | inl h ↦
      let none : None ≡ Some fault = sym (ap lasting h.1) ∙ e in
      absurd cc
  | inr h ↦ elim (mended_or_not (may_be_mended h.0.kind)) as (λ w. IsLasting text fault) [
    | inl m ↦
        let none : None ≡ Some fault = sym (ap lasting h.1 ∙ piece_told h.0 true m) ∙ e in
        absurd cc
    | inr n ↦
        let same : h.0 ≡ fault = some_is h.0 fault (sym (ap lasting h.1 ∙ piece_told h.0 false n) ∙ e) in
        subst (λ f. IsLasting text f) same (refused_is_fault text h.0 fits h.1, n)
  ]
]

pub piece_is_lasting : (text : List ℕ) (fault : ParseFault) → AreBytes text → IsLasting text fault → fault_in text
    ≡ Some fault
piece_is_lasting text fault fits h = ap lasting (fault_is_refused text fault fits h.0) ∙ piece_told fault false h.1

pub goes_on : (text : List ℕ) → AreBytes text → fault_in text ≡ None → IsFaultless text
goes_on text fits e = elim (cases (answer_of text)) as (λ w. IsFaultless text) [
  | inl h ↦
      let s = answer_takes text h.0 fits h.1 in
      record {
        within_limit = s.within_limit;
        viable = record {
          more = [];
          bytes = bytes_from [] refl;
          sections = h.0;
          is_changeset = s.is_changeset;
          spelled = subst (λ w. SpellsEach SpellsSection w h.0) (sym (append-nil text)) s.sections;
        };
      }
  | inr h ↦ elim (mended_or_not (may_be_mended h.0.kind)) as (λ w. IsFaultless text) [
    | inl m ↦ mended text h.0 m (refused_is_fault text h.0 fits h.1)
    | inr n ↦
        let some : Some h.0 ≡ None = sym (ap lasting h.1 ∙ piece_told h.0 false n) ∙ e in
        absurd cc
  ]
]
  where
    mended : (text : List ℕ) (fault : ParseFault) → may_be_mended fault.kind ≡ true → IsFault text fault
        → IsFaultless text
    mended text fault m (inl h) =
        absurd (false≢true (sym (subst (λ o. Lasts o) h.is_wrong (wrong_lasts h.place h.byte)) ∙ m))
    mended text fault m (inr (inl h)) = absurd (false≢true (sym (ap kind_mended h.same) ∙ m))
    mended text fault m (inr (inr h)) = record { within_limit = h.within_limit; viable = h.so_far }

-- ---- behind more bytes

piece_front_of : (front back : List ℕ) → AreBytes (front ++ back) → AreBytes front
piece_front_of front back fits =
    let n = length front in
    subst (λ w. AreBytes w) (take-append-le n front back (omega arith) ∙ take_all n front (omega arith))
    (number_front_fits n (front ++ back) (omega (arith, length-append front back)) fits)

take_same : (n : ℕ) (text more : List ℕ) → n ≤ length text → take n (text ++ more) ≡ take n text
take_same n text more le = take-append-le n text more le

first_stays : (text more : List ℕ) (n : ℕ) → IsFirst text n → IsFirst (text ++ more) n
first_stays text more n h = record {
  inside = omega (arith, h.inside, length-append text more);
  dead = λ v. h.dead (subst (λ w. Viable w) (take_same (suc n) text more h.inside) v);
  alive = λ m lt. subst (λ w. Viable w) (sym (take_same (suc m) text more (omega (arith, h.inside)))) (h.alive m lt);
}

get_stays : (text more : List ℕ) (n byte : ℕ) → slice_get text n ≡ Some byte → slice_get (text ++ more) n ≡ Some byte
get_stays [] more n byte h = absurd cc
get_stays (x ∷ text) more zero byte h = h
get_stays (x ∷ text) more (suc n) byte h = get_stays text more n byte h

fault_stays : (text more : List ℕ) (fault : ParseFault) → IsLasting text fault → IsFault (text ++ more) fault
fault_stays text more fault h = by h.0
  where
    by : IsFault text fault → IsFault (text ++ more) fault
    by (inl b) = inl (record {
      first = first_stays text more fault.at b.first;
      within_limit = b.within_limit;
      place = b.place;
      byte = b.byte;
      is_byte = get_stays text more fault.at b.byte b.is_byte;
      stands = subst (λ w. Stands w b.place) (sym (take_same fault.at text more (omega (arith, b.first.inside))))
          b.stands;
      is_wrong = b.is_wrong;
    })
    by (inr (inl b)) = inr (inl (record {
      same = b.same;
      long = omega (arith, b.long, length-append text more);
      so_far = subst (λ w. Viable w) (sym (take_same most_bytes text more (omega (arith, b.long)))) b.so_far;
    }))
    by (inr (inr b)) = absurd (false≢true (sym h.1 ∙ ap kind_mended b.same))

told_or_not : (o : Option ParseFault) → (o ≡ None) ⊎ ((fault : ParseFault) × (o ≡ Some fault))
told_or_not None = inl refl
told_or_not (Some fault) = inr (fault, refl)

-- bytes of a text without a piece in its middle
without : (text piece rest : List ℕ) → AreBytes (text ++ (piece ++ rest)) → AreBytes (text ++ rest)
without text piece rest fits i = elim (cases_lt i (length text)) as (λ w. get_or (text ++ rest) i 0 < 256) [
  | inl less ↦ subst (λ n. n < 256)
      (get_or_append_left text (piece ++ rest) 0 i less ∙ sym (get_or_append_left text rest 0 i less)) (fits i)
  | inr past ↦
      let back : AreBytes rest =
      back_fits (piece ++ rest) piece rest refl (back_fits (text ++ (piece ++ rest)) text (piece ++ rest) refl fits)
      in
      let at : length text + (i - length text) ≡ i = omega (arith, past) in
      subst (λ n. n < 256) (sym (get_or-append-add text rest (i - length text) 0)
      ∙ ap (λ k. get_or (text ++ rest) k 0) at) (back (i - length text))
]

-- What the bytes kept of pieces are answered is what all of them are answered.
pub kept_is_joined : (text : List ℕ) (pieces : List (List ℕ)) → AreBytes (text ++ joined_pieces pieces)
    → answer_of (text_kept text pieces) ≡ answer_of (text ++ joined_pieces pieces)
kept_is_joined text [] fits = ap answer_of (sym (append-nil text))
kept_is_joined text (piece ∷ pieces) fits =
    let regrouped : (text ++ piece) ++ joined_pieces pieces ≡ text ++ (piece ++ joined_pieces pieces) =
    append_assoc text piece (joined_pieces pieces) in
    elim (told_or_not (fault_in text)) as
    (λ w. answer_of (text_kept (text_taken text piece) pieces)
    ≡ answer_of (text ++ (piece ++ joined_pieces pieces))) [
      | inl none ↦
          ap (λ o. answer_of (text_kept (text_after o text piece) pieces)) none
          ∙ kept_is_joined (text ++ piece) pieces (subst (λ w. AreBytes w) (sym regrouped) fits)
          ∙ ap answer_of regrouped
      | inr some ↦
          let fault = some.0 in
          let h = lasting_is text fault (piece_front_of text (piece ++ joined_pieces pieces) fits) some.1 in
          let rest : AreBytes (text ++ joined_pieces pieces) = without text piece (joined_pieces pieces) fits in
          ap (λ o. answer_of (text_kept (text_after o text piece) pieces)) some.1
          ∙ kept_is_joined text pieces rest
          ∙ fault_is_refused (text ++ joined_pieces pieces) fault rest (fault_stays text (joined_pieces pieces) fault h)
          ∙ sym (fault_is_refused (text ++ (piece ++ joined_pieces pieces)) fault fits
          (fault_stays text (piece ++ joined_pieces pieces) fault h))
    ]
