-- What is read of a record does not depend on the bytes after it: its own bytes decode to the same fields.
use Rattle.std.proofs.Common.{◌≡◌, ℕ, zero, suc, ◌+◌, ◌-◌, ◌≤◌, Bool, true, false, cond, eqb, ltb, Option, Some, None}
use Rattle.std.proofs.Common.{List, [], ◌∷◌, ◌++◌, length, take, drop, refl, sym, ap, ◌∙◌, inl, inr, arith}
use Rattle.std.specs.Int.{w64, from_be_bytes, cast_signed}
use Rattle.std.proofs.Math.Seq.{take-append_seam}
use Rattle.std.proofs.lemmas.Bool.{le-ltb, lt-ltb, cases_lt}
use Rattle.std.proofs.lemmas.List.{append_assoc, append-nil, append_cancel_right, length-append, length-drop}
use Rattle.std.proofs.lemmas.List.{take-append-drop, take-append-le, drop-append-le}
use Rattle.cs_model.specs.declared.value.Value.TheVariants.{Integer, Text, Blob, Null}
use Rattle.cs_model.specs.declared.value.Field.{Field}
use Rattle.cs_model.specs.declared.value.Field.TheVariants.{Undefined, Is}
use Rattle.cs_model.specs.Varint.{IsVarint}
use Rattle.cs_model.specs.Packed.{read_from, counted_by, counted_in, integer_by, typed_in, unpacked}
use Rattle.cs_model.specs.PackedChanges.{some_in}
use Rattle.cs_model.proofs.spelling.VarintLemmas.{found_of, only_of}
use Rattle.cs_model.proofs.packing.PackedLaws.{unpacked_none, unpacked_first}

-- what was read stands in front of what is behind it
record CutBehind (bytes rest : List ℕ) : Type 0 where
  pub body : List ℕ
  pub whole : bytes ≡ body ++ rest

counted_by_behind : (bytes : List ℕ) (o : Option (ℕ × ℕ)) → CutBehind bytes (counted_by bytes o).1
counted_by_behind bytes None = record { body = bytes; whole = sym (append-nil bytes) }
counted_by_behind bytes (Some n) = record {
  body = take n.1 bytes ++ take n.0 (drop n.1 bytes);
  whole = sym (append_assoc (take n.1 bytes) (take n.0 (drop n.1 bytes)) (drop n.0 (drop n.1 bytes))
      ∙ ap (λ (w : List ℕ). take n.1 bytes ++ w) (take-append-drop n.0 (drop n.1 bytes)) ∙ take-append-drop n.1 bytes);
}

counted_behind : (bytes : List ℕ) → CutBehind bytes (counted_in bytes).1
unfolding counted_in
counted_behind bytes = counted_by_behind bytes (read_from 8 0 0 bytes)

integer_behind : (short : Bool) (rest : List ℕ) → CutBehind rest (integer_by short rest).1
integer_behind true rest = record { body = []; whole = refl }
integer_behind false rest = record { body = take 8 rest; whole = sym (take-append-drop 8 rest) }

either_behind : (b : Bool) (x y : Field × List ℕ) (bytes : List ℕ) → CutBehind bytes x.1 → CutBehind bytes y.1
    → CutBehind bytes (cond b x y).1
either_behind true x y bytes p q = p
either_behind false x y bytes p q = q

typed_behind : (byte : ℕ) (rest : List ℕ) → CutBehind rest (typed_in byte rest).1
unfolding typed_in
typed_behind byte rest =
    let none : CutBehind rest rest = record { body = []; whole = refl } in
    let text = counted_behind rest in
    either_behind (eqb byte 0) _ _ _ none
    (either_behind (eqb byte 1) _ _ _ (integer_behind (ltb (length rest) 8) rest)
    (either_behind (eqb byte 3) _ _ _ text (either_behind (eqb byte 4) _ _ _ text none)))

-- ---- without a tail that was behind, the same is read

abbrev Cut : {A : Type 0} → List ℕ → A × List ℕ → A × List ℕ → Type 0
Cut {A} tail whole part = (x : A) (rest : List ℕ) → whole ≡ (x, rest ++ tail) → part ≡ (x, rest)

same_cut : (f : Field) (bytes tail : List ℕ) → Cut tail (f, bytes ++ tail) (f, bytes)
same_cut f bytes tail x rest e =
    let one : f ≡ x = ap (λ (p : Field × List ℕ). p.0) e in
    let other : bytes ≡ rest = append_cancel_right bytes rest tail (ap (λ (p : Field × List ℕ). p.1) e) in
    cc

integer_cut : (bytes tail : List ℕ) → Cut tail (integer_by (ltb (length (bytes ++ tail)) 8) (bytes ++ tail))
    (integer_by (ltb (length bytes) 8) bytes)
integer_cut bytes tail x rest e =
    elim (cases_lt (length bytes) 8) as (λ w. integer_by (ltb (length bytes) 8) bytes ≡ (x, rest)) [
      | inr long ↦
          let whole : ltb (length (bytes ++ tail)) 8 ≡ false = le-ltb _ _ (omega (arith, length-append bytes tail)) in
          let part : ltb (length bytes) 8 ≡ false = le-ltb _ _ long in
          let read = rw (whole, take-append-le 8 bytes tail long, drop-append-le 8 bytes tail long) at e in
          rw part (same_cut (Is (Integer (cast_signed w64 (from_be_bytes w64 (take 8 bytes))))) (drop 8 bytes)
          tail x rest
          read)
      | inl short ↦
          let part : ltb (length bytes) 8 ≡ true = lt-ltb _ _ short in
          elim (cases_lt (length (bytes ++ tail)) 8) as (λ w. integer_by (ltb (length bytes) 8) bytes ≡ (x, rest)) [
            | inl all ↦
                let whole : ltb (length (bytes ++ tail)) 8 ≡ true = lt-ltb _ _ all in
                rw part (same_cut (Is Null) bytes tail x rest (rw whole at e))
            | inr enough ↦
                let whole : ltb (length (bytes ++ tail)) 8 ≡ false = le-ltb _ _ enough in
                let behind : drop 8 (bytes ++ tail) ≡ rest ++ tail = ap (λ (p : Field × List ℕ). p.1) (rw whole at e) in
                absurd (omega (
                  arith,
                  ap length behind,
                  length-drop 8 (bytes ++ tail),
                  length-append bytes tail,
                  length-append rest tail,
                ))
          ]
    ]

-- a length and its bytes stand before a tail that isn't empty
counted_by_cut : (bytes : List ℕ) (t : ℕ) (tail : List ℕ) (o : Option (ℕ × ℕ)) → o ≡ read_from 8 0 0 (bytes ++ t ∷ tail)
    → Cut (t ∷ tail) (counted_by (bytes ++ t ∷ tail) o) (counted_by bytes (read_from 8 0 0 bytes))
counted_by_cut bytes t tail None reads x rest e =
    let none : [] ≡ rest ++ t ∷ tail = ap (λ (p : List ℕ × List ℕ). p.1) e in
    absurd (omega (arith, ap length none, length-append rest (t ∷ tail)))
counted_by_cut bytes t tail (Some n) reads x rest e =
    let all = bytes ++ t ∷ tail in
    let behind : drop n.0 (drop n.1 all) ≡ rest ++ t ∷ tail = ap (λ (p : List ℕ × List ℕ). p.1) e in
    let long : n.1 + n.0 ≤ length bytes =
    omega (
      arith,
      ap length behind,
      length-drop n.0 (drop n.1 all),
      length-drop n.1 all,
      length-append bytes (t ∷ tail),
      length-append rest (t ∷ tail),
    ) in
    let number : n.1 ≤ length bytes = omega arith in
    let spelled : IsVarint (take n.1 bytes) n.0 =
    rw (take-append-le n.1 bytes (t ∷ tail) number) at (found_of all n reads).1 in
    let again : read_from 8 0 0 bytes ≡ Some (n.0, n.1) =
    only_of bytes (read_from 8 0 0 bytes) refl n.0 n.1 number spelled in
    let front : drop n.1 all ≡ drop n.1 bytes ++ t ∷ tail = drop-append-le n.1 bytes (t ∷ tail) number in
    let within : n.0 ≤ length (drop n.1 bytes) = omega (arith, length-drop n.1 bytes) in
    let one : take n.0 (drop n.1 bytes) ≡ x = sym (take-append-le n.0 (drop n.1 bytes) (t ∷ tail) within)
    ∙ ap (λ (w : List ℕ). take n.0 w) (sym front) ∙ ap (λ (p : List ℕ × List ℕ). p.0) e in
    let others : drop n.0 (drop n.1 bytes) ≡ rest =
    append_cancel_right (drop n.0 (drop n.1 bytes)) rest (t ∷ tail)
    (sym (drop-append-le n.0 (drop n.1 bytes) (t ∷ tail) within) ∙ ap (λ (w : List ℕ). drop n.0 w) (sym front)
    ∙ behind) in
    rw again cc

counted_cut : (bytes : List ℕ) (t : ℕ) (tail : List ℕ)
    → Cut (t ∷ tail) (counted_in (bytes ++ t ∷ tail)) (counted_in bytes)
unfolding counted_in
counted_cut bytes t tail = counted_by_cut bytes t tail (read_from 8 0 0 (bytes ++ t ∷ tail)) refl

under_cut : (f : List ℕ → Field) (tail : List ℕ) (whole part : List ℕ × List ℕ) → Cut tail whole part
    → Cut tail (f whole.0, whole.1) (f part.0, part.1)
under_cut f tail whole part cut x rest e =
    let named : f whole.0 ≡ x = ap (λ (p : Field × List ℕ). p.0) e in
    let others : whole.1 ≡ rest ++ tail = ap (λ (p : Field × List ℕ). p.1) e in
    let pair : whole ≡ (whole.0, rest ++ tail) = ap (λ (w : List ℕ). (whole.0, w)) others in
    let same : part ≡ (whole.0, rest) = cut whole.0 rest pair in
    ap (λ (p : List ℕ × List ℕ). (f p.0, p.1)) same ∙ ap (λ (y : Field). (y, rest)) named

either_cut : (b : Bool) (tail : List ℕ) (whole part whole-2 part-2 : Field × List ℕ) → Cut tail whole part
    → Cut tail whole-2 part-2 → Cut tail (cond b whole whole-2) (cond b part part-2)
either_cut true tail whole part whole-2 part-2 p q = p
either_cut false tail whole part whole-2 part-2 p q = q

typed_cut_more : (byte : ℕ) (bytes : List ℕ) (t : ℕ) (tail : List ℕ)
    → Cut (t ∷ tail) (typed_in byte (bytes ++ t ∷ tail)) (typed_in byte bytes)
unfolding typed_in
typed_cut_more byte bytes t tail =
    let same = same_cut (Is Null) bytes (t ∷ tail) in
    let text = under_cut (λ w. Is (Text w)) (t ∷ tail) (counted_in (bytes ++ t ∷ tail)) (counted_in bytes)
    (counted_cut bytes t tail) in
    let blob = under_cut (λ w. Is (Blob w)) (t ∷ tail) (counted_in (bytes ++ t ∷ tail)) (counted_in bytes)
    (counted_cut bytes t tail) in
    either_cut (eqb byte 0) (t ∷ tail) _ _ _ _ (same_cut Undefined bytes (t ∷ tail))
    (either_cut (eqb byte 1) (t ∷ tail) _ _ _ _ (integer_cut bytes (t ∷ tail))
    (either_cut (eqb byte 3) (t ∷ tail) _ _ _ _ text (either_cut (eqb byte 4) (t ∷ tail) _ _ _ _ blob same)))

typed_cut : (byte : ℕ) (bytes tail : List ℕ) → Cut tail (typed_in byte (bytes ++ tail)) (typed_in byte bytes)
typed_cut byte bytes [] x rest e = ap (λ (w : List ℕ). typed_in byte w) (sym (append-nil bytes)) ∙ e
    ∙ ap (λ (w : List ℕ). (x, w)) (append-nil rest)
typed_cut byte bytes (t ∷ tail) x rest e = typed_cut_more byte bytes t tail x rest e

-- ---- a record's own bytes

-- the bytes in front of what is behind so many fields, which say these fields
pub record Own (n : ℕ) (bytes : List ℕ) : Type 0 where
  pub front : List ℕ
  pub whole : bytes ≡ front ++ (some_in n bytes).1
  pub says : unpacked front ≡ (some_in n bytes).0

own_goes : (n byte : ℕ) (rest : List ℕ) → Own n (typed_in byte rest).1 → Own (suc n) (byte ∷ rest)
unfolding some_in
own_goes n byte rest own =
    let after = (typed_in byte rest).1 in
    let others = (some_in n after).1 in
    let one = typed_behind byte rest in
    let mine = one.body ++ own.front in
    let parts : rest ≡ mine ++ others = one.whole ∙ ap (λ (w : List ℕ). one.body ++ w) own.whole
    ∙ sym (append_assoc one.body own.front others) in
    let read : typed_in byte (mine ++ others) ≡ ((typed_in byte rest).0, own.front ++ others) =
    ap (λ (w : List ℕ). typed_in byte w) (sym parts) ∙ ap (λ (w : List ℕ). ((typed_in byte rest).0, w)) own.whole in
    let alone : typed_in byte mine ≡ ((typed_in byte rest).0, own.front) =
    typed_cut byte mine others (typed_in byte rest).0 own.front read in
    record {
      front = byte ∷ mine;
      whole = ap (λ (w : List ℕ). byte ∷ w) parts;
      says = unpacked_first (byte ∷ mine) byte mine (typed_in byte rest).0 own.front refl
          (sym (ap (λ (p : Field × List ℕ). p.0) alone)) (sym (ap (λ (p : Field × List ℕ). p.1) alone))
          ∙ ap (λ (fs : List Field). (typed_in byte rest).0 ∷ fs) own.says;
    }

pub own : (n : ℕ) (bytes : List ℕ) → Own n bytes
unfolding some_in
own zero bytes = record { front = []; whole = refl; says = unpacked_none [] refl }
own (suc n) [] = record { front = []; whole = refl; says = unpacked_none [] refl }
own (suc n) (byte ∷ rest) = own_goes n byte rest (own n (typed_in byte rest).1)

-- what is cut off behind is no longer, and the bytes before it say the fields
pub some_no_longer : (n : ℕ) (bytes : List ℕ) → length (some_in n bytes).1 ≤ length bytes
some_no_longer n bytes =
    let o = own n bytes in
    omega (arith, ap length o.whole, length-append o.front (some_in n bytes).1)

pub own_front : (n : ℕ) (bytes rest front : List ℕ) (k : ℕ) → rest ≡ (some_in n bytes).1 → k
    ≡ length bytes - length rest → front ≡ take k bytes → unpacked front ≡ (some_in n bytes).0
own_front n bytes rest front k is_rest is_k is_front =
    let o = own n bytes in
    let len : k ≡ length o.front =
    omega (arith, ap length is_rest, ap length o.whole, length-append o.front (some_in n bytes).1) in
    let same : front ≡ o.front = is_front ∙ ap (λ (w : List ℕ). take k w) o.whole
    ∙ rw len (take-append_seam o.front (some_in n bytes).1) in
    ap unpacked same ∙ o.says
