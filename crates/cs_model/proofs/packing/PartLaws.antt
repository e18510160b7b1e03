-- A part of a record's fields has a part of its bytes.
use Rattle.std.proofs.Common.{◌≡◌, ℕ, zero, suc, ◌-◌, ◌≤◌, List, [], ◌∷◌, ◌++◌, length, take, drop, refl, sym, ap, ◌∙◌}
use Rattle.std.proofs.Common.{arith}
use Rattle.std.specs.List.{AllByRecursion}
use Rattle.std.proofs.Math.Seq.{take-append_seam}
use Rattle.std.proofs.lemmas.List.{append_assoc, length-append}
use Rattle.cs_model.specs.declared.value.Field.{Field}
use Rattle.cs_model.specs.FieldBytes.{field_bytes}
use Rattle.cs_model.specs.Packed.{packed, unpacked, Fits, Packs}
use Rattle.cs_model.specs.PackedChanges.{some_in}
use Rattle.cs_model.proofs.packing.PackedLaws.{packed_made, typed_back, own_field}
use Rattle.cs_model.proofs.packing.PackedChangeLaws.{some_step, then_some}

-- past so many fields are the bytes of those behind them
past_none : (n : ℕ) → (some_in n []).1 ≡ []
unfolding some_in
past_none zero = refl
past_none (suc n) = refl

past_all : (bytes : List ℕ) → (some_in 0 bytes).1 ≡ bytes
unfolding some_in
past_all bytes = refl

pub past : (n : ℕ) (fields : List Field) → AllByRecursion Fits fields → (some_in n (packed fields)).1
    ≡ packed (drop n fields)
past zero fields fit = past_all (packed fields)
past (suc n) [] fit = past_none (suc n)
past (suc n) (f ∷ fs) fit =
    let a = typed_back f (field_bytes f) (packed fs) (own_field f fit.0) fit.0 in
    ap (λ (w : List ℕ). (some_in (suc n) w).1) a.whole
    ∙ (ap (λ (x : List Field × List ℕ). x.1) (some_step n a.byte a.body)
    ∙ (ap (λ (x : Field × List ℕ). (then_some n x).1) a.reads ∙ past n fs fit.1))

drop_fits : (n : ℕ) (fields : List Field) → AllByRecursion Fits fields → AllByRecursion Fits (drop n fields)
drop_fits zero fields fit = fit
drop_fits (suc n) [] fit = tt
drop_fits (suc n) (f ∷ fs) fit = drop_fits n fs fit.1

packed_parts : (n : ℕ) (fields : List Field) → packed fields ≡ packed (take n fields) ++ packed (drop n fields)
packed_parts zero fields = refl
packed_parts (suc n) [] = refl
packed_parts (suc n) (f ∷ fs) = ap (λ (w : List ℕ). field_bytes f ++ w) (packed_parts n fs)
    ∙ sym (append_assoc (field_bytes f) (packed (take n fs)) (packed (drop n fs)))

-- what stands between the two places
pub record PartBetween (bytes : List ℕ) (fields : List Field) (first count : ℕ) (rest after : List ℕ) : Type 0 where
  pub begins : rest ≡ packed (drop first fields)
  pub ends : after ≡ packed (drop count (drop first fields))
  pub whole : rest ≡ packed (take count (drop first fields)) ++ after

pub part_between : (bytes : List ℕ) (fields : List Field) (first count : ℕ) (rest after : List ℕ) → Packs bytes fields
    → rest ≡ (some_in first bytes).1 → after ≡ (some_in count rest).1
    → PartBetween bytes fields first count rest after
part_between bytes fields first count rest after packs is_rest is_after =
    let mid = drop first fields in
    let begins : rest ≡ packed mid =
    is_rest ∙ (ap (λ (w : List ℕ). (some_in first w).1) packs.parts ∙ past first fields packs.fit) in
    let ends : after ≡ packed (drop count mid) =
    is_after ∙ (ap (λ (w : List ℕ). (some_in count w).1) begins ∙ past count mid (drop_fits first fields packs.fit)) in
    record {
      begins = begins;
      ends = ends;
      whole = begins ∙ (packed_parts count mid ∙ ap (λ (w : List ℕ). packed (take count mid) ++ w) (sym ends));
    }

pub part_no_longer : (bytes : List ℕ) (fields : List Field) (first count : ℕ) (rest after : List ℕ)
    → PartBetween bytes fields first count rest after → length after ≤ length rest
part_no_longer bytes fields first count rest after b =
    omega (arith, ap length b.whole, length-append (packed (take count (drop first fields))) after)

pub part_front : (bytes : List ℕ) (fields : List Field) (first count : ℕ) (rest after front : List ℕ) (k : ℕ)
    → PartBetween bytes fields first count rest after → k ≡ length rest - length after → front ≡ take k rest
    → front ≡ packed (take count (drop first fields))
part_front bytes fields first count rest after front k b is_k is_front =
    let mine = packed (take count (drop first fields)) in
    let len : k ≡ length mine = omega (arith, ap length b.whole, length-append mine after) in
    is_front ∙ (ap (λ (w : List ℕ). take k w) b.whole ∙ rw len (take-append_seam mine after))

-- ---- a record that is cut in two

take_fits : (n : ℕ) (fields : List Field) → AllByRecursion Fits fields → AllByRecursion Fits (take n fields)
take_fits zero fields fit = tt
take_fits (suc n) [] fit = tt
take_fits (suc n) (f ∷ fs) fit = (fit.0, take_fits n fs fit.1)

-- the bytes of both parts
pub record IsCutInTwo (fields : List Field) (count : ℕ) (front rest : List ℕ) : Type 0 where
  pub front_says : unpacked front ≡ take count fields
  pub front_packs : Packs front (unpacked front)
  pub rest_says : unpacked rest ≡ drop count fields
  pub rest_packs : Packs rest (unpacked rest)

pub is_cut_in_two : (bytes : List ℕ) (fields : List Field) (count : ℕ) (rest front : List ℕ) (k : ℕ) → Packs bytes fields
    → rest ≡ (some_in count bytes).1 → k ≡ length bytes - length rest → front ≡ take k bytes
    → IsCutInTwo fields count front rest
is_cut_in_two bytes fields count rest front k packs is_rest is_k is_front =
    let between = part_between bytes fields 0 count bytes rest packs (sym (past_all bytes)) is_rest in
    let first = packed_made front (take count fields)
    (part_front bytes fields 0 count bytes rest front k between is_k is_front) (take_fits count fields packs.fit) in
    let second = packed_made rest (drop count fields) between.ends (drop_fits count fields packs.fit) in
    record { front_says = first.0; front_packs = first.1; rest_says = second.0; rest_packs = second.1 }

pub cut_no_longer : (bytes : List ℕ) (fields : List Field) (count : ℕ) (rest : List ℕ) → Packs bytes fields
    → rest ≡ (some_in count bytes).1 → length rest ≤ length bytes
cut_no_longer bytes fields count rest packs is_rest =
    part_no_longer bytes fields 0 count bytes rest (part_between bytes fields 0 count bytes rest packs
    (sym (past_all bytes)) is_rest)
