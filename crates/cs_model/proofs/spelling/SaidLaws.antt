-- Appending the canonical bytes of what bytes decode to, one field and one change at a time.
use Rattle.std.proofs.Common.{◌≡◌, ℕ, zero, suc, ◌+◌, ◌-◌, ◌<◌, ◌≤◌, List, [], ◌∷◌, ◌++◌, length, take, drop, refl, sym}
use Rattle.std.proofs.Common.{ap, ◌∙◌, arith}
use Rattle.std.proofs.Math.Seq.{take-append_seam}
use Rattle.std.proofs.lemmas.List.{append_assoc, append-nil, take-append-drop}
use Rattle.cs_model.specs.declared.value.Field.{Field}
use Rattle.cs_model.specs.declared.change.Change.{Change}
use Rattle.cs_model.specs.FieldBytes.{field_bytes}
use Rattle.cs_model.specs.Packed.{packed, typed_in}
use Rattle.cs_model.specs.PackedChanges.{change_bytes, changes_bytes, some_in, unpacked_changes}
use Rattle.cs_model.proofs.packing.PackedChangeLaws.{some_reads}

-- ---- bytes that stand in front stay

pub still_front : (old made new more : List ℕ) → take (length old) made ≡ old → new ≡ made ++ more
    → take (length old) new ≡ old
still_front old made new more front added =
    let n = length old in
    let whole : new ≡ old ++ (drop n made ++ more) =
    added ∙ (ap (λ (w : List ℕ). w ++ more)
    (sym (take-append-drop n made) ∙ ap (λ (w : List ℕ). w ++ drop n made) front)
    ∙ append_assoc old (drop n made) more) in
    ap (λ (w : List ℕ). take n w) whole ∙ take-append_seam old (drop n made ++ more)

pub now_front : (old new more : List ℕ) → new ≡ old ++ more → take (length old) new ≡ old
now_front old new more added = ap (λ (w : List ℕ). take (length old) w) added ∙ take-append_seam old more

pub front_of_front : (old made new : List ℕ) → take (length old) made ≡ old → take (length made) new ≡ made
    → take (length old) new ≡ old
front_of_front old made new front added =
    still_front old made new (drop (length made) new) front
    (sym (take-append-drop (length made) new) ∙ ap (λ (w : List ℕ). w ++ drop (length made) new) added)

-- ---- fields

-- a field more
pub fields_go : (columns i : ℕ) (rest behind : List ℕ) (byte : ℕ) (f : Field) (after made new whole : List ℕ) → i
    < columns → rest ≡ byte ∷ behind → f ≡ (typed_in byte behind).0 → after ≡ (typed_in byte behind).1
    → new ≡ made ++ field_bytes f → made ++ packed (some_in (columns - i) rest).0 ≡ whole → new
    ++ packed (some_in (columns - (i + 1)) after).0 ≡ whole
fields_go columns i rest behind byte f after made new whole more is_rest is_field is_after added so_far =
    let others = (some_in (columns - (i + 1)) after).0 in
    let read : (some_in (columns - i) rest).0 ≡ f ∷ others =
    ap (λ (x : List Field × List ℕ). x.0)
    (some_reads columns i rest behind byte f after more is_rest is_field is_after) in
    ap (λ (w : List ℕ). w ++ packed others) added
    ∙ (append_assoc made (field_bytes f) (packed others)
    ∙ (ap (λ (fs : List Field). made ++ packed fs) (sym read) ∙ so_far))

said_none_in : (n : ℕ) → (some_in n []).0 ≡ []
unfolding some_in
said_none_in zero = refl
said_none_in (suc n) = refl

zero_in : (bytes : List ℕ) → (some_in 0 bytes).0 ≡ []
unfolding some_in
zero_in bytes = refl

nothing_more : (made whole : List ℕ) (fs : List Field) → fs ≡ [] → made ++ packed fs ≡ whole → made ≡ whole
nothing_more made whole fs none so_far = sym (append-nil made)
    ∙ (ap (λ (gs : List Field). made ++ packed gs) (sym none) ∙ so_far)

-- no bytes are left
pub fields_end : (n : ℕ) (rest made whole : List ℕ) → length rest ≡ 0 → made ++ packed (some_in n rest).0 ≡ whole → made
    ≡ whole
fields_end n [] made whole none so_far = nothing_more made whole (some_in n []).0 (said_none_in n) so_far
fields_end n (b ∷ rest) made whole none so_far = absurd (omega (arith, none))

-- no fields are left
pub fields_done : (columns i : ℕ) (rest made whole : List ℕ) → columns ≤ i → made
    ++ packed (some_in (columns - i) rest).0 ≡ whole → made ≡ whole
fields_done columns i rest made whole done so_far =
    let none : columns - i ≡ 0 = omega arith in
    nothing_more made whole (some_in (columns - i) rest).0 (ap (λ (k : ℕ). (some_in k rest).0) none ∙ zero_in rest)
    so_far

-- ---- changes

pub changes_go : (n : ℕ) (rest after made new whole : List ℕ) (c : Change) → unpacked_changes n rest ≡ c
    ∷ unpacked_changes n after → new ≡ made ++ change_bytes c → made ++ changes_bytes (unpacked_changes n rest) ≡ whole
    → new ++ changes_bytes (unpacked_changes n after) ≡ whole
changes_go n rest after made new whole c read added so_far =
    let others = changes_bytes (unpacked_changes n after) in
    ap (λ (w : List ℕ). w ++ others) added
    ∙ (append_assoc made (change_bytes c) others
    ∙ (ap (λ (cs : List Change). made ++ changes_bytes cs) (sym read) ∙ so_far))

pub changes_end : (n : ℕ) (rest made whole : List ℕ) → unpacked_changes n rest ≡ [] → made
    ++ changes_bytes (unpacked_changes n rest) ≡ whole → made ≡ whole
changes_end n rest made whole none so_far = sym (append-nil made)
    ∙ (ap (λ (cs : List Change). made ++ changes_bytes cs) (sym none) ∙ so_far)
