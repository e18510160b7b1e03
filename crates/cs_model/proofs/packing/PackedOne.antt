-- One change as its canonical bytes.
use Rattle.std.proofs.Common.{◌≡◌, ◌∙◌, ℕ, ◌+◌, ◌-◌, Bool, true, false, not, eqb, List, ◌∷◌, ◌++◌, length, get_or, take}
use Rattle.std.proofs.Common.{drop, refl, sym, ap, subst, arith}
use Rattle.std.proofs.Math.Seq.{drop-append_seam, take-append_seam}
use Rattle.std.proofs.lemmas.List.{length-append}
use Rattle.cs_model.specs.declared.change.Change.{Change}
use Rattle.cs_model.specs.Packed.{packed, unpacked}
use Rattle.cs_model.specs.PackedChanges.{AreCanonical, Fit, PacksAll, change_bytes, change_of, mark, op_in}
use Rattle.cs_model.specs.PackedChanges.{unpacked_changes}
use Rattle.cs_model.specs.PackedOne.{IsPacked, unpacked_change}
use Rattle.cs_model.specs.Text.{op_byte}
use Rattle.cs_model.proofs.packing.PackedLaws as records
use Rattle.cs_model.proofs.packing.PackedChangeLaws.{op_back}

-- ---- what its bytes decode to

mark_back : (indirect : Bool) → not (eqb (mark indirect) 0) ≡ indirect
mark_back true = refl
mark_back false = refl

-- bytes that are those of a change, with its new record where the number says, decode to the change
pub packed_change_back : (c : Change) (middle : ℕ) (bytes : List ℕ) → IsPacked c middle bytes
    → unpacked_change middle bytes ≡ c
packed_change_back c middle bytes is =
    let old = packed c.before in
    let new = packed c.after in
    let whole : bytes ≡ op_byte c.op ∷ mark c.indirect ∷ (old ++ new) = is.parts in
    let at : middle ≡ length (op_byte c.op ∷ mark c.indirect ∷ old) = omega (arith, is.at) in
    let front : take middle bytes ≡ op_byte c.op ∷ mark c.indirect ∷ old =
    (λ i. take (at i) (whole i)) ∙ take-append_seam (op_byte c.op ∷ mark c.indirect ∷ old) new in
    let back : drop middle bytes ≡ new =
    (λ i. drop (at i) (whole i)) ∙ drop-append_seam (op_byte c.op ∷ mark c.indirect ∷ old) new in
    let before : unpacked (drop 2 (take middle bytes)) ≡ c.before =
    ap (λ w. unpacked (drop 2 w)) front ∙ (records.packed_made old c.before refl is.before).0 in
    let after : unpacked (drop middle bytes) ≡ c.after =
    ap unpacked back ∙ (records.packed_made new c.after refl is.after).0 in
    let op : op_in (get_or bytes 0 0) ≡ c.op = ap (λ w. op_in (get_or w 0 0)) whole ∙ op_back c.op in
    let indirect : not (eqb (get_or bytes 1 0) 0) ≡ c.indirect =
    ap (λ w. not (eqb (get_or w 1 0) 0)) whole ∙ mark_back c.indirect in
    (λ i. change_of (op i) (indirect i) (before i) (after i))

-- ---- the first of some changes

-- the bytes of a first change stand before those of the others
record FirstPacked (n : ℕ) (bytes after : List ℕ) (c : Change) : Type 0 where
  whole : bytes ≡ change_bytes c ++ after
  fit : Fit n c

first_packed : (n : ℕ) (bytes after : List ℕ) (c : Change) → AreCanonical n bytes → AreCanonical n after
    → unpacked_changes n bytes ≡ c ∷ unpacked_changes n after → FirstPacked n bytes after c
first_packed n bytes after c packs others says =
    let mine = subst (λ ds. PacksAll n bytes ds) says packs in
    record {
      whole = mine.parts ∙ ap (λ w. change_bytes c ++ w) (sym others.parts);
      fit = mine.fit.0;
    }

-- the bytes before those of the others are the first change, and its new record stands there
pub front_packed : (n : ℕ) (bytes after front : List ℕ) (middle : ℕ) (c : Change) → AreCanonical n bytes
    → AreCanonical n after → unpacked_changes n bytes ≡ c ∷ unpacked_changes n after
    → front ≡ take (length bytes - length after) bytes → middle ≡ 2 + length (packed c.before)
    → IsPacked c middle front
front_packed n bytes after front middle c packs others says is_front is_middle =
    let f = first_packed n bytes after c packs others says in
    let mine = change_bytes c in
    let len : length bytes - length after ≡ length mine =
    omega (arith, ap length f.whole, length-append mine after) in
    record {
      parts = is_front ∙ ap (λ (w : List ℕ). take (length bytes - length after) w) f.whole
          ∙ rw len (take-append_seam mine after);
      at = is_middle;
      before = f.fit.before;
      after = f.fit.after;
    }
