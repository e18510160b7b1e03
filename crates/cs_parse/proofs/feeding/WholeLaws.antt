-- A loop over the complete items.
use Rattle.std.proofs.Common.{◌≡◌, ℕ, suc, ◌+◌, ◌-◌, ◌<◌, ◌⊎◌, Bool, true, false, List, [], ◌∷◌, ◌++◌, length, Option}
use Rattle.std.proofs.Common.{Some, None, Ok, Err, refl, sym, ap, subst, ◌∙◌, append_assoc, arith}
use Rattle.std.specs.Prelude.{IsTrue}
use Rattle.cs_model.specs.declared.change.Change.{Change}
use Rattle.cs_model.specs.PackedChanges.{change_bytes, changes_bytes}
use Rattle.cs_parse.specs.Front.{Front, front_at}
use Rattle.cs_parse.specs.Reading.{change_at, ends_section}
use Rattle.cs_parse.specs.declared.stop.ParseRefusal.{ParseRefusal}
use Rattle.cs_parse.proofs.feeding.FrontLaws.{front_over, front_stops, front_goes}

-- the changes that are whole, where so many turns are left
abbrev pub left_at : List ℕ → ℕ → List ℕ → Front Change
left_at flags fuel bytes = front_at ends_section (change_at flags) fuel bytes

-- How what is found at the front of `bytes` follows from what is found at the front of `rest`, behind so many changes.
pub record WholeToHere (count : ℕ) (canonical : Bool) (bytes rest : List ℕ) (all left : Front Change) : Type 0 where
  pub many : length all.items ≡ count + length left.items
  pub behind : all.rest ≡ left.rest
  pub reason : all.why ≡ left.why
  pub packs : IsTrue canonical → rest ≡ changes_bytes left.items ++ left.rest → bytes ≡ changes_bytes all.items
      ++ all.rest

-- what the loop answers
pub record Found (count : ℕ) (canonical : Bool) (bytes rest : List ℕ) (why : Option ParseRefusal) (all : Front Change) :
    Type 0 where
  pub many : count ≡ length all.items
  pub behind : rest ≡ all.rest
  pub packs : IsTrue canonical → bytes ≡ changes_bytes all.items ++ all.rest
  pub reason : why ≡ all.why

whole_ends : (count : ℕ) (canonical : Bool) (bytes rest : List ℕ) (why : Option ParseRefusal) (all left : Front Change)
    → left ≡ record { items = []; rest = rest; why = why } → WholeToHere count canonical bytes rest all left
    → Found count canonical bytes rest why all
whole_ends count canonical bytes rest why all left e s =
    by (subst (λ l. WholeToHere count canonical bytes rest all l) e s)
  where
    by : WholeToHere count canonical bytes rest all (record { items = []; rest = rest; why = why })
        → Found count canonical bytes rest why all
    by s = record {
      many = omega (arith, s.many);
      behind = sym s.behind;
      packs = λ is. s.packs is refl;
      reason = sym s.reason;
    }

pub whole_changes_end : (flags bytes rest : List ℕ) (count n i : ℕ) (canonical : Bool) (all : Front Change)
    → (ends_section rest ≡ true) ⊎ (n - i ≡ 0) → WholeToHere count canonical bytes rest all (left_at flags (n - i) rest)
    → Found count canonical bytes rest None all
whole_changes_end flags bytes rest count n i canonical all over s =
    whole_ends count canonical bytes rest None all (left_at flags (n - i) rest)
    (front_over ends_section (change_at flags) (n - i) rest over) s

pub whole_changes_stop : (flags bytes rest : List ℕ) (count n i : ℕ) (canonical : Bool) (why : ParseRefusal)
    (all : Front Change) → i < n → ends_section rest ≡ false → change_at flags rest ≡ Err why
    → WholeToHere count canonical bytes rest all (left_at flags (n - i) rest)
    → Found count canonical bytes rest (Some why) all
whole_changes_stop flags bytes rest count n i canonical why all lt more refused s =
    let k : n - i ≡ suc (n - (i + 1)) = omega (arith, lt) in
    whole_ends count canonical bytes rest (Some why) all (left_at flags (n - i) rest)
    (ap (λ m. left_at flags m rest) k ∙ front_stops ends_section (change_at flags) (n - (i + 1)) rest why more
    refused) s

pub whole_changes_go : (flags bytes rest after : List ℕ) (count n i : ℕ) (canonical both : Bool) (change : Change)
    (all : Front Change) → i < n → ends_section rest ≡ false → change_at flags rest ≡ Ok (change, after)
    → (IsTrue both → IsTrue canonical) → (IsTrue both → rest ≡ change_bytes change ++ after)
    → WholeToHere count canonical bytes rest all (left_at flags (n - i) rest)
    → WholeToHere (count + 1) both bytes after all (left_at flags (n - (i + 1)) after)
whole_changes_go flags bytes rest after count n i canonical both change all lt more read first own s =
    let k : n - i ≡ suc (n - (i + 1)) = omega (arith, lt) in
    let next = left_at flags (n - (i + 1)) after in
    by next (subst (λ l. WholeToHere count canonical bytes rest all l)
    (ap (λ m. left_at flags m rest) k ∙ front_goes ends_section (change_at flags) (n - (i + 1)) rest change after
    more read) s)
  where
    by : (next : Front Change)
        → WholeToHere count canonical bytes rest all
        (record { items = change ∷ next.items; rest = next.rest; why = next.why })
        → WholeToHere (count + 1) both bytes after all next
    by next s = record {
      many = omega (arith, s.many);
      behind = s.behind;
      reason = s.reason;
      packs = λ is others. s.packs (first is)
          (own is ∙ ap (λ w. change_bytes change ++ w) others
          ∙ sym (append_assoc (change_bytes change) (changes_bytes next.items) next.rest));
    }
