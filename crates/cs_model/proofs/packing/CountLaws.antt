-- Lists of changes one after another, and their number.
use Rattle.std.proofs.Common.{◌≡◌, ℕ, ◌+◌, ◌*◌, ◌≤◌, Bool, List, [], ◌∷◌, ◌++◌, length, refl, sym, ap, subst, ◌∙◌}
use Rattle.std.proofs.Common.{arith}
use Rattle.std.specs.List.{AllByRecursion}
use Rattle.std.proofs.lemmas.Grind.{flat_map-append}
use Rattle.std.proofs.lemmas.List.{append-nil, length-append}
use Rattle.cs_model.specs.declared.value.Field.{Field}
use Rattle.cs_model.specs.declared.change.Op.{Op}
use Rattle.cs_model.specs.declared.change.Change.{Change}
use Rattle.cs_model.specs.Packed.{Fits}
use Rattle.cs_model.specs.PackedChanges.{change_bytes, changes_bytes, Long, Fit, change_of, PacksAll, unpacked_changes}
use Rattle.cs_model.proofs.CallerLemmas.{all_append}
use Rattle.cs_model.proofs.packing.PackedChangeLaws.{made}

-- each change takes two bytes at least
pub two_bytes_each : (changes : List Change) → 2 * length changes ≤ length (changes_bytes changes)
two_bytes_each [] = omega arith
two_bytes_each (c ∷ cs) = omega (arith, two_bytes_each cs, length-append (change_bytes c) (changes_bytes cs))

-- so their number is no more than half of that of their bytes
pub no_more : (n count : ℕ) (bytes : List ℕ) → PacksAll n bytes (unpacked_changes n bytes) → count
    ≡ length (unpacked_changes n bytes) → 2 * count ≤ length bytes
no_more n count bytes packs counted = omega (arith, two_bytes_each (unpacked_changes n bytes), ap length packs.parts)

-- bytes of changes behind those of others, and the number of all
pub record Appended (n total : ℕ) (old new : List ℕ) (cs : List Change) : Type 0 where
  pub says : unpacked_changes n new ≡ unpacked_changes n old ++ cs
  pub packs : PacksAll n new (unpacked_changes n new)
  pub counted : total ≡ length (unpacked_changes n new)

pub appended : (n count more : ℕ) (old new : List ℕ) (cs : List Change) → AllByRecursion (Fit n) cs
    → PacksAll n old (unpacked_changes n old) → count ≡ length (unpacked_changes n old) → more ≡ length cs → new ≡ old
    ++ changes_bytes cs
    → Appended n (count + more) old new cs
appended n count more old new cs fit packs counted others added =
    let all = unpacked_changes n old ++ cs in
    let parts : new ≡ changes_bytes all =
    added ∙ (ap (λ (w : List ℕ). w ++ changes_bytes cs) packs.parts
    ∙ sym (flat_map-append change_bytes (unpacked_changes n old) cs)) in
    let m = made n new all parts (all_append (Fit n) (unpacked_changes n old) cs packs.fit fit) in
    record {
      says = m.0;
      packs = m.1;
      counted = omega (arith, ap length m.0, length-append (unpacked_changes n old) cs);
    }

-- ---- the same of lists as contracts see them

abbrev count_seen : ℕ → List ℕ → ℕ × List Change
count_seen n bytes = (n, unpacked_changes n bytes)

-- a list's bytes and their number
abbrev Holds : ℕ → ℕ → List ℕ → Type 0
Holds n count bytes = PacksAll n bytes (unpacked_changes n bytes) × (count ≡ length (unpacked_changes n bytes))

pub list_appended : (n count m more : ℕ) (old new bytes : List ℕ) (mine theirs : ℕ × List Change) → Holds n count old
    → count_seen n old ≡ mine → Holds m more bytes → count_seen m bytes ≡ theirs → theirs.0 ≡ mine.0 → new ≡ old
    ++ bytes
    → Appended n (count + more) old new theirs.1
list_appended n count m more old new bytes mine theirs h is g are columns added =
    let same = columns ∙ sym (ap (λ (v : ℕ × List Change). v.0) is) in
    let fit = subst (λ (k : ℕ). AllByRecursion (Fit k) theirs.1) same
    (subst (λ (v : ℕ × List Change). AllByRecursion (Fit v.0) v.1) are g.0.fit) in
    let counted = g.1 ∙ ap (λ (v : ℕ × List Change). length v.1) are in
    let parts = g.0.parts ∙ ap (λ (v : ℕ × List Change). changes_bytes v.1) are in
    appended n count more old new theirs.1 fit h.0 h.1 counted (added ∙ ap (λ (w : List ℕ). old ++ w) parts)

pub list_extended : (n count more : ℕ) (old new : List ℕ) (mine : ℕ × List Change) (cs : ℕ → List Change)
    → Holds n count old → count_seen n old ≡ mine → AllByRecursion (Fit mine.0) (cs mine.0) → more ≡ length (cs n) → new
    ≡ old ++ changes_bytes (cs n)
    → Appended n (count + more) old new (cs mine.0)
list_extended n count more old new mine cs h is fit counted added =
    let same = ap (λ (v : ℕ × List Change). v.0) is in
    let own = subst (λ (k : ℕ). AllByRecursion (Fit k) (cs k)) (sym same) fit in
    subst (λ (k : ℕ). Appended n (count + more) old new (cs k)) same
    (appended n count more old new (cs n) own h.0 h.1 counted added)

pub list_pushed : (n count : ℕ) (old new : List ℕ) (mine : ℕ × List Change) (op : Op) (indirect : Bool)
    (before after : List Field) → Holds n count old → count_seen n old ≡ mine → Long mine.0 op before after
    → AllByRecursion Fits before → AllByRecursion Fits after
    → new ≡ old ++ change_bytes (change_of op indirect before after)
    → Appended n (count + 1) old new (change_of op indirect before after ∷ [])
list_pushed n count old new mine op indirect before after h is long p q added =
    let fit : Fit n (change_of op indirect before after) =
    record { long = subst (λ (v : ℕ × List Change). Long v.0 op before after) (sym is) long; before = p; after = q }
    in
    appended n count 1 old new (change_of op indirect before after ∷ []) (fit, tt) h.0 h.1 refl
    (added ∙ ap (λ (w : List ℕ). old ++ w) (sym (append-nil (change_bytes (change_of op indirect before after)))))
