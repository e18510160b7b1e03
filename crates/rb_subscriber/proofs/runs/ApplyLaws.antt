-- Entries one after another: the first that isn't admitted, and the sections of all bodies.
use Rattle.std.specs.List.{AllByRecursion}
use Rattle.std.proofs.Common.{◌≡◌, ℕ, zero, suc, arith, ◌+◌, ◌<◌, ◌≤◌, true, false, List, [], ◌∷◌, ◌++◌, length, take, drop, take_all}
use Rattle.std.proofs.Common.{Option, Some, None, Result, Ok, Err, sym, ap, subst, ◌∙◌}
use Rattle.std.specs.Prelude.{OnOk, IfErr, is_err, slice_index_or}
use Rattle.std.proofs.lemmas.List.{drop_more, drop_all, take_more}
use Rattle.cs_model.proofs.CallerLemmas.{all_push}
use Rattle.cs_model.specs.Changeset.{IsChangeset}
use Rattle.cs_model.specs.declared.schema.SectionFault.{SectionFault}
use Rattle.cs_model.specs.declared.shape.Shape.{Shape}
use Rattle.cs_model.specs.Schema.{refusal_of}
use Rattle.rb_sequence.specs.Entry.{Entry}
use Rattle.rb_subscriber.specs.Accept.{if_admitted, first_outside_entry, AreChangesets, IsAdmitted}

-- the entry at a place stands in front of those behind it
pub at_front : (entries : List Entry) (i : ℕ) (entry : Entry) → i < length entries → entry
    ≡ slice_index_or entries i entry → drop i entries ≡ entry ∷ drop (i + 1) entries
at_front entries i entry less is = drop_more entries i entry less
    ∙ ap (λ (e : Entry). e ∷ drop (i + 1) entries) (sym is)

-- ---- the first that isn't admitted

abbrev ApplyAnswer : Type 0
ApplyAnswer = Result (Unit {0}) SectionFault

told_fault : (r : ApplyAnswer) (told : Option SectionFault) → IfErr r (λ fault. told ≡ Some fault) → is_err r ≡ true
    → (fault : SectionFault) × (told ≡ Some fault)
told_fault (Ok done) told refused e = absurd cc
told_fault (Err fault) told refused e = (fault, refused)

told_none : (r : ApplyAnswer) (told : Option SectionFault) → OnOk r (told ≡ None) → is_err r ≡ false → told ≡ None
told_none (Ok done) told ok e = ok
told_none (Err fault) told ok e = absurd cc

pub found_outside : (schema : List Shape) (entries : List Entry) (i : ℕ) (entry : Entry) (r : ApplyAnswer)
    → drop i entries ≡ entry ∷ drop (i + 1) entries → IfErr r (λ fault. refusal_of schema entry.item.body ≡ Some fault)
    → is_err r ≡ true
    → first_outside_entry schema entries ≡ first_outside_entry schema (drop i entries) → Some entry
    ≡ first_outside_entry schema entries
found_outside schema entries i entry r front refused e so_far =
    let t = told_fault r (refusal_of schema entry.item.body) refused e in
    sym (so_far ∙ ap (first_outside_entry schema) front
    ∙ ap (λ fault. if_admitted fault entry (first_outside_entry schema (drop (i + 1) entries))) t.1)

pub goes_past : (schema : List Shape) (entries : List Entry) (i : ℕ) (entry : Entry) (r : ApplyAnswer) → drop i entries
    ≡ entry ∷ drop (i + 1) entries → OnOk r (refusal_of schema entry.item.body ≡ None) → is_err r ≡ false
    → first_outside_entry schema entries ≡ first_outside_entry schema (drop i entries)
    → first_outside_entry schema entries ≡ first_outside_entry schema (drop (i + 1) entries)
goes_past schema entries i entry r front ok e so_far =
    so_far ∙ ap (first_outside_entry schema) front
    ∙ ap (λ fault. if_admitted fault entry (first_outside_entry schema (drop (i + 1) entries)))
    (told_none r (refusal_of schema entry.item.body) ok e)

pub none_found : (schema : List Shape) (entries : List Entry) (i : ℕ) → length entries ≤ i
    → first_outside_entry schema entries ≡ first_outside_entry schema (drop i entries) → None
    ≡ first_outside_entry schema entries
none_found schema entries i all so_far = sym (so_far ∙ ap (first_outside_entry schema) (drop_all i entries all))

-- what all of these are, each of them is
pub admitted_at : (schema : List Shape) (entries : List Entry) (i : ℕ) (entry : Entry) → i < length entries → entry
    ≡ slice_index_or entries i entry → AllByRecursion (IsAdmitted schema) entries → refusal_of schema entry.item.body
    ≡ None
admitted_at schema [] i entry less is all = absurd (omega (arith, less))
admitted_at schema (first ∷ entries) zero entry less is all = ap (λ (e : Entry). refusal_of schema e.item.body) is ∙ all.0
admitted_at schema (first ∷ entries) (suc i) entry less is all =
    admitted_at schema entries i entry (omega (arith, less)) is all.1

-- ---- changesets

-- the entries so far and the next one
pub valid_more : (entries : List Entry) (i : ℕ) (entry : Entry) → i < length entries → entry
    ≡ slice_index_or entries i entry → AreChangesets (take i entries) → IsChangeset entry.item.body
    → AreChangesets (take (i + 1) entries)
valid_more entries i entry less is so_far valid =
    subst AreChangesets (ap (λ (e : Entry). take i entries ++ e ∷ []) is ∙ sym (take_more entries i entry less))
    (all_push (λ (e : Entry). IsChangeset e.item.body) (take i entries) entry so_far valid)

pub bodies_valid : (entries : List Entry) (i : ℕ) → length entries ≤ i → AreChangesets (take i entries)
    → AreChangesets entries
bodies_valid entries i all so_far = subst AreChangesets (take_all i entries all) so_far
