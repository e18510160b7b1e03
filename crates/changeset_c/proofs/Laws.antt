-- The exports' results allow no other result, because a text either spells one changeset or has one fault.
use Rattle.std.proofs.Common.{◌≡◌, ℕ, suc, zero, ◌⊎◌, inl, inr, ℤ, pos, negsuc, List, length, refl, sym, ap, ◌∙◌}
use Rattle.std.proofs.Common.{Fits, w8, w64, to_z, of_z, get_or, subst, arith}
use Rattle.cs_model.specs.Bytes.{AreBytes}
use Rattle.cs_model.specs.Section.{Section}
use Rattle.cs_model.specs.Text.{Spells}
use Rattle.cs_parse.specs.declared.fault.ParseFault.{ParseFault}
use Rattle.cs_parse.specs.Answer.{HasChangeset, HasFault}
use Rattle.cs_parse.specs.Fault.{IsFault}
use Rattle.cs_parse.specs.Count.{changes_in}
use Rattle.cs_parse.specs.FaultNumber.{kind_number}
use Rattle.changeset_c.specs.Says.{CheckSays, WriteSays, IsNumber, IsFaultAt}

abbrev pub EitherOf : List ℕ → Type 0
EitherOf text = HasChangeset text ⊎ HasFault text

one_changeset : (text : List ℕ) → EitherOf text → (one other : List Section) → Spells text one → Spells text other → one
    ≡ other
one_changeset text (inl has) one other s t = has.only one s ∙ sym (has.only other t)
one_changeset text (inr has) one other s t = absurd (has.spells_none one s)

one_fault : (text : List ℕ) → EitherOf text → (one other : ParseFault) → IsFault text one → IsFault text other → one
    ≡ other
one_fault text (inl has) one other s t = absurd (has.no_fault one s)
one_fault text (inr has) one other s t = has.only one s ∙ sym (has.only other t)

not_both : (text : List ℕ) → EitherOf text → (sections : List Section) (fault : ParseFault) → Spells text sections
    → IsFault text fault → ⊥
not_both text (inl has) sections fault s t = has.no_fault fault t
not_both text (inr has) sections fault s t = has.spells_none sections s

pub check_only : (answer : ℤ) (at kind : ℕ) (text : List ℕ) → EitherOf text → CheckSays answer at kind text
    → (changeset : List Section) → Spells text changeset → answer ≡ pos (changes_in changeset)
check_only (pos n) at kind text either says changeset s =
    ap pos (says.is_count ∙ ap changes_in (one_changeset text either says.changeset changeset says.spelled s))
check_only (negsuc zero) at kind text either says changeset s =
    absurd (not_both text either changeset says.fault s says.is_fault)
check_only (negsuc (suc n)) at kind text either says changeset s = absurd says

pub check_fault : (answer : ℤ) (at kind : ℕ) (text : List ℕ) → EitherOf text → CheckSays answer at kind text
    → (fault : ParseFault) → IsFault text fault → IsFaultAt answer at kind fault
check_fault (pos n) at kind text either says fault t = absurd (not_both text either says.changeset fault says.spelled t)
check_fault (negsuc zero) at kind text either says fault t =
    let same = one_fault text either says.fault fault says.is_fault t in
    (refl, says.is_place ∙ ap (λ f. f.at) same, says.is_kind ∙ ap (λ f. kind_number f.kind) same)
check_fault (negsuc (suc n)) at kind text either says fault t = absurd says

write_only : (made : List Section → List ℕ) (answer : ℤ) (before after text : List ℕ) → EitherOf text
    → WriteSays made answer before after text → (changeset : List Section) → Spells text changeset
    → IsNumber answer (length (made changeset))
write_only made (pos n) before after text either says changeset s =
    says.is_length ∙ ap (λ c. length (made c)) (one_changeset text either says.changeset changeset says.spelled s)
write_only made (negsuc zero) before after text either says changeset s =
    not_both text either changeset says.fault s says.is_fault
write_only made (negsuc (suc zero)) before after text either says changeset s = refl
write_only made (negsuc (suc (suc n))) before after text either says changeset s = absurd says

write_fault : (made : List Section → List ℕ) (answer : ℤ) (before after text : List ℕ) → EitherOf text
    → WriteSays made answer before after text → (fault : ParseFault) → IsFault text fault → answer ≡ negsuc 0
write_fault made (pos n) before after text either says fault t =
    absurd (not_both text either says.changeset fault says.spelled t)
write_fault made (negsuc zero) before after text either says fault t = refl
write_fault made (negsuc (suc zero)) before after text either says fault t =
    absurd (not_both text either says.0.0 fault says.0.1 t)
write_fault made (negsuc (suc (suc n))) before after text either says fault t = absurd says

-- the same of a result that C gets as an `i64`
pub written_for_c : (made : List Section → List ℕ) (answer : ℤ) (before after text : List ℕ)
    → to_z w64 (of_z w64 answer) ≡ answer → ((text : List ℕ) → AreBytes text → EitherOf text)
    → ((i : ℕ) → Fits w8 (get_or text i 0)) → WriteSays made answer before after text
    → WriteSays made (to_z w64 (of_z w64 answer)) before after text
    × ((changeset : List Section) → Spells text changeset
    → IsNumber (to_z w64 (of_z w64 answer)) (length (made changeset)))
    × ((fault : ParseFault) → IsFault text fault → to_z w64 (of_z w64 answer) ≡ negsuc 0)
written_for_c made answer before after text same either bytes says =
    let one = either text (λ i. omega (arith, bytes i)) in (
      subst (λ n. WriteSays made n before after text) (sym same) says,
      λ changeset s. subst (λ n. IsNumber n (length (made changeset))) (sym same)
          (write_only made answer before after text one says changeset s),
      λ fault t. same ∙ write_fault made answer before after text one says fault t,
    )
