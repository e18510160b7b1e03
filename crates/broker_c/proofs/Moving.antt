-- A box's parts that go into an owner without the box's type, and come out of it again.
use base.Fml.{Fml}
use base.Logic.{ent, sep, snd∗}
use contract.Running.{Running}
use denote.Exit.{Last}
use denote.Param.Laws.{Laws}
use denote.Struct.Struct.{Struct}
use denote.Triple.Clauses.{closing}
use denote.Triple.Spec.{Meets}
use denote.Triple.Walked.{Silent}
use mir.Syntax.{Callee, Sym}
use prog.Model.{Model}
use prog.Wp.{Closed}
use seplogic.Ra.Ura.{Ura}
use types.Logic.{Logic}
use Rattle.std_alloc.proofs.BoxSteps.Form.{owning}
use Rattle.broker_c.proofs.Steps.{◌≡◌, refl, sym, subst, List, Val, Bool, true, Bx, B, D, RattleType, emp, fact, fsep}
use Rattle.broker_c.proofs.Steps.{plain, sem, shape, tables, to, yes}
use Rattle.broker_c.proofs.Boxes.{box_of, parts_name, parts_row}
use Rattle.broker_c.proofs.Passing.{asks_gives, moving, one_to_one, passes_on, when_full}
use Rattle.broker_c.specs.Boxed.{owns_if}

module _ (row : RattleType) (laws : Laws row) where
  abbrev E : Bx
  E = box_of row laws

  abbrev Parts : RattleType
  Parts = parts_row row

  abbrev boxed : Parts.Denot → D E
  boxed p = record { ptr = p.pointer; alloc = p.alloc; value = p.value }

  -- the fields of the parts
  abbrev fields_own : Parts.Denot → List Val → Fml
  fields_own p vs = (Struct (shape (owning E))).own_val (to (owning E) (boxed p)) vs

  -- what the parts own if they are full, and if not
  abbrev parts_own : Parts.Denot → Bool → List Val → Fml
  parts_own p full vs = fsep (fields_own p vs) (owns_if row full p.alloc p.pointer p.value)

  module _ (Owner : RattleType) (name : Sym) {M : Type 1} (𝓤 : Ura M) (𝓛 : Logic 𝓤) (𝓜 : Model 𝓤 𝓛.H)
      (𝓡 : Running 𝓤 𝓛.H 𝓜) (k : Callee) where
    -- the parts go into an owner
    pub moves_into : (made : Parts.Denot → Owner.Denot) (gives : Parts.Denot → Owner.Denot → Type 0)
        → Closed 𝓤 𝓛.H (tables 𝓤 𝓛.H 𝓜 𝓡 𝓡.env).C (tables 𝓤 𝓛.H 𝓜 𝓡 𝓡.env).Λ k (moving E name (parts_name row))
        → ((p : Parts.Denot) (vs : List Val) → Parts.own_val p vs ≡ (B E).own_val (boxed p) vs)
        → ((p : Parts.Denot) (vs : List Val) → (B E).own_val (boxed p) vs ≡ Owner.own_val (made p) vs)
        → ((p : Parts.Denot) → gives p (made p))
        → Meets 𝓛 (one_to_one Parts Owner).signature ((tables 𝓤 𝓛.H 𝓜 𝓡 𝓡.env).C k)
        (closing 𝓛 (one_to_one Parts Owner) (asks_gives Parts Owner (λ p. emp 𝓤) gives))
    moves_into made gives closed same own so =
        passes_on E Parts Owner boxed made name (parts_name row) 𝓤 𝓛 𝓜 𝓡 k closed (λ κs x f. refl) (λ p. tt)
        (λ p. emp 𝓤) gives
        (λ p vs. subst (λ (F : Fml). ent 𝓤 (sep 𝓤 (emp 𝓤) (sem 𝓛 (Parts.own_val p vs))) (sem 𝓛 F)) (same p vs)
        (snd∗ 𝓤 (emp 𝓤) (sem 𝓛 (Parts.own_val p vs)))) own so

    -- the parts come out of a full owner
    pub moves_out : (made : Owner.Denot → Parts.Denot) (full : Owner.Denot → Bool)
        → Closed 𝓤 𝓛.H (tables 𝓤 𝓛.H 𝓜 𝓡 𝓡.env).C (tables 𝓤 𝓛.H 𝓜 𝓡 𝓡.env).Λ k (moving E (parts_name row) name)
        → Silent 𝓛 0 (plain (λ _. Owner)) yes → ((s : Owner.Denot) → Last (Owner.exit yes) s)
        → ((s : Owner.Denot) (vs : List Val) → Owner.own_val s vs ≡ parts_own (made s) (full s) vs)
        → ((p : Parts.Denot) (vs : List Val) → parts_own p true vs ≡ (B E).own_val (boxed p) vs)
        → ((p : Parts.Denot) (vs : List Val) → (B E).own_val (boxed p) vs ≡ Parts.own_val p vs)
        → Meets 𝓛 (one_to_one Owner Parts).signature ((tables 𝓤 𝓛.H 𝓜 𝓡 𝓡.env).C k)
        (closing 𝓛 (one_to_one Owner Parts)
        (asks_gives Owner Parts (λ s. fact 𝓤 (full s ≡ true)) (λ s r. r.value ≡ (made s).value)))
    moves_out made full closed silent last own whole same =
        passes_on E Owner Parts (λ s. boxed (made s)) made (parts_name row) name 𝓤 𝓛 𝓜 𝓡 k closed silent last
        (λ s. fact 𝓤 (full s ≡ true)) (λ s r. r.value ≡ (made s).value)
        (λ s vs. subst (λ (F : Fml). ent 𝓤 (sep 𝓤 (fact 𝓤 (full s ≡ true)) (sem 𝓛 (Owner.own_val s vs))) (sem 𝓛 F))
        (whole (made s) vs)
        (subst (λ (F : Fml). ent 𝓤 (sep 𝓤 (fact 𝓤 (full s ≡ true)) (sem 𝓛 F)) (sem 𝓛 (parts_own (made s) true vs)))
        (sym (own s vs)) (when_full 𝓛 (fields_own (made s) vs)
        (λ b. owns_if row b (made s).alloc (made s).pointer (made s).value) (full s))))
        (λ s vs. same (made s) vs) (λ s. refl)
