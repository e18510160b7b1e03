-- The lists of all shards, one position after another.
use Rattle.std.proofs.Common.{◌≡◌, ◌∙◌, ℕ, zero, suc, ◌<◌, ◌==◌, Bool, true, false, cond, List, [], ◌∷◌, ◌++◌}
use Rattle.std.proofs.Common.{length, get_or, set, map, refl, sym, ap, arith}
use Rattle.std.proofs.Math.Dec.{eqb-suc-suc, eqb-suc-zero, eqb-zero-suc}
use Rattle.std.proofs.lemmas.List.{append-nil}
use Rattle.std.specs.List.{filter}
use Rattle.cs_model.specs.declared.change.Change.{Change}
use Rattle.cs_model.specs.declared.row_key.RowKey.{RowKey}
use Rattle.cs_model.specs.declared.shape.Shape.{Shape}
use Rattle.cs_model.specs.Key.{key_of}
use Rattle.par_apply.specs.declared.positions.KeyedChange.{KeyedChange}
use Rattle.par_apply.specs.KeyedChanges.{key_read, positions_by_key}
use Rattle.par_apply.specs.Shards.{section_positions}
use Rattle.par_apply.proofs.workers.PositionLaws.{position_next}

-- a list that gets a position at its end, among the others
pub noted_at : {V : Type 0} (items : V → List ℕ) (xs : List V) (k p : ℕ) (old new : V) → old ≡ get_or xs k old
    → items new ≡ items old ++ p ∷ [] → (i : ℕ) (d : List ℕ) → i < length xs
    → get_or (map items (set xs k new)) i d ≡ get_or (map items xs) i d ++ cond (k == i) (p ∷ []) []
noted_at items [] k p old new is more i d lt = absurd (omega arith)
noted_at items (x ∷ xs) zero p old new is more zero d lt = more ∙ ap (λ v. items v ++ p ∷ []) is
noted_at items (x ∷ xs) zero p old new is more (suc i) d lt =
    sym (append-nil (get_or (map items xs) i d))
    ∙ ap (λ b. get_or (map items xs) i d ++ cond b (p ∷ []) []) (sym (eqb-zero-suc i))
noted_at items (x ∷ xs) (suc k) p old new is more zero d lt =
    sym (append-nil (items x)) ∙ ap (λ b. items x ++ cond b (p ∷ []) []) (sym (eqb-suc-zero k))
noted_at items (x ∷ xs) (suc k) p old new is more (suc i) d lt =
    noted_at items xs k p old new is more i d (omega arith)
    ∙ ap (λ b. get_or (map items xs) i d ++ cond b (p ∷ []) []) (sym (eqb-suc-suc k i))

-- one change more at the end
pub positions_more : (takes : RowKey → Bool) (changes : List KeyedChange) (change : KeyedChange)
    → positions_by_key takes (changes ++ change ∷ [])
    ≡ positions_by_key takes changes ++ cond (takes (key_read change)) (change.position ∷ []) []
positions_more takes [] change = by (takes (key_read change))
  where
    by : (b : Bool) → map (λ (c : KeyedChange). c.position) (cond b (change ∷ []) [])
        ≡ cond b (change.position ∷ []) []
    by true = refl
    by false = refl
positions_more takes (x ∷ xs) change = by (takes (key_read x)) (positions_more takes xs change)
  where
    more : List ℕ
    more = cond (takes (key_read change)) (change.position ∷ []) []

    taken : List KeyedChange → List KeyedChange
    taken changes = filter (λ c. takes (key_read c)) changes

    by : (b : Bool) → positions_by_key takes (xs ++ change ∷ []) ≡ positions_by_key takes xs ++ more
        → map (λ (c : KeyedChange). c.position) (cond b (x ∷ taken (xs ++ change ∷ [])) (taken (xs ++ change ∷ [])))
        ≡ map (λ (c : KeyedChange). c.position) (cond b (x ∷ taken xs) (taken xs)) ++ more
    by true h = ap (λ l. x.position ∷ l) h
    by false h = h

-- a change of a section more: what is listed, and the positions of the changes that are left, make all
pub keyed_next : (table : ℕ) (shape : Shape) (change : Change) (rest changes : List Change) (at next : ℕ)
    (list longer : List KeyedChange) (keyed : KeyedChange) → changes ≡ change ∷ rest → next ≡ suc at
    → keyed.position ≡ at → key_read keyed ≡ key_of table shape.flags change → longer ≡ list ++ keyed ∷ []
    → (takes : RowKey → Bool) (all : List ℕ)
    → positions_by_key takes list ++ section_positions table shape takes changes at ≡ all
    → positions_by_key takes longer ++ section_positions table shape takes rest next ≡ all
keyed_next table shape change rest changes at next list longer keyed is after here key more takes all so_far =
    position_next table shape takes change rest changes at next (positions_by_key takes list)
    (positions_by_key takes longer) all (takes (key_read keyed)) is after (ap takes key)
    (ap (positions_by_key takes) more ∙ positions_more takes list keyed
    ∙ ap (λ p. positions_by_key takes list ++ cond (takes (key_read keyed)) (p ∷ []) []) here) so_far
