-- Rows given to keys one by one, from the last change to the first.
use Rattle.std.proofs.Common.{◌≡◌, ◌∙◌, ℕ, zero, suc, Bool, true, false, cond, not, ◌||◌, ◌&&◌}
use Rattle.std.proofs.Common.{List, [], ◌∷◌, ◌++◌, Option, Some, None, is_some, slice_get, refl, ap, sym, subst}
use Rattle.std.proofs.lemmas.Map.Keys.{IsDistinct-head, IsDistinct-tail, IsDistinct-cons}
use Rattle.std.specs.FinMap as map
use Rattle.std.specs.FinSet as set
use Rattle.std.specs.List.{AllByRecursion, IsDistinct}
use Rattle.std.specs.Map.{keys_of}
use Rattle.cs_model.specs.declared.row_key.RowKey.{RowKey}
use Rattle.cs_model.specs.declared.value.Value.{Value}
use Rattle.cs_apply.specs.Held.{CanHoldRow, HeldState, KeyHasPlace, KeySet, with_row}
use Rattle.cs_apply.specs.State.{TableState}
use Rattle.cs_apply.specs.Steps.{put}
use Rattle.cs_apply.proofs.stored.Filled.{get_put}
use Rattle.cs_apply.proofs.rows_by_key.Keys.{same_key, exact_keys, keys_total, tied}
use Rattle.par_apply.specs.RowChanges.{RowChanges, overlaid}
use Rattle.par_apply.specs.Staged.{CanHoldAll, changed_places, without_change, without_places}

abbrev Change : Type 0
Change = RowKey × Option (List Value)

last_changed : (t : HeldState) (cs : RowChanges) (c : Change)
    → changed_places t (cs ++ c ∷ []) ≡ changed_places (with_row t c.0 c.1) cs
last_changed t [] c = refl
last_changed t (x ∷ cs) c = ap (λ (u : HeldState). with_row u x.0 x.1) (last_changed t cs c)

-- what the changes make of the rows
pub changed_state : (t : HeldState) (cs : RowChanges)
    → ◌≡◌ {A = TableState} (changed_places t cs).state (record t.state { rows = overlaid t.state.rows cs })
changed_state t [] = refl
changed_state t (c ∷ cs) =
    ap (λ (s : TableState). record s { rows = put s.rows c.0 c.1 }) (changed_state t cs)

-- ---- one change after another

hold_parts : (t : HeldState) (cs : RowChanges) (c : Change) → CanHoldAll t (cs ++ c ∷ [])
    → CanHoldAll t cs × CanHoldRow t c
hold_parts t [] c h = (tt, h.0)
hold_parts t (x ∷ cs) c h = let rest = hold_parts t cs c h.1 in ((h.0, rest.0), rest.1)

apart_parts : (key : RowKey) (cs : RowChanges) (c : Change)
    → AllByRecursion (λ q. same_key key q ≡ false) (keys_of (cs ++ c ∷ []))
    → AllByRecursion (λ q. same_key key q ≡ false) (keys_of cs) × (same_key key c.0 ≡ false)
apart_parts key [] c h = (tt, h.0)
apart_parts key (x ∷ cs) c h = let rest = apart_parts key cs c h.1 in ((h.0, rest.0), rest.1)

-- the keys before the last one differ, and each differs from the last one
distinct_parts : (cs : RowChanges) (c : Change) → IsDistinct same_key (keys_of (cs ++ c ∷ []))
    → IsDistinct same_key (keys_of cs) × AllByRecursion (λ q. same_key q c.0 ≡ false) (keys_of cs)
distinct_parts [] c d = (IsDistinct-tail same_key c.0 [] d, tt)
distinct_parts (x ∷ cs) c d =
    let apart = apart_parts x.0 cs c (IsDistinct-head same_key x.0 (keys_of (cs ++ c ∷ [])) d) in
    let rest = distinct_parts cs c (IsDistinct-tail same_key x.0 (keys_of (cs ++ c ∷ [])) d) in
    (IsDistinct-cons same_key x.0 (keys_of cs) apart.0 rest.0, (apart.1, rest.1))

rows_at_other : (t : HeldState) (key q : RowKey) (row : Option (List Value)) → same_key q key ≡ false
    → map.get (put t.state.rows key row) q ≡ map.get t.state.rows q
rows_at_other t key q row other = get_put t.state.rows key q row
    ∙ ap (λ b. cond b row (map.get t.state.rows q)) other

held_at : (held : KeySet) (key q : RowKey)
    → set.contains (set.remove held key) q ≡ (not (same_key q key) && set.contains held q)
held_at held key q = set.contains-remove keys_total held key q ∙ (λ i. not (tied q key i) && set.contains held q)

held_at_other : (held : KeySet) (key q : RowKey) → same_key q key ≡ false
    → set.contains (set.remove held key) q ≡ set.contains held q
held_at_other held key q other = held_at held key q ∙ ap (λ b. not b && set.contains held q) other

-- another key keeps its place
other_stays : (t : HeldState) (key q : RowKey) (row : Option (List Value)) → same_key q key ≡ false
    → KeyHasPlace t q → KeyHasPlace (with_row t key row) q
other_stays t key q row other there =
    (λ i. is_some (rows_at_other t key q row other i) || held_at_other t.held key q other i) ∙ there

hold_one_on : (t : HeldState) (key : RowKey) (row : Option (List Value)) (c : Change) → same_key c.0 key ≡ false
    → CanHoldRow t c → CanHoldRow (with_row t key row) c
hold_one_on t key row (q, None) other h = tt
hold_one_on t key row (q, Some own) other h = (other_stays t key q row other h.0, h.1)

hold_on : (t : HeldState) (key : RowKey) (row : Option (List Value)) (cs : RowChanges)
    → AllByRecursion (λ q. same_key q key ≡ false) (keys_of cs) → CanHoldAll t cs
    → CanHoldAll (with_row t key row) cs
hold_on t key row [] others h = tt
hold_on t key row (c ∷ cs) others h =
    (hold_one_on t key row c others.0 h.0, hold_on t key row cs others.1 h.1)

-- The changes that are left, over the tables so far, make what all make. Each can still be made,
-- and no two are of one key.
pub record CommitsSo (old now : HeldState) (all rest : RowChanges) : Type 0 where
  pub made : changed_places now rest ≡ changed_places old all
  pub ready : CanHoldAll now rest
  pub distinct : IsDistinct same_key (keys_of rest)

pub commit_step : (old now next : HeldState) (all rest left : RowChanges) (key : RowKey) (row : Option (List Value))
    → CommitsSo old now all rest → rest ≡ left ++ (key, row) ∷ [] → next ≡ with_row now key row
    → CommitsSo old next all left
commit_step old now next all rest left key row g is after =
    let ready = hold_parts now left (key, row) (subst (λ cs. CanHoldAll now cs) is g.ready) in
    let apart = distinct_parts left (key, row)
    (subst (λ (cs : RowChanges). IsDistinct same_key (keys_of cs)) is g.distinct) in
    subst (λ (t : HeldState). CommitsSo old t all left) (sym after) (record {
      made = sym (ap (changed_places now) is ∙ last_changed now left (key, row)) ∙ g.made;
      ready = hold_on now key row left apart.1 ready.0;
      distinct = apart.0;
    })

pub can_hold_last : (old now : HeldState) (all rest left : RowChanges) (key : RowKey) (row : Option (List Value))
    → CommitsSo old now all rest → rest ≡ left ++ (key, row) ∷ [] → CanHoldRow now (key, row)
can_hold_last old now all rest left key row g is =
    (hold_parts now left (key, row) (subst (λ cs. CanHoldAll now cs) is g.ready)).1

-- ---- places that staging made are gone after the changes

-- but for this key, the tables are the same
record SameBut (key : RowKey) (t u : HeldState) : Type 0 where
  schema : t.state.schema ≡ u.state.schema
  kept : t.state.kept ≡ u.state.kept
  rows : (q : RowKey) → same_key q key ≡ false → map.get t.state.rows q ≡ map.get u.state.rows q
  held : (q : RowKey) → same_key q key ≡ false → set.contains t.held q ≡ set.contains u.held q

same_but_taken : (key : RowKey) (t : HeldState) → SameBut key (with_row t key None) t
same_but_taken key t = record {
  schema = refl;
  kept = refl;
  rows = λ q other. rows_at_other t key q None other;
  held = λ q other. held_at_other t.held key q other;
}

same_but_after : (key : RowKey) (t u : HeldState) (k : RowKey) (row : Option (List Value)) → SameBut key t u
    → SameBut key (with_row t k row) (with_row u k row)
same_but_after key t u k row s = record {
  schema = s.schema;
  kept = s.kept;
  rows = λ q other. get_put t.state.rows k q row ∙ ap (cond (same_key q k) row) (s.rows q other)
      ∙ sym (get_put u.state.rows k q row);
  held = λ q other. held_at t.held k q ∙ ap (λ b. not (same_key q k) && b) (s.held q other)
      ∙ sym (held_at u.held k q);
}

same_but_changed : (key : RowKey) (t u : HeldState) (cs : RowChanges) → SameBut key t u
    → SameBut key (changed_places t cs) (changed_places u cs)
same_but_changed key t u [] s = s
same_but_changed key t u (c ∷ cs) s =
    same_but_after key (changed_places t cs) (changed_places u cs) c.0 c.1 (same_but_changed key t u cs s)

-- with one row at this key they are the same
same_after : (key : RowKey) (t u : HeldState) (row : Option (List Value)) → SameBut key t u
    → with_row t key row ≡ with_row u key row
same_after key t u row s =
    let rows = map.same_map keys_total exact_keys (put t.state.rows key row) (put u.state.rows key row)
    (λ q. get_put t.state.rows key q row ∙ by_rows q (same_key q key) refl ∙ sym (get_put u.state.rows key q row)) in
    let held = set.same_set keys_total exact_keys (set.remove t.held key) (set.remove u.held key)
    (λ q. held_at t.held key q ∙ by_held q (same_key q key) refl ∙ sym (held_at u.held key q)) in
    λ i. record {
      state = record { schema = s.schema i; kept = s.kept i; rows = rows i };
      held = held i;
    }
  where
    by_rows : (q : RowKey) (b : Bool) → same_key q key ≡ b
        → cond b row (map.get t.state.rows q) ≡ cond b row (map.get u.state.rows q)
    by_rows q true e = refl
    by_rows q false e = s.rows q e

    by_held : (q : RowKey) (b : Bool) → same_key q key ≡ b
        → (not b && set.contains t.held q) ≡ (not b && set.contains u.held q)
    by_held q true e = refl
    by_held q false e = s.held q e

-- tables that differ at the key of a change alone are the same after the changes
same_in_the_end : (key : RowKey) (t u : HeldState) (cs : RowChanges) (i : ℕ) (row : Option (List Value))
    → slice_get cs i ≡ Some (key, row) → SameBut key t u → changed_places t cs ≡ changed_places u cs
same_in_the_end key t u [] i row at s = absurd cc
same_in_the_end key t u (c ∷ cs) zero row at s =
    let is : c ≡ (key, row) = cc in
    subst (λ (d : Change). with_row (changed_places t cs) d.0 d.1 ≡ with_row (changed_places u cs) d.0 d.1) (sym is)
    (same_after key (changed_places t cs) (changed_places u cs) row (same_but_changed key t u cs s))
same_in_the_end key t u (c ∷ cs) (suc i) row at s =
    ap (λ (v : HeldState). with_row v c.0 c.1) (same_in_the_end key t u cs i row at s)

taken_out : (t : HeldState) (cs : RowChanges) (i : ℕ) (found : Option Change) → slice_get cs i ≡ found
    → changed_places (without_change t found) cs ≡ changed_places t cs
taken_out t cs i None at = refl
taken_out t cs i (Some (key, row)) at =
    same_in_the_end key (with_row t key None) t cs i row at (same_but_taken key t)

pub changed_without : (t : HeldState) (cs : RowChanges) (made : List ℕ)
    → changed_places (without_places t cs made) cs ≡ changed_places t cs
changed_without t cs [] = refl
changed_without t cs (i ∷ made) = taken_out (without_places t cs made) cs i (slice_get cs i) refl
    ∙ changed_without t cs made
