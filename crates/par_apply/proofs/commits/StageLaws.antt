-- Places that staging makes and takes away.
use Rattle.std.proofs.Common.{◌≡◌, ◌∙◌, ℕ, zero, suc, Bool, true, false, cond, not, ◌||◌, ◌&&◌}
use Rattle.std.proofs.Common.{List, [], ◌∷◌, ◌++◌, Option, Some, None}
use Rattle.std.proofs.Common.{is_some, slice_get, take, refl, ap, sym, subst, if◌then◌else◌}
use Rattle.std.proofs.lemmas.Bool.{false≢true}
use Rattle.std.proofs.lemmas.List.{append-nil}
use Rattle.std.specs.FinMap as map
use Rattle.std.specs.FinSet as set
use Rattle.std.specs.List.{AllByRecursion}
use Rattle.cs_model.specs.declared.row_key.RowKey.{RowKey}
use Rattle.cs_model.specs.declared.value.Value.{Value}
use Rattle.cs_apply.specs.Held.{CanHoldRow, HeldState, KeyHasPlace, KeySet, held_also, is_key_placed, with_row}
use Rattle.cs_apply.specs.State.{Rows, TableState}
use Rattle.cs_apply.proofs.stored.Filled.{get_put}
use Rattle.cs_apply.proofs.rows_by_key.Keys.{same_key, exact, exact_keys, keys_total, laws, tied}
use Rattle.par_apply.specs.Planned.{FitsAtKey, RowsFit}
use Rattle.par_apply.specs.RowChanges.{RowChanges}
use Rattle.par_apply.specs.Staged.{CanHoldAll, without_change, without_places}

-- ---- one place that is made

also_by_row : (t : HeldState) (key : RowKey) (P : HeldState → Type 0)
    → (map.contains_key t.state.rows key ≡ true → P t)
    → (map.contains_key t.state.rows key ≡ false → P (record t { held = set.insert t.held key })) → P (held_also t key)
also_by_row t key P there new = by (map.contains_key t.state.rows key) refl
  where
    by : (b : Bool) → map.contains_key t.state.rows key ≡ b
        → P (cond b t (record t { held = set.insert t.held key }))
    by true e = there e
    by false e = new e

pub hold_keeps_state : (t : HeldState) (key : RowKey) → (held_also t key).state ≡ t.state
hold_keeps_state t key = also_by_row t key (λ u. u.state ≡ t.state) (λ e. refl) (λ e. refl)

either_second : (a b : Bool) → b ≡ true → (a || b) ≡ true
either_second true b h = refl
either_second false b h = h

either_first : (a b : Bool) → a ≡ true → (a || b) ≡ true
either_first true b h = refl
either_first false b h = absurd (false≢true h)

pub hold_places : (t : HeldState) (key : RowKey) → KeyHasPlace (held_also t key) key
hold_places t key = also_by_row t key (λ u. KeyHasPlace u key)
    (λ e. either_first (map.contains_key t.state.rows key) (set.contains t.held key) e)
    (λ e. either_second (map.contains_key t.state.rows key) (set.contains (set.insert t.held key) key)
    (set.contains-insert keys_total t.held key key
    ∙ (λ i. tied key key i || set.contains t.held key) ∙ (λ i. laws.refl key i || set.contains t.held key)))

pub hold_keeps_places : (t : HeldState) (key q : RowKey) → KeyHasPlace t q → KeyHasPlace (held_also t key) q
hold_keeps_places t key q there = also_by_row t key (λ u. KeyHasPlace u q) (λ e. there)
    (λ e. by (map.contains_key t.state.rows q) there)
  where
    by : (b : Bool) → (b || set.contains t.held q) ≡ true → (b || set.contains (set.insert t.held key) q) ≡ true
    by true h = refl
    by false h = set.contains-insert keys_total t.held key q ∙ (λ i. tied q key i || h i) ∙ either (same_key q key)
      where
        either : (s : Bool) → (s || true) ≡ true
        either true = refl
        either false = refl

-- ---- and taken away again

neither_one : (a b : Bool) → (a || b) ≡ false → (a ≡ false) × (b ≡ false)
neither_one true b h = absurd (false≢true (sym h))
neither_one false b h = (refl, h)

the_other : (a b : Bool) → (a || b) ≡ true → a ≡ false → b ≡ true
the_other true b h none = absurd (false≢true (sym none))
the_other false b h none = h

no_row : (row : Option (List Value)) → is_some row ≡ false → row ≡ None
no_row None h = refl
no_row (Some row) h = absurd (false≢true (sym h))

no_row_out : (rows : Rows) (key : RowKey) → map.get rows key ≡ None → map.remove rows key ≡ rows
no_row_out rows key none = map.same_map keys_total exact_keys (map.remove rows key) rows
    (λ q. get_put rows key q None ∙ by q (same_key q key) refl)
  where
    by : (q : RowKey) (b : Bool) → same_key q key ≡ b → cond b None (map.get rows q) ≡ map.get rows q
    by q false e = refl
    by q true e = sym (ap (map.get rows) (exact q key e) ∙ none)

held_in_out : (held : KeySet) (key : RowKey) → set.contains held key ≡ false
    → set.remove (set.insert held key) key ≡ held
held_in_out held key none = set.same_set keys_total exact_keys (set.remove (set.insert held key) key) held
    (λ q. set.contains-remove keys_total (set.insert held key) key q
    ∙ (λ i. not (tied q key i)
    && (set.contains-insert keys_total held key q ∙ (λ j. tied q key j || set.contains held q)) i)
    ∙ by q (same_key q key) refl)
  where
    by : (q : RowKey) (b : Bool) → same_key q key ≡ b
        → (not b && (b || set.contains held q)) ≡ set.contains held q
    by q false e = refl
    by q true e = sym (ap (set.contains held) (exact q key e) ∙ none)

pub hold_undone : (t : HeldState) (key : RowKey) → is_key_placed t key ≡ false
    → with_row (held_also t key) key None ≡ t
hold_undone t key new =
    let two = neither_one (map.contains_key t.state.rows key) (set.contains t.held key) new in
    also_by_row t key (λ u. with_row u key None ≡ t)
    (λ there. absurd (false≢true (sym two.0 ∙ there)))
    (λ none. λ i. record {
      state = record t.state { rows = no_row_out t.state.rows key (no_row (map.get t.state.rows key) two.0) i };
      held = held_in_out t.held key two.1 i;
    })

-- ---- the places that were noted

-- the last one is taken away first
pub last_without : (t : HeldState) (changes : RowChanges) (made : List ℕ) (i : ℕ)
    → without_places t changes (made ++ i ∷ []) ≡ without_places (without_change t (slice_get changes i)) changes made
last_without t changes [] i = refl
last_without t changes (j ∷ made) i = ap (λ u. without_change u (slice_get changes j)) (last_without t changes made i)

-- a place that is made and noted
pub noted_back : (old : HeldState) (changes : RowChanges) (made longer : List ℕ) (i : ℕ) (key : RowKey)
    (row : Option (List Value)) → slice_get changes i ≡ Some (key, row) → longer ≡ made ++ i ∷ []
    → is_key_placed old key ≡ false
    → without_places (held_also old key) changes longer ≡ without_places old changes made
noted_back old changes made longer i key row at is new =
    ap (without_places (held_also old key) changes) is
    ∙ last_without (held_also old key) changes made i
    ∙ ap (λ u. without_places u changes made)
    (ap (without_change (held_also old key)) at ∙ hold_undone old key new)

-- a place that was there
pub placed_back : (old : HeldState) (changes : RowChanges) (made : List ℕ) (key : RowKey)
    → is_key_placed old key ≡ true
    → without_places (held_also old key) changes made ≡ without_places old changes made
placed_back old changes made key there =
    ap (λ u. without_places u changes made) (again (map.contains_key old.state.rows key) refl)
  where
    inserted_twice : set.contains old.held key ≡ true → set.insert old.held key ≡ old.held
    inserted_twice held = set.same_set keys_total exact_keys (set.insert old.held key) old.held
        (λ q. set.contains-insert keys_total old.held key q ∙ (λ i. tied q key i || set.contains old.held q)
        ∙ by q (same_key q key) refl)
      where
        by : (q : RowKey) (b : Bool) → same_key q key ≡ b → (b || set.contains old.held q) ≡ set.contains old.held q
        by q false e = refl
        by q true e = sym (ap (set.contains old.held) (exact q key e) ∙ held)

    again : (b : Bool) → map.contains_key old.state.rows key ≡ b
        → cond b old (record old { held = set.insert old.held key }) ≡ old
    again true e = refl
    again false e = λ i. record old {
      held = inserted_twice (the_other (map.contains_key old.state.rows key) (set.contains old.held key) there e) i;
    }

-- ---- the same, from what a call answers

pub held_placed : (old new : HeldState) (own key : RowKey) → new ≡ held_also old own → own ≡ key → KeyHasPlace new key
held_placed old new own key is same =
    subst (λ (t : HeldState). KeyHasPlace t key) (sym is)
    (subst (λ (k : RowKey). KeyHasPlace (held_also old own) k) same (hold_places old own))

pub held_stays : (old new : HeldState) (own : RowKey) → new ≡ held_also old own → (q : RowKey) → KeyHasPlace old q
    → KeyHasPlace new q
held_stays old new own is q there =
    subst (λ (t : HeldState). KeyHasPlace t q) (sym is) (hold_keeps_places old own q there)

held_keeps_state : (old : HeldState) (key : RowKey) → (held_also old key).state ≡ old.state
held_keeps_state old key = by (map.contains_key old.state.rows key)
  where
    by : (b : Bool) → (if b then old else record old { held = set.insert old.held key }).state ≡ old.state
    by true = refl
    by false = refl

-- a change whose key was given a place can be made
pub can_hold : (old new : HeldState) (own : RowKey) (change : RowKey × Option (List Value)) → new ≡ held_also old own
    → own ≡ change.0 → FitsAtKey old.state change → CanHoldRow new change
can_hold old new own (key, None) is same fits = tt
can_hold old new own (key, Some row) is same fits = (
  held_placed old new own key is same,
  subst (λ (s : TableState). FitsAtKey s (key, Some row))
      (sym (ap (λ (t : HeldState). t.state) is ∙ held_keeps_state old own)) fits,
)

was_true : (b : Bool) → not b ≡ true → b ≡ false
was_true true h = absurd (false≢true h)
was_true false h = refl

was_false : (b : Bool) → not b ≡ false → b ≡ true
was_false true h = refl
was_false false h = absurd (false≢true (sym h))

-- taking the place out again, if it is new, leaves what was there
pub held_back : (old new : HeldState) (changes : RowChanges) (made longer : List ℕ) (i : ℕ) (own key : RowKey)
    (row : Option (List Value)) (is_new : Bool) → slice_get changes i ≡ Some (key, row)
    → longer ≡ made ++ cond is_new (i ∷ []) [] → new ≡ held_also old own → own ≡ key
    → is_new ≡ not (is_key_placed old own) → without_places new changes longer ≡ without_places old changes made
held_back old new changes made longer i own key row true at more is same says =
    ap (λ (t : HeldState). without_places t changes longer) is
    ∙ noted_back old changes made longer i own row
    (at ∙ ap (λ (k : RowKey). Some (k, row)) (sym same)) more (was_true (is_key_placed old own) (sym says))
held_back old new changes made longer i own key row false at more is same says =
    (λ k. without_places (is k) changes ((more ∙ append-nil made) k))
    ∙ placed_back old changes made own (was_false (is_key_placed old own) (sym says))

-- ---- all of them

-- the changes before this index can be made
abbrev pub CanHoldFirst : HeldState → RowChanges → ℕ → Type 0
CanHoldFirst tables changes n = AllByRecursion (CanHoldRow tables) (take n changes)

pub hold_one : (t u : HeldState) (c : RowKey × Option (List Value)) → u.state ≡ t.state
    → ((q : RowKey) → KeyHasPlace t q → KeyHasPlace u q) → CanHoldRow t c → CanHoldRow u c
hold_one t u (key, None) same stays h = tt
hold_one t u (key, Some row) same stays h =
    (stays key h.0, subst (λ (s : TableState). FitsAtKey s (key, Some row)) (sym same) h.1)

pub hold_more : (t u : HeldState) (cs : RowChanges) → u.state ≡ t.state
    → ((q : RowKey) → KeyHasPlace t q → KeyHasPlace u q) → CanHoldAll t cs → CanHoldAll u cs
hold_more t u [] same stays h = tt
hold_more t u (c ∷ cs) same stays h = (hold_one t u c same stays h.0, hold_more t u cs same stays h.1)

pub all_and_one : (t : HeldState) (cs : RowChanges) (c : RowKey × Option (List Value)) → CanHoldAll t cs
    → CanHoldRow t c
    → CanHoldAll t (cs ++ c ∷ [])
all_and_one t [] c h one = (one, tt)
all_and_one t (x ∷ cs) c h one = (h.0, all_and_one t cs c h.1 one)

pub fit_at : (tables : TableState) (cs : RowChanges) (i : ℕ) (c : RowKey × Option (List Value)) → RowsFit tables cs
    → slice_get cs i ≡ Some c → FitsAtKey tables c
fit_at tables [] i c fit at = absurd cc
fit_at tables (x ∷ cs) zero c fit at =
    let is : x ≡ c = cc in subst (FitsAtKey tables) is fit.0
fit_at tables (x ∷ cs) (suc i) c fit at = fit_at tables cs i c fit.1 at

take_one_more : (cs : RowChanges) (i : ℕ) (c : RowKey × Option (List Value)) → slice_get cs i ≡ Some c
    → take (suc i) cs ≡ take i cs ++ c ∷ []
take_one_more [] i c at = absurd cc
take_one_more (x ∷ cs) zero c at =
    let is : x ≡ c = cc in ap (λ (y : RowKey × Option (List Value)). y ∷ []) is
take_one_more (x ∷ cs) (suc i) c at = ap (λ (l : RowChanges). x ∷ l) (take_one_more cs i c at)

-- one change more that can be made
pub can_hold_next : (t u : HeldState) (cs : RowChanges) (i next : ℕ) (c : RowKey × Option (List Value))
    → next ≡ suc i → slice_get cs i ≡ Some c → u.state ≡ t.state
    → ((q : RowKey) → KeyHasPlace t q → KeyHasPlace u q) → CanHoldRow u c → CanHoldFirst t cs i
    → CanHoldFirst u cs next
can_hold_next t u cs i next c after at same stays one first =
    subst (λ (l : RowChanges). CanHoldAll u l) (sym (ap (λ n. take n cs) after ∙ take_one_more cs i c at))
    (all_and_one u (take i cs) c (hold_more t u (take i cs) same stays first) one)
