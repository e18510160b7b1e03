-- Applying sections in two parts is the same as applying one part after the other.
use Rattle.std.proofs.Common.{◌≡◌, ℕ, suc, Bool, List, [], ◌∷◌, ◌++◌, map, Result, Ok, Err, refl, sym, ap}
use Rattle.std.proofs.Common.{◌∙◌, append_assoc}
use Rattle.cs_model.specs.declared.shape.Shape.{Shape}
use Rattle.cs_model.specs.declared.change.Change.{Change}
use Rattle.cs_model.specs.Section.{Section}
use Rattle.cs_apply.specs.declared.conflict.Conflict.{Conflict}
use Rattle.cs_apply.specs.declared.conflict.ConflictKind.{ConflictKind}
use Rattle.cs_apply.specs.OneByOne.{AppliesBoth}
use Rattle.cs_apply.specs.Single.{changes_of, effect_at, next_or_conflict, single_from, with_rows, single}
use Rattle.cs_apply.specs.State.{Rows, TableState, compatible}

abbrev pub OneByOneNamed : Type 0
OneByOneNamed = Shape × Change

abbrev From : Type 0
From = List OneByOneNamed → ℕ → Rows → Result Rows Conflict

-- what goes on without conflict: the change before it has an effect
effect_found : (rest : ℕ → Rows → Result Rows Conflict) (at : ℕ) (effect : Result Rows ConflictKind) (new : Rows)
    → next_or_conflict rest at effect ≡ Ok new → (mid : Rows) × (effect ≡ Ok mid) × (rest (suc at) mid ≡ Ok new)
effect_found rest at (Ok mid) new e = (mid, refl, e)
effect_found rest at (Err kind) new e = absurd cc

abbrev pub effect_of : List Shape → List Bool → OneByOneNamed → Rows → Result Rows ConflictKind
effect_of schema kept x rows = effect_at (compatible schema kept x.0) rows x.0 x.1

abbrev after : List Shape → List Bool → List OneByOneNamed → ℕ → Rows → Result Rows Conflict
after schema kept changes next rows = single_from schema kept changes next rows

-- one change more in front
pub front_applies : (schema : List Shape) (kept : List Bool) (x : OneByOneNamed) (changes : List OneByOneNamed) (at : ℕ)
    (rows mid new : Rows) → effect_of schema kept x rows ≡ Ok mid → single_from schema kept changes (suc at) mid
    ≡ Ok new
    → single_from schema kept (x ∷ changes) at rows ≡ Ok new
unfolding single_from
front_applies schema kept x changes at rows mid new effect rest =
    ap (next_or_conflict (after schema kept changes) at) effect ∙ rest

pub front_found : (schema : List Shape) (kept : List Bool) (x : OneByOneNamed) (changes : List OneByOneNamed) (at : ℕ)
    (rows new : Rows) → single_from schema kept (x ∷ changes) at rows ≡ Ok new
    → (mid : Rows) × (effect_of schema kept x rows ≡ Ok mid) × (single_from schema kept changes (suc at) mid ≡ Ok new)
unfolding single_from
front_found schema kept x changes at rows new e =
    effect_found (after schema kept changes) at (effect_of schema kept x rows) new e

pub one_by_one_none_left : (schema : List Shape) (kept : List Bool) (at : ℕ) (rows : Rows)
    → single_from schema kept [] at rows ≡ Ok rows
unfolding single_from
one_by_one_none_left schema kept at rows = refl

-- where nothing conflicts, the position from which changes are counted is no matter
anywhere : (schema : List Shape) (kept : List Bool) (changes : List OneByOneNamed) (at other : ℕ) (rows new : Rows)
    → single_from schema kept changes at rows ≡ Ok new → single_from schema kept changes other rows ≡ Ok new
anywhere schema kept [] at other rows new e = one_by_one_none_left schema kept other rows
    ∙ sym (one_by_one_none_left schema kept at rows) ∙ e
anywhere schema kept (x ∷ changes) at other rows new e =
    let f = front_found schema kept x changes at rows new e in
    front_applies schema kept x changes other rows f.0 new f.1
    (anywhere schema kept changes (suc at) (suc other) f.0 new f.2)

-- ---- changes in two parts

splits : (schema : List Shape) (kept : List Bool) (some more : List OneByOneNamed) (at : ℕ) (rows new : Rows)
    → single_from schema kept (some ++ more) at rows ≡ Ok new
    → (mid : Rows) × (single_from schema kept some at rows ≡ Ok mid) × (single_from schema kept more 0 mid ≡ Ok new)
splits schema kept [] more at rows new e =
    (rows, one_by_one_none_left schema kept at rows, anywhere schema kept more at 0 rows new e)
splits schema kept (x ∷ some) more at rows new e =
    let f = front_found schema kept x (some ++ more) at rows new e in
    let s = splits schema kept some more (suc at) f.0 new f.2 in
    (s.0, front_applies schema kept x some at rows f.0 s.0 f.1 s.1, s.2)

joins : (schema : List Shape) (kept : List Bool) (some more : List OneByOneNamed) (at : ℕ) (rows mid new : Rows)
    → single_from schema kept some at rows ≡ Ok mid → single_from schema kept more 0 mid ≡ Ok new
    → single_from schema kept (some ++ more) at rows ≡ Ok new
joins schema kept [] more at rows mid new one other =
    let same : Ok rows ≡ Ok mid = sym (one_by_one_none_left schema kept at rows) ∙ one in
    let here : rows ≡ mid = cc same in
    anywhere schema kept more 0 at rows new (ap (λ r. single_from schema kept more 0 r) here ∙ other)
joins schema kept (x ∷ some) more at rows mid new one other =
    let f = front_found schema kept x some at rows mid one in
    front_applies schema kept x (some ++ more) at rows f.0 new f.1
    (joins schema kept some more (suc at) f.0 mid new f.2 other)

-- ---- sections in two parts

abbrev named_one_by_one : Section → List OneByOneNamed
named_one_by_one section = map (λ change. (section.shape, change)) section.changes

changes_of_both : (some more : List Section) → changes_of (some ++ more) ≡ changes_of some ++ changes_of more
changes_of_both [] more = refl
changes_of_both (section ∷ some) more = ap (λ xs. named_one_by_one section ++ xs) (changes_of_both some more)
    ∙ sym (append_assoc (named_one_by_one section) (changes_of some) (changes_of more))

abbrev pub with : TableState → Rows → TableState
with tables rows = record tables { rows = rows }

pub rows_found : (tables : TableState) (r : Result Rows Conflict) (new : TableState) → with_rows tables r ≡ Ok new
    → (rows : Rows) × (r ≡ Ok rows) × (with tables rows ≡ new)
rows_found tables (Ok rows) new e = (rows, refl, cc e)
rows_found tables (Err conflict) new e = absurd cc

pub one_by_one_applies_both : (old : TableState) (some more : List Section) (new : TableState)
    → single old (some ++ more) ≡ Ok new → AppliesBoth old some more new
one_by_one_applies_both old some more new e =
    let all = rows_found old (single_from old.schema old.kept (changes_of (some ++ more)) 0 old.rows) new e in
    let split = splits old.schema old.kept (changes_of some) (changes_of more) 0 old.rows all.0
    (ap (λ changes. single_from old.schema old.kept changes 0 old.rows) (sym (changes_of_both some more)) ∙ all.1)
    in
    (with old split.0, ap (with_rows old) split.1, ap (with_rows (with old split.0)) split.2 ∙ ap (λ t. Ok t) all.2)

pub both_apply : (old : TableState) (some more : List Section) (new : TableState) → AppliesBoth old some more new
    → single old (some ++ more) ≡ Ok new
both_apply old some more new b =
    let one = rows_found old (single_from old.schema old.kept (changes_of some) 0 old.rows) b.0 b.1 in
    let other = rows_found (with old one.0) (single_from old.schema old.kept (changes_of more) 0 one.0) new
    (ap (λ (t : TableState). single t more) one.2 ∙ b.2) in
    ap (λ changes. with_rows old (single_from old.schema old.kept changes 0 old.rows)) (changes_of_both some more)
    ∙ ap (with_rows old) (joins old.schema old.kept (changes_of some) (changes_of more) 0 old.rows one.0 other.0 one.1
    other.1)
    ∙ ap (λ t. Ok t) other.2
