-- Rows of tables, key by key: changes apply exactly if those of each key do.
use Rattle.std.proofs.Common.{◌≡◌, ◌∙◌, ℕ, suc, Bool, true, false, cond, List, [], ◌∷◌, Option, Some, None}
use Rattle.std.proofs.Common.{Ok, Err, refl, ap, subst, sym}
use Rattle.std.proofs.lemmas.Option.{cond_some, none-some}
use Rattle.std.specs.Prelude.{filter}
use Rattle.std.specs.FinMap as map
use Rattle.cs_model.specs.declared.value.Field.{Field}
use Rattle.cs_model.specs.declared.change.Op.{Op}
use Rattle.cs_model.specs.declared.change.Op.TheVariants.{Insert, Update, Delete}
use Rattle.cs_model.specs.declared.change.Change.{Change}
use Rattle.cs_model.specs.declared.row_key.RowKey.{RowKey}
use Rattle.cs_model.specs.declared.shape.Shape.{Shape}
use Rattle.cs_model.specs.Key.{key_of}
use Rattle.cs_model.specs.Row.{values_of}
use Rattle.cs_apply.specs.declared.conflict.ConflictKind.TheVariants.{Data}
use Rattle.cs_apply.specs.Effect.{all_agree, rest_agrees, updated, effect_by, inserted, changed, deleted}
use Rattle.cs_apply.specs.Single.{effect_at, single_from}
use Rattle.cs_apply.specs.State.{Rows, compatible}
use Rattle.cs_apply.specs.Steps.{put}
use Rattle.cs_apply.proofs.stored.Filled.{get_put}
use Rattle.cs_apply.proofs.effects.OneByOne.{front_found, one_by_one_none_left}
use Rattle.cs_apply.proofs.rows_by_key.Keys.{same_key, exact, laws}
use Rattle.cs_group.proofs.one_row.Effects.{Row, on_row, on_change}
use Rattle.cs_group.proofs.one_row.OneRow.{and_then}

-- ---- one change

cond_ok : {A E : Type 0} (b : Bool) (x y : A) (e : E) → cond b (Ok x) (Err e) ≡ Ok y → (b ≡ true) × (x ≡ y)
cond_ok true x y e h = (refl, cc h)
cond_ok false x y e h = absurd cc

-- it puts what it makes of the row in the row's place
pub effect_puts : (op : Op) (rows : Rows) (key : RowKey) (flags : List ℕ) (before after : List Field) (new : Rows)
    → effect_by op rows key flags before after ≡ Ok new
    → (row : Option Row) × (on_row op flags before after (map.get rows key) ≡ Some row) × (put rows key row ≡ new)
effect_puts Insert rows key flags before after new e = go (map.get rows key) e
  where
    go : (there : Option Row) → inserted rows key (values_of after) there ≡ Ok new
        → (row : Option Row) × (on_row Insert flags before after there ≡ Some row) × (put rows key row ≡ new)
    go None e = (Some (values_of after), refl, cc e)
    go (Some row) e = absurd cc
effect_puts Update rows key flags before after new e = go (map.get rows key) e
  where
    go : (there : Option Row) → changed rows key flags before after there ≡ Ok new
        → (row : Option Row) × (on_row Update flags before after there ≡ Some row) × (put rows key row ≡ new)
    go None e = absurd cc
    go (Some row) e = let f = cond_ok (rest_agrees flags before row) (map.insert rows key (updated after row)) new _ e
        in
        (Some (updated after row), ap (λ b. cond b (Some (Some (updated after row))) None) f.0, f.1)
effect_puts Delete rows key flags before after new e = go (map.get rows key) e
  where
    go : (there : Option Row) → deleted rows key before there ≡ Ok new
        → (row : Option Row) × (on_row Delete flags before after there ≡ Some row) × (put rows key row ≡ new)
    go None e = absurd cc
    go (Some row) e = let f = cond_ok (all_agree before row) (map.remove rows key) new _ e in
        (None, ap (λ b. cond b (Some None) None) f.0, f.1)

pub puts_effect : (op : Op) (rows : Rows) (key : RowKey) (flags : List ℕ) (before after : List Field) (row : Option Row)
    → on_row op flags before after (map.get rows key) ≡ Some row → effect_by op rows key flags before after
    ≡ Ok (put rows key row)
puts_effect Insert rows key flags before after row e = go (map.get rows key) e
  where
    go : (there : Option Row) → on_row Insert flags before after there ≡ Some row
        → inserted rows key (values_of after) there ≡ Ok (put rows key row)
    go None e = let is : Some (values_of after) ≡ row = cc e in ap (λ r. Ok (put rows key r)) is
    go (Some there) e = absurd (none-some row e)
puts_effect Update rows key flags before after row e = go (map.get rows key) e
  where
    go : (there : Option Row) → on_row Update flags before after there ≡ Some row
        → changed rows key flags before after there ≡ Ok (put rows key row)
    go None e = absurd (none-some row e)
    go (Some there) e = let f = cond_some (rest_agrees flags before there) (Some (updated after there)) row e in
        ap (λ b. cond b (Ok (map.insert rows key (updated after there))) (Err Data)) f.0
        ∙ ap (λ r. Ok (put rows key r)) f.1
puts_effect Delete rows key flags before after row e = go (map.get rows key) e
  where
    go : (there : Option Row) → on_row Delete flags before after there ≡ Some row
        → deleted rows key before there ≡ Ok (put rows key row)
    go None e = absurd (none-some row e)
    go (Some there) e = let f = cond_some (all_agree before there) None row e in
        ap (λ b. cond b (Ok (map.remove rows key)) (Err Data)) f.0 ∙ ap (λ r. Ok (put rows key r)) f.1

-- ---- changes of many tables

abbrev pub NamedChange : Type 0
NamedChange = Shape × Change

-- whether a change of the table with this index, if it has one, is about this key
abbrev pub touch_by : Option ℕ → RowKey → NamedChange → Bool
touch_by None key x = false
touch_by (Some table) key x = same_key (key_of table x.0.flags x.1) key

abbrev pub touch : List Shape → List Bool → RowKey → NamedChange → Bool
touch schema kept key x = touch_by (compatible schema kept x.0) key x

-- their effect on one row
abbrev pub on_named : List NamedChange → Option Row → Option (Option Row)
on_named [] row = Some row
on_named (x ∷ xs) row = and_then (on_change x.0.flags x.1 row) (on_named xs)

-- how one change changes the row of each key
abbrev pub Steps : (touched : Bool) → NamedChange → Option Row → Option Row → Type 0
Steps true x old new = on_change x.0.flags x.1 old ≡ Some new
Steps false x old new = old ≡ new

pub steps_at : (table : ℕ) (x : NamedChange) (rows : Rows) (row : Option Row) (key : RowKey)
    → on_change x.0.flags x.1 (map.get rows (key_of table x.0.flags x.1)) ≡ Some row
    → (b : Bool) → same_key (key_of table x.0.flags x.1) key ≡ b
    → Steps b x (map.get rows key) (map.get (put rows (key_of table x.0.flags x.1) row) key)
steps_at table x rows row key e true is =
    let one : key_of table x.0.flags x.1 ≡ key = exact (key_of table x.0.flags x.1) key is in
    ap (λ k. on_change x.0.flags x.1 (map.get rows k)) (sym one) ∙ e
    ∙ ap (λ r. Some r) (sym (get_put rows (key_of table x.0.flags x.1) key row
    ∙ ap (λ b. cond b row (map.get rows key)) (laws.symm key (key_of table x.0.flags x.1) ∙ is)))
steps_at table x rows row key e false is = sym (get_put rows (key_of table x.0.flags x.1) key row
    ∙ ap (λ b. cond b row (map.get rows key)) (laws.symm key (key_of table x.0.flags x.1) ∙ is))

effect_steps : (o : Option ℕ) (x : NamedChange) (rows new : Rows) (key : RowKey) → effect_at o rows x.0 x.1 ≡ Ok new
    → Steps (touch_by o key x) x (map.get rows key) (map.get new key)
effect_steps None x rows new key e = let is : rows ≡ new = cc e in ap (λ r. map.get r key) is
effect_steps (Some table) x rows new key e =
    let f = effect_puts x.1.op rows (key_of table x.0.flags x.1) x.0.flags x.1.before x.1.after new e in
    subst (λ r. Steps (same_key (key_of table x.0.flags x.1) key) x (map.get rows key) (map.get r key)) f.2
    (steps_at table x rows f.0 key f.1 (same_key (key_of table x.0.flags x.1) key) refl)

-- where all apply, those of each key do
pub each_applies : (schema : List Shape) (kept : List Bool) (xs : List NamedChange) (at : ℕ) (rows new : Rows)
    (key : RowKey)
    → single_from schema kept xs at rows ≡ Ok new
    → on_named (filter (touch schema kept key) xs) (map.get rows key) ≡ Some (map.get new key)
each_applies schema kept [] at rows new key e =
    let is : Ok rows ≡ Ok new = sym (one_by_one_none_left schema kept at rows) ∙ e in
    let here : rows ≡ new = cc is in ap (λ r. Some (map.get r key)) here
each_applies schema kept (x ∷ xs) at rows new key e =
    let f = front_found schema kept x xs at rows new e in
    more (touch schema kept key x) (map.get rows key) (map.get f.0 key)
    (effect_steps (compatible schema kept x.0) x rows f.0 key f.1)
    (each_applies schema kept xs (suc at) f.0 new key f.2)
  where
    more : (b : Bool) (old mid : Option Row) → Steps b x old mid
        → on_named (filter (touch schema kept key) xs) mid ≡ Some (map.get new key)
        → on_named (cond b (x ∷ filter (touch schema kept key) xs) (filter (touch schema kept key) xs)) old
        ≡ Some (map.get new key)
    more true old mid s e = ap (λ r. and_then r (on_named (filter (touch schema kept key) xs))) s ∙ e
    more false old mid s e = ap (on_named (filter (touch schema kept key) xs)) s ∙ e
