-- The law of one row: what changes come to has the effect that they have one after another.
use Rattle.std.proofs.Common.{◌≡◌, ◌∙◌, ℕ, Bool, cond, List, Option, Some, None, refl, ap}
use Rattle.std.proofs.lemmas.Option.{cond_some, none-some}
use Rattle.std.specs.Prelude.{◌&&◌}
use Rattle.cs_model.specs.declared.value.Field.{Field}
use Rattle.cs_model.specs.declared.change.Op.{Op}
use Rattle.cs_model.specs.declared.change.Op.TheVariants.{Insert, Update, Delete}
use Rattle.cs_model.specs.declared.change.Change.{Change}
use Rattle.cs_model.specs.Changeset.{AreRecords}
use Rattle.cs_model.specs.KeyBytes.{key_fields, key_record}
use Rattle.cs_model.specs.PackedChanges.{change_of}
use Rattle.cs_model.specs.Row.{values_of}
use Rattle.cs_apply.specs.Effect.{all_agree, rest_agrees, updated}
use Rattle.cs_group.specs.Merge.{only_change, two_changes, record_or}
use Rattle.cs_group.proofs.one_row.Merging.{IsValidChange, key_in}
use Rattle.cs_group.proofs.one_row.Effects.{Row, on_change, on_option, on_row, between_turns}
use Rattle.cs_group.proofs.one_row.Turning.{IsLong, update_turns, updates_turn, rows_turn, updated_values, deleted_agrees}

-- a row with one value for each column, or none
abbrev pub IsLongRow : List ℕ → Option Row → Type 0
IsLongRow flags None = Unit {0}
IsLongRow flags (Some row) = IsLong flags row

-- ---- one change

alone_on : (op : Op) (flags : List ℕ) (indirect : Bool) (before after : List Field) (row next : Option Row)
    → AreRecords flags op before after → IsLongRow flags row → on_row op flags before after row ≡ Some next
    → on_option flags (only_change flags (change_of op indirect before after)) row ≡ Some next
alone_on Insert flags indirect before after row next r l e = e
alone_on Update flags indirect before after None next r l e = absurd (none-some next e)
alone_on Update flags indirect before after (Some row) next r l e =
    let f = cond_some (rest_agrees flags before row) (Some (updated after row)) next e in
    between_turns flags indirect before after row (updated after row)
    (update_turns flags before after row r.0 r.1 l f.0)
    ∙ ap (λ (n : Option Row). Some n) f.1
alone_on Delete flags indirect before after row next r l e = e

pub alone_has_effect : (flags : List ℕ) (new : Change) (row next : Option Row) → IsValidChange flags new
    → IsLongRow flags row
    → on_change flags new row ≡ Some next → on_option flags (only_change flags new) row ≡ Some next
alone_has_effect flags new row next r l e = alone_on new.op flags new.indirect new.before new.after row next r l e

-- ---- two changes

insert_found : (flags : List ℕ) (before after : List Field) (row next : Option Row)
    → on_row Insert flags before after row ≡ Some next
    → (row ≡ None) × (Some (values_of after) ≡ next)
insert_found flags before after None next e = (refl, cc e)
insert_found flags before after (Some row) next e = absurd (none-some next e)

two_on : (op then : Op) (flags : List ℕ) (indirect other : Bool) (before after old new : List Field)
    (row mid next : Option Row)
    → AreRecords flags op before after → AreRecords flags then old new
    → key_fields flags (key_record op before after) ≡ key_fields flags (key_record then old new)
    → IsLongRow flags row → on_row op flags before after row ≡ Some mid → on_row then flags old new mid ≡ Some next
    → on_option flags (two_changes flags (change_of op indirect before after) (change_of then other old new)) row
    ≡ Some next
two_on Insert Insert flags indirect other before after old new None mid next r s k l one two =
    let here : on_row Insert flags old new (Some (values_of after)) ≡ Some next =
    ap (λ (m : Option Row). on_row Insert flags old new m) (insert_found flags before after None mid one).1
    ∙ two in absurd (none-some next here)
two_on Insert Insert flags indirect other before after old new (Some row) mid next r s k l one two = absurd
    (none-some mid one)
two_on Insert Update flags indirect other before after old new None mid next r s k l one two =
    let here : on_row Update flags old new (Some (values_of after)) ≡ Some next =
    ap (λ (m : Option Row). on_row Update flags old new m) (insert_found flags before after None mid one).1 ∙ two in
    let f = cond_some (rest_agrees flags old (values_of after)) (Some (updated new (values_of after))) next here in
    ap (λ (r : Row). Some (Some r)) (updated_values flags old new after s.0 s.1 r.1)
    ∙ ap (λ (n : Option Row). Some n) f.1
two_on Insert Update flags indirect other before after old new (Some row) mid next r s k l one two = absurd
    (none-some mid one)
two_on Insert Delete flags indirect other before after old new None mid next r s k l one two =
    let here : on_row Delete flags old new (Some (values_of after)) ≡ Some next =
    ap (λ (m : Option Row). on_row Delete flags old new m) (insert_found flags before after None mid one).1 ∙ two in
    ap (λ (n : Option Row). Some n) (cond_some (all_agree old (values_of after)) None next here).1
two_on Insert Delete flags indirect other before after old new (Some row) mid next r s k l one two = absurd
    (none-some mid one)
two_on Update then flags indirect other before after old new None mid next r s k l one two = absurd (none-some mid one)
two_on Update Insert flags indirect other before after old new (Some row) mid next r s k l one two =
    let f = cond_some (rest_agrees flags before row) (Some (updated after row)) mid one in
    let here : on_row Insert flags old new (Some (updated after row)) ≡ Some next =
    ap (λ (m : Option Row). on_row Insert flags old new m) f.1 ∙ two in absurd (none-some next here)
two_on Update Update flags indirect other before after old new (Some row) mid next r s k l one two =
    let f = cond_some (rest_agrees flags before row) (Some (updated after row)) mid one in
    let here : on_row Update flags old new (Some (updated after row)) ≡ Some next =
    ap (λ (m : Option Row). on_row Update flags old new m) f.1 ∙ two in
    let g = cond_some (rest_agrees flags old (updated after row)) (Some (updated new (updated after row))) next here in
    between_turns flags (indirect && other) (record_or before old) (record_or new after) row
    (updated new (updated after row))
    (updates_turn flags before after old new row r.0 r.1 s.0 s.1 l f.0 g.0) ∙ ap (λ (n : Option Row). Some n) g.1
two_on Update Delete flags indirect other before after old new (Some row) mid next r s k l one two =
    let f = cond_some (rest_agrees flags before row) (Some (updated after row)) mid one in
    let here : on_row Delete flags old new (Some (updated after row)) ≡ Some next =
    ap (λ (m : Option Row). on_row Delete flags old new m) f.1 ∙ two in
    let g = cond_some (all_agree old (updated after row)) None next here in
    ap (λ (b : Bool). cond b (Some None) None) (deleted_agrees flags before after old row r.0 r.1 s.0 l f.0 g.0 k)
    ∙ ap (λ (n : Option Row). Some n) g.1
two_on Delete then flags indirect other before after old new None mid next r s k l one two = absurd (none-some mid one)
two_on Delete Insert flags indirect other before after old new (Some row) mid next r s k l one two =
    let f = cond_some (all_agree before row) None mid one in
    let here : on_row Insert flags old new None ≡ Some next =
    ap (λ (m : Option Row). on_row Insert flags old new m) f.1 ∙ two in
    between_turns flags (indirect && other) before new row (values_of new)
    (rows_turn flags before new row r.0 s.1 l f.0 k) ∙ here
two_on Delete Update flags indirect other before after old new (Some row) mid next r s k l one two =
    let f = cond_some (all_agree before row) None mid one in
    let here : on_row Update flags old new None ≡ Some next =
    ap (λ (m : Option Row). on_row Update flags old new m) f.1 ∙ two in absurd (none-some next here)
two_on Delete Delete flags indirect other before after old new (Some row) mid next r s k l one two =
    let f = cond_some (all_agree before row) None mid one in
    let here : on_row Delete flags old new None ≡ Some next =
    ap (λ (m : Option Row). on_row Delete flags old new m) f.1 ∙ two in absurd (none-some next here)

pub two_have_effect : (flags : List ℕ) (there new : Change) (row mid next : Option Row) → IsValidChange flags there
    → IsValidChange flags new
    → key_in flags there ≡ key_in flags new → IsLongRow flags row → on_change flags there row ≡ Some mid
    → on_change flags new mid ≡ Some next → on_option flags (two_changes flags there new) row ≡ Some next
two_have_effect flags there new row mid next r s k l one two = two_on there.op new.op flags there.indirect new.indirect
    there.before there.after new.before new.after row mid next r s k l one two
