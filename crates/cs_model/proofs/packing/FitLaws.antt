-- The changes of a table have canonical bytes.
use Rattle.std.proofs.Common.{◌≡◌, ℕ, suc, ◌^◌, ◌<◌, ◌≤◌, List, [], ◌∷◌, length, map, refl, ap, ◌∙◌, arith}
use Rattle.std.specs.List.{AllByRecursion}
use Rattle.std.proofs.lemmas.List.{length-map}
use Rattle.cs_model.specs.declared.value.Value.TheVariants.{Integer, Text, Blob, Null}
use Rattle.cs_model.specs.declared.value.Field.{Field}
use Rattle.cs_model.specs.declared.value.Field.TheVariants.{Undefined, Is}
use Rattle.cs_model.specs.declared.shape.Shape.{Shape}
use Rattle.cs_model.specs.declared.change.Op.{Op}
use Rattle.cs_model.specs.declared.change.Op.TheVariants.{Insert, Update, Delete}
use Rattle.cs_model.specs.declared.change.Change.{Change}
use Rattle.cs_model.specs.Changeset.{most_bytes, IsField, Obeys, AreRecords, IsChange}
use Rattle.cs_model.specs.Packed.{Fits, IsLength}
use Rattle.cs_model.specs.PackedChanges.{Long, Fit}
use Rattle.cs_model.specs.Rule.{Rule, row_rule, old_rule, new_rules}
use Rattle.cs_model.proofs.packing.PackedLaws.{packed_is_length}

-- ---- a field

limited : (n most : ℕ) → most < 2 ^ 64 → n ≤ most → IsLength n
limited n most small within = packed_is_length n (omega arith)

most_small : most_bytes < 2 ^ 64
most_small = omega arith

pub field_fits : (f : Field) → IsField f → Fits f
field_fits Undefined is = tt
field_fits (Is (Integer n)) is = is
field_fits (Is (Text bytes)) is = limited (length bytes) most_bytes most_small is
field_fits (Is (Blob bytes)) is = limited (length bytes) most_bytes most_small is
field_fits (Is Null) is = tt

-- ---- a record: a field for each rule

obeys_long : (rules : List Rule) (fields : List Field) → Obeys rules fields → length fields ≡ length rules
obeys_long [] [] h = refl
obeys_long [] (f ∷ fs) h = absurd h
obeys_long (r ∷ rs) [] h = absurd h
obeys_long (r ∷ rs) (f ∷ fs) h = ap suc (obeys_long rs fs h.2)

obeys_fits : (rules : List Rule) (fields : List Field) → Obeys rules fields → AllByRecursion Fits fields
obeys_fits [] [] h = tt
obeys_fits [] (f ∷ fs) h = absurd h
obeys_fits (r ∷ rs) [] h = absurd h
obeys_fits (r ∷ rs) (f ∷ fs) h = (field_fits f h.0, obeys_fits rs fs h.2)

new_rules_long : (flags : List ℕ) (before : List Field) → length before ≡ length flags → length (new_rules flags before)
    ≡ length flags
new_rules_long [] before same = refl
new_rules_long (flag ∷ flags) [] same = same
new_rules_long (flag ∷ flags) (old ∷ before) same = ap suc (new_rules_long flags before (omega (arith, same)))

-- ---- a change

records_fit : (flags : List ℕ) (op : Op) (before after : List Field) → AreRecords flags op before after
    → Long (length flags) op before after × AllByRecursion Fits before × AllByRecursion Fits after
records_fit flags Insert before after h =
    let long = obeys_long (map row_rule flags) after h.1 ∙ length-map flags row_rule in
    ((h.0, long), rw h.0 tt, obeys_fits (map row_rule flags) after h.1)
records_fit flags Update before after h =
    let old = obeys_long (map old_rule flags) before h.0 ∙ length-map flags old_rule in
    let new = obeys_long (new_rules flags before) after h.1 ∙ new_rules_long flags before old in
    ((old, new), obeys_fits (map old_rule flags) before h.0, obeys_fits (new_rules flags before) after h.1)
records_fit flags Delete before after h =
    let long = obeys_long (map row_rule flags) before h.0 ∙ length-map flags row_rule in
    ((long, h.1), obeys_fits (map row_rule flags) before h.0, rw h.1 tt)

pub change_fits : (shape : Shape) (change : Change) → IsChange shape change → Fit (length shape.flags) change
change_fits shape change is =
    let f = records_fit shape.flags change.op change.before change.after is in
    record { long = f.0; before = f.1; after = f.2 }
