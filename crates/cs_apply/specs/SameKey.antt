-- Whether two row keys are the same, and lists of keys with what each has.
use Rattle.std.specs.Prelude.{◌≡◌, ◌&&◌, Bool, List, Option, nat_eq, if◌then◌else◌}
use Rattle.std.specs.Cmp.Lexicographic.{pointwise}
use Rattle.std.specs.Map.{lookup}
use Rattle.cs_model.specs.declared.row_key.RowKey.{RowKey}

-- what `==` returns for two keys
abbrev pub same_key : RowKey → RowKey → Bool
same_key a b = nat_eq a.table b.table && pointwise nat_eq a.bytes b.bytes

-- what a list has for a key
abbrev pub at_key : {X : Type 0} → List (RowKey × X) → RowKey → Option X
at_key entries key = lookup (same_key key) entries

-- two lists that differ at one key at most, where the second has this
abbrev pub IsEditAt : {X : Type 0} → List (RowKey × X) → List (RowKey × X) → RowKey → Option X
    → Type 0
IsEditAt old new key there = (other : RowKey) → at_key new other
    ≡ (if same_key key other then there else at_key old other)
