-- Worked rows of combining, as theorems: what the changes of a table `t` come to. Its first column
-- is
-- the key.
use Rattle.std.specs.Prelude.{◌≡◌, ℕ, true, false, List, [], ◌∷◌, pos, refl}
use Rattle.cs_model.specs.declared.value.Value.TheVariants.{Integer, Text}
use Rattle.cs_model.specs.declared.value.Field.{Field}
use Rattle.cs_model.specs.declared.value.Field.TheVariants.{Undefined, Is}
use Rattle.cs_model.specs.declared.change.Op.TheVariants.{Insert, Update, Delete}
use Rattle.cs_model.specs.declared.change.Change.{Change}
use Rattle.cs_model.specs.declared.shape.Shape.{Shape}
use Rattle.cs_model.specs.PackedChanges.{change_of}
use Rattle.cs_model.specs.Section.{Section}
use Rattle.cs_write.specs.Canon.{by_shape}
use Rattle.cs_group.specs.Group.{group_of}

-- the table, and one section of it
abbrev table_t : Shape
table_t = record { name = 116 ∷ []; flags = 1 ∷ 0 ∷ [] }

abbrev of_t : List Change → Section
of_t changes = record { shape = table_t; changes = changes }

abbrev key : ℕ → Field
key n = Is (Integer (pos n))

abbrev text : ℕ → Field
text letter = Is (Text (letter ∷ []))

abbrev ins : ℕ → ℕ → Change
ins n new = change_of Insert false [] (key n ∷ text new ∷ [])

abbrev upd : ℕ → ℕ → ℕ → Change
upd n old new = change_of Update false (key n ∷ text old ∷ []) (Undefined ∷ text new ∷ [])

abbrev del : ℕ → ℕ → Change
del n old = change_of Delete false (key n ∷ text old ∷ []) []

abbrev indirectly : Change → Change
indirectly change = record change { indirect = true }

-- two UPDATEs: the first old value, the second new one
pub update_then_update : group_of (of_t (upd 1 120 121 ∷ []) ∷ of_t (upd 1 121 122 ∷ []) ∷ [])
    ≡ of_t (upd 1 120 122 ∷ []) ∷ []
unfolding by_shape
update_then_update = refl

-- an UPDATE back to the old value leaves nothing
pub update_and_back : group_of (of_t (upd 1 120 121 ∷ []) ∷ of_t (upd 1 121 120 ∷ []) ∷ []) ≡ []
unfolding by_shape
update_and_back = refl

-- a row that vanished and comes again goes last
pub vanished_goes_last : group_of (of_t (ins 1 120 ∷ []) ∷ of_t (ins 2 97 ∷ [])
    ∷ of_t (del 1 120 ∷ []) ∷ of_t (ins 1 98 ∷ []) ∷ [])
    ≡ of_t (ins 2 97 ∷ ins 1 98 ∷ []) ∷ []
unfolding by_shape
vanished_goes_last = refl

-- a merged change is indirect if both are
pub indirect_if_both : group_of (of_t (indirectly (ins 1 120) ∷ [])
    ∷ of_t (indirectly (upd 1 120 121) ∷ []) ∷ [])
    ≡ of_t (indirectly (ins 1 121) ∷ []) ∷ []
unfolding by_shape
indirect_if_both = refl

pub direct_if_one_is : group_of (of_t (ins 1 120 ∷ []) ∷ of_t
    (indirectly (upd 1 120 121) ∷ []) ∷ [])
    ≡ of_t (ins 1 121 ∷ []) ∷ []
unfolding by_shape
direct_if_one_is = refl

-- INSERT, UPDATE and DELETE of a row leave nothing
pub chain_vanishes : group_of (of_t (ins 1 120 ∷ upd 1 120 121 ∷ del 1 121 ∷ []) ∷ []) ≡ []
unfolding by_shape
chain_vanishes = refl

-- DELETE, then INSERT: an UPDATE, or nothing if the row is the same
pub delete_then_insert : group_of (of_t (del 1 120 ∷ ins 1 121 ∷ []) ∷ [])
    ≡ of_t (upd 1 120 121 ∷ []) ∷ []
unfolding by_shape
delete_then_insert = refl

pub delete_then_same : group_of (of_t (del 1 120 ∷ ins 1 120 ∷ []) ∷ []) ≡ []
unfolding by_shape
delete_then_same = refl

-- UPDATE, then DELETE: a DELETE of the first old values
pub update_then_delete : group_of (of_t (upd 1 120 121 ∷ del 1 121 ∷ []) ∷ [])
    ≡ of_t (del 1 120 ∷ []) ∷ []
unfolding by_shape
update_then_delete = refl

-- an ignored change changes nothing, not even the flag
pub insert_is_ignored : group_of (of_t (indirectly (ins 1 120) ∷ ins 1 121 ∷ []) ∷ [])
    ≡ of_t (indirectly (ins 1 120) ∷ []) ∷ []
unfolding by_shape
insert_is_ignored = refl

pub update_is_ignored : group_of (of_t (indirectly (del 1 120) ∷ upd 1 120 121 ∷ []) ∷ [])
    ≡ of_t (indirectly (del 1 120) ∷ []) ∷ []
unfolding by_shape
update_is_ignored = refl

-- an UPDATE alone that changes nothing leaves nothing
pub idle_update : group_of (of_t (upd 1 120 120 ∷ []) ∷ []) ≡ []
unfolding by_shape
idle_update = refl
