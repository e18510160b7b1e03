-- Changes as bytes: the canonical bytes of changes of a table, and the changes that any bytes
-- decode to.
use Rattle.std.specs.Prelude.{◌≡◌, ℕ, zero, suc, Bool, true, false, not, List, [], ◌∷◌, ◌++◌}
use Rattle.std.specs.Prelude.{length, ◌==◌, if◌then◌else◌}
use Rattle.std.specs.List.{flat_map, AllByRecursion}
use Rattle.cs_model.specs.declared.value.Field.{Field}
use Rattle.cs_model.specs.declared.change.Op.{Op}
use Rattle.cs_model.specs.declared.change.Op.TheVariants.{Insert, Update, Delete}
use Rattle.cs_model.specs.declared.change.Change.{Change}
use Rattle.cs_model.specs.Text.{op_byte}
use Rattle.cs_model.specs.Packed.{packed, Fits, typed_in}

-- the indirect byte of a change
abbrev pub mark : Bool → ℕ
mark true = 1
mark false = 0

-- a change's bytes: its operation, its indirect byte, and its records
abbrev pub change_bytes : Change → List ℕ
change_bytes c = op_byte c.op ∷ mark c.indirect ∷ (packed c.before ++ packed c.after)

-- the bytes of changes, one after another
abbrev pub changes_bytes : List Change → List ℕ
changes_bytes changes = flat_map change_bytes changes

-- the records that this operation has have n fields each, and the other has none
abbrev pub Long : ℕ → Op → List Field → List Field → Type 0
Long n Insert before after = (before ≡ []) × (length after ≡ n)
Long n Update before after = (length before ≡ n) × (length after ≡ n)
Long n Delete before after = (length before ≡ n) × (after ≡ [])

-- a change of a table with n columns that has canonical bytes
pub record Fit (n : ℕ) (c : Change) : Type 0 where
  pub long : Long n c.op c.before c.after
  pub before : AllByRecursion Fits c.before
  pub after : AllByRecursion Fits c.after

-- the change that has these parts
abbrev pub change_of : Op → Bool → List Field → List Field → Change
change_of op indirect before after =
    record { op = op; indirect = indirect; before = before; after = after }

-- the bytes are those of these changes
pub record PacksAll (n : ℕ) (bytes : List ℕ) (changes : List Change) : Type 0 where
  pub parts : bytes ≡ changes_bytes changes
  pub fit : AllByRecursion (Fit n) changes

-- the bytes begin with those of n fields
pub record BeginsFields (n : ℕ) (bytes : List ℕ) : Type 0 where
  pub fields : List Field
  pub rest : List ℕ
  pub long : length fields ≡ n
  pub fit : AllByRecursion Fits fields
  pub parts : bytes ≡ packed fields ++ rest

-- the bytes begin with those of a change's records
pub record BeginsUnpacked (n : ℕ) (op : Op) (bytes : List ℕ) : Type 0 where
  pub before : List Field
  pub after : List Field
  pub rest : List ℕ
  pub long : Long n op before after
  pub before_fit : AllByRecursion Fits before
  pub after_fit : AllByRecursion Fits after
  pub parts : bytes ≡ (packed before ++ packed after) ++ rest

-- ---- decoding: every list of bytes decodes to some changes; the result matters only for the
-- bytes of changes

-- up to n fields, fewer if there are fewer, and the bytes after them
unfoldable pub some_in : ℕ → List ℕ → List Field × List ℕ
some_in zero bytes = ([], bytes)
some_in (suc n) [] = ([], [])
some_in (suc n) (byte ∷ rest) = (
  (typed_in byte rest).0 ∷ (some_in n (typed_in byte rest).1).0,
  (some_in n (typed_in byte rest).1).1,
)

-- the operation that a byte decodes to
abbrev pub op_in : ℕ → Op
op_in byte = if byte == 18 then Insert else if byte == 23 then Update else Delete

-- the change with this operation and these records, and the bytes after it
abbrev pub records_by : ℕ → Op → Bool → List ℕ → Change × List ℕ
records_by n Insert indirect bytes =
    (change_of Insert indirect [] (some_in n bytes).0, (some_in n bytes).1)
records_by n Update indirect bytes = (
  change_of Update indirect (some_in n bytes).0 (some_in n (some_in n bytes).1).0,
  (some_in n (some_in n bytes).1).1,
)
records_by n Delete indirect bytes =
    (change_of Delete indirect (some_in n bytes).0 [], (some_in n bytes).1)

-- The changes of n columns that the bytes hold. Each turn takes one from `fuel`.
unfoldable pub changes_said : ℕ → ℕ → List ℕ → List Change
changes_said n zero bytes = []
changes_said n (suc fuel) [] = []
changes_said n (suc fuel) (op ∷ []) = []
changes_said n (suc fuel) (op ∷ (byte ∷ rest)) =
    (records_by n (op_in op) (not (byte == 0)) rest).0
    ∷ changes_said n fuel (records_by n (op_in op) (not (byte == 0)) rest).1

-- the changes that bytes decode to
unfoldable pub unpacked_changes : ℕ → List ℕ → List Change
unpacked_changes n bytes = changes_said n (length bytes) bytes

-- the bytes are the canonical encoding of the changes that they decode to
abbrev pub AreCanonical : ℕ → List ℕ → Type 0
AreCanonical n bytes = PacksAll n bytes (unpacked_changes n bytes)
