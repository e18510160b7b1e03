-- What the kit keeps of a database with a replica's schema, and what queries show of it.
use Rattle.std.specs.Prelude.{◌≡◌, ◌&&◌, ℕ, ℤ, pos, negsuc, Bool, true, false, List, [], ◌∷◌}
use Rattle.std.specs.Prelude.{length}
use Rattle.sqlite_value.specs.declared.value.Value.{Value}
use Rattle.sqlite_value.specs.declared.value.Value.TheVariants.{Null, Int, Real, Text, Blob}
use Rattle.sqlite_value.specs.Order.{column}
use Rattle.sqlite.specs.Order.{Row}
use Rattle.sqlite.specs.Tree.{Trees, IsTable}
use Rattle.sqlite_rules.specs.Lists.{Has}
use Rattle.cs_model.specs.declared.row_key.RowKey.{RowKey}
use Rattle.replica_store.specs.Picture.{row_record}

-- The rowids of rb_row rise, and each row of the two tables has its columns.
pub record HasTableColumns (db : Trees) : Type 0 where
  pub rising : IsTable (db 0)
  pub rows : (r : Row) → Has (db 0) r → (id : ℤ) × (tab : Value) × (rowkey : Value)
      × (body : Value) × (r ≡ Int id ∷ tab ∷ rowkey ∷ body ∷ [])
  pub marks : (r : Row) → Has (db 2) r → (id : ℤ) × (place : Value)
      × (r ≡ Int id ∷ Null ∷ place ∷ [])

-- each row has a table's number, a key and a body
abbrev pub AreRowRecords : List Row → Type 0
AreRowRecords rows = (r : Row) → Has rows r
    → (id : ℤ) × (key : RowKey) × (body : List ℕ) × (r ≡ row_record id key body)

-- what the query of all rows shows of a row, and the query of the mark of a mark
abbrev pub shown_row : Row → Row
shown_row r = column r 1 ∷ column r 2 ∷ column r 3 ∷ []

abbrev pub shown_mark : Row → Row
shown_mark r = column r 0 ∷ column r 2 ∷ []

-- The answer shows each of these rows once, in some order, and nothing else.
pub record ListsRows (show : Row → Row) (rows answer : List Row) : Type 0 where
  pub sound : (x : Row) → Has answer x → (r : Row) × Has rows r × (x ≡ show r)
  pub complete : (r : Row) → Has rows r → Has answer (show r)
  pub count : length answer ≡ length rows

abbrev pub is_natural : Value → Bool
is_natural Null = false
is_natural (Int (pos n)) = true
is_natural (Int (negsuc n)) = false
is_natural (Real x) = false
is_natural (Text t) = false
is_natural (Blob b) = false

abbrev pub is_blob_value : Value → Bool
is_blob_value Null = false
is_blob_value (Int n) = false
is_blob_value (Real x) = false
is_blob_value (Text t) = false
is_blob_value (Blob b) = true

-- a shown row has a table's number, a key and a body
abbrev pub is_shown_record : Row → Bool
is_shown_record x = is_natural (column x 0) && (is_blob_value (column x 1)
    && is_blob_value (column x 2))

-- the answer is one mark, with the id 1 and this place
pub record IsMarkAnswer (answer : List Row) (place : ℕ) : Type 0 where
  pub row : Row
  pub one : answer ≡ row ∷ []
  pub id : column row 0 ≡ Int (pos 1)
  pub at : column row 1 ≡ Int (pos place)
