-- Where the cells of numbers stand: in segments of 65,536.
use Rattle.std.specs.Prelude.{◌≡◌, ℕ, ◌+◌, ◌*◌, ◌<◌, List, map, slice_index_or}
use Rattle.std.specs.declared.alloc.Global.{Global}
use Rattle.once_cell.specs.Once.{cell_name}

-- the cell of a number: its segment, and its place there, both from 0
abbrev pub IsLocated : ℕ → ℕ → ℕ → Type 0
IsLocated number k j = (j < 65536) × (65536 * k + j + 1 ≡ number)

-- The names of write-once cells. Each cell that is made has a name of its own.
abbrev pub cell_names : List (Global × ℕ) → List ℕ
cell_names cells = map cell_name cells

-- the name at a place
abbrev pub id_at : List ℕ → ℕ → ℕ
id_at names j = slice_index_or names j 0
