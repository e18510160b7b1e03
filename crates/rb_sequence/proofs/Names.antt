-- The names of write-once cells.
use Rattle.std.proofs.Common.{◌≡◌, ℕ, zero, suc, List, [], ◌∷◌, length, get_or, ◌<◌, ap, sym, arith}
use Rattle.std.specs.declared.alloc.Global.{Global}
use Rattle.once_cell.specs.Once.{cell_name}
use Rattle.rb_sequence.specs.Segments.{cell_names, id_at}

-- the name of the cell at a place
pub id_is : (cells : List (Global × ℕ)) (i : ℕ) (cell : Global × ℕ) → i < length cells → cell ≡ get_or cells i cell
    → id_at (cell_names cells) i ≡ cell_name cell
id_is [] i cell near e = absurd (omega arith)
id_is (x ∷ xs) zero cell near e = ap cell_name (sym e)
id_is (x ∷ xs) (suc i) cell near e = id_is xs i cell (omega arith) e
