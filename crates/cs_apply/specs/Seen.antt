-- Borrowed keys and rows, seen as keys and rows.
use Rattle.std.specs.Prelude.{List, map}
use Rattle.std.specs.Borrow.{Bor}
use Rattle.cs_model.specs.declared.value.Value.{Value}
use Rattle.cs_model.specs.declared.row_key.RowKey.{RowKey}

-- borrowed keys and rows, as keys and rows
abbrev pub listed : List (Bor RowKey × Bor (List Value)) → List (RowKey × List Value)
listed rows = map (λ p. (p.0.now, p.1.now)) rows
