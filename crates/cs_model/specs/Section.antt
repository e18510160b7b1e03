-- A section: a table's shape and consecutive changes of that table.
use Rattle.std.specs.Prelude.{List, refl}
use Rattle.std.specs.Coded.{Coded, code_by, coded×, coded_list}
use Rattle.cs_model.specs.contracts.change.Change as change
use Rattle.cs_model.specs.contracts.shape.Shape as shape
use Rattle.cs_model.specs.declared.change.Change.{Change}
use Rattle.cs_model.specs.declared.shape.Shape.{Shape}

-- A section: a table's shape and changes of that table, in order. It may have no changes.
pub record Section : Type 0 where
  pub shape : Shape
  pub changes : List Change

-- a section is stored as the pair of its parts
abbrev pub section_code : Coded Section
section_code =
    code_by (Shape × List Change) (coded× shape.the_row.coded (coded_list change.the_row.coded))
    (λ s. (s.shape, s.changes)) (λ p. record { shape = p.0; changes = p.1 }) (λ _. refl)
