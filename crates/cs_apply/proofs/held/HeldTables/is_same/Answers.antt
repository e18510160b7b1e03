use Rattle.std.proofs.Common.{refl, ap}
use Rattle.cs_apply.proofs.stored.SameLaws.{decided_off, decided_on, tables_decided}
use Rattle.cs_apply.proofs.held.HeldTables.is_same.Goals as goal

pub returns-then-has_setup_of : goal.returns-then-has_setup_of
returns-then-has_setup_of c =
    tables_decided _ _ c.args.self.now.state c.args.other.now.state c.has_rows_of.result
    (ap (λ t. t.state) c.self.view_is) (ap (λ t. t.state) c.other.view_is)
    (decided_on c.has_setup_of.result c.has_rows_of.result c.has_rows_of.result c.if-has_setup_of.true refl
    c.has_setup_of.ensures c.has_rows_of.ensures)

pub returns-else-has_setup_of : goal.returns-else-has_setup_of
returns-else-has_setup_of c =
    tables_decided c.args.self.now.state c.args.other.now.state _ _ c.has_setup_of.result refl refl
    (decided_off c.has_setup_of.result c.has_setup_of.result c.if-has_setup_of.false refl c.has_setup_of.ensures)
