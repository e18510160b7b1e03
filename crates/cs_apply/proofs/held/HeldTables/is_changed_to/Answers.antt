use Rattle.std.proofs.Common.{refl, ap}
use Rattle.cs_apply.proofs.stored.ChangedLaws.{changed_decide}
use Rattle.cs_apply.proofs.stored.SameLaws.{decided_off, decided_on}
use Rattle.cs_apply.proofs.held.HeldTables.is_changed_to.Goals as goal

pub returns-then-has_setup_of : goal.returns-then-has_setup_of
returns-then-has_setup_of c =
    changed_decide _ _ c.args.self.now.state c.args.other.now.state c.args.changes.now c.are_changed_to.result
    (ap (λ t. t.state) c.self.view_is) (ap (λ t. t.state) c.other.view_is)
    (decided_on c.has_setup_of.result c.are_changed_to.result c.are_changed_to.result c.if-has_setup_of.true refl
    c.has_setup_of.ensures c.are_changed_to.ensures)

pub returns-else-has_setup_of : goal.returns-else-has_setup_of
returns-else-has_setup_of c =
    changed_decide c.args.self.now.state c.args.other.now.state _ _ c.args.changes.now c.has_setup_of.result refl refl
    (decided_off c.has_setup_of.result c.has_setup_of.result c.if-has_setup_of.false refl c.has_setup_of.ensures)
