use Rattle.std.proofs.Common.{refl}
use Rattle.cs_apply.specs.Steps.{rows_in}
use Rattle.cs_apply.proofs.stored.ChangedLaws.{parts_decide}
use Rattle.cs_apply.proofs.stored.SameLaws.{decided_off, decided_on}
use Rattle.cs_apply.proofs.places.Places.are_changed_to.Goals as goal

pub returns-then-have_all : goal.returns-then-have_all
returns-then-have_all c =
    parts_decide (rows_in c.args.self.now) (rows_in c.args.others.now) c.args.changes.now c.are_same_but.result c.requires
    (decided_on c.have_all.result c.are_same_but.result c.are_same_but.result c.if-have_all.true refl c.have_all.ensures
    c.are_same_but.ensures)

pub returns-else-have_all : goal.returns-else-have_all
returns-else-have_all c =
    parts_decide (rows_in c.args.self.now) (rows_in c.args.others.now) c.args.changes.now c.have_all.result c.requires
    (decided_off c.have_all.result c.have_all.result c.if-have_all.false refl c.have_all.ensures)
