use Rattle.std.proofs.Common.{refl}
use Rattle.cs_apply.specs.Steps.{rows_in}
use Rattle.cs_apply.proofs.stored.SameLaws.{decided_off, decided_on, rows_decided}
use Rattle.cs_apply.proofs.places.Places.has_rows_of.Goals as goal

pub returns-then-are_in : goal.returns-then-are_in
returns-then-are_in c =
    rows_decided (rows_in c.args.self.now) (rows_in c.args.others.now) c.are_in-then-are_in.result
    (decided_on c.are_in.result c.are_in-then-are_in.result c.are_in-then-are_in.result c.if-are_in.true refl
    c.are_in.ensures c.are_in-then-are_in.ensures)

pub returns-else-are_in : goal.returns-else-are_in
returns-else-are_in c =
    rows_decided (rows_in c.args.self.now) (rows_in c.args.others.now) c.are_in.result
    (decided_off c.are_in.result c.are_in.result c.if-are_in.false refl c.are_in.ensures)
