use Rattle.std.proofs.Common.{◌∙◌, sym}
use Rattle.rb_close.proofs.meeting.agree.Goals as goal

pub same-requires : goal.same-requires
same-requires g c =
    let one = c.in-Some-Some.ensures.shown in
    let other = c.in-Some-Some.ensures'.shown in
    c.one_number_is_one_cell.ensures g.L.StepLedger.cells c.in-Some-Some.token.now c.in-Some-Some.twin.now one.0 other.0
    (one.1 ∙ sym other.1)
