use Rattle.std.proofs.Common.{◌≡◌, ◌∙◌, subst, sym, ap, arith}
use Rattle.rb_sequence.specs.Cells.{CellToken, IsTokenOf}
use Rattle.rb_close.proofs.MeetLaws.{same_token, placed_token}
use Rattle.rb_close.proofs.meeting.agree_placed.Goals as goal

pub same-requires : goal.same-requires
same-requires g c =
    let cells = g.L.StepLedger.cells in
    let one = placed_token cells c.args.sequencer.now.placed c.args.number c.placed.ensures.cells
    (omega (arith, c.requires.accepted.0)) c.requires.placed in
    let token = c.in-Some-Some.token.now in
    let mine : token ≡ one.token = same_token _ token one.token c.in-Some-Some.ensures one.there in
    let other = c.in-Some-Some.ensures'.shown in
    c.one_number_is_one_cell.ensures cells token c.in-Some-Some.twin.now
    (subst (λ (t : CellToken). IsTokenOf cells t) (sym mine) one.of) other.0
    (ap (λ (t : CellToken). t.number) mine ∙ one.number ∙ sym other.1)
