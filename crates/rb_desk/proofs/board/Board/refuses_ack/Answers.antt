use Rattle.std.proofs.Common.{◌∙◌}
use Rattle.rb_desk.proofs.calls.CallLaws.{ack_why}
use Rattle.rb_desk.proofs.board.Board.refuses_ack.Goals as goal

pub returns : goal.returns
returns c =
    c.err.ensures.value
    ∙ ack_why _ c.args.caller.sub c.args.caller.link c.args.delivery c.args.cursor _ c.to_ack.ensures
