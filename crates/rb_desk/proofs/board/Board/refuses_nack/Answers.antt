use Rattle.std.proofs.Common.{◌∙◌}
use Rattle.rb_desk.proofs.calls.CallLaws.{nack_why}
use Rattle.rb_desk.proofs.board.Board.refuses_nack.Goals as goal

pub returns : goal.returns
returns c = c.err.ensures.value ∙ nack_why _ c.args.caller.sub c.args.caller.link c.args.delivery _ c.in_flight.ensures
