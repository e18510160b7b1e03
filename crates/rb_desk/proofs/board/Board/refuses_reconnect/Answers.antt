use Rattle.std.proofs.Common.{◌∙◌}
use Rattle.rb_desk.proofs.calls.CallLaws.{reconnect_why}
use Rattle.rb_desk.proofs.board.Board.refuses_reconnect.Goals as goal

pub returns : goal.returns
returns c = c.err.ensures.value ∙ reconnect_why _ c.args.sub c.args.cursor _ c.to_reconnect.ensures
