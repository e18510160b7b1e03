use Rattle.std.proofs.Common.{◌∙◌}
use Rattle.rb_desk.proofs.calls.CallLaws.{take_why}
use Rattle.rb_desk.proofs.board.Board.refuses_take.Goals as goal

pub returns : goal.returns
returns c now = c.err.ensures.value ∙ take_why _ c.args.caller.sub c.args.caller.link c.args.cursor now _ c.to_take.ensures
