use Rattle.std.proofs.Common.{◌∙◌}
use Rattle.rb_desk.proofs.calls.CallLaws.{unsubscribe_why}
use Rattle.rb_desk.proofs.board.Board.refuses_unsubscribe.Goals as goal

pub returns : goal.returns
returns c = c.err.ensures.value ∙ unsubscribe_why _ c.args.caller.sub c.args.caller.link _ c.to_close.ensures
