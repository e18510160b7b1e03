use Rattle.std.proofs.Common.{◌≡◌, suc, None, rules}
use Rattle.rb_desk.proofs.journals.KeepLaws.{close_again, close_kept}
use Rattle.rb_desk.proofs.desk.Desk.close.Goals as goal

pub returns-in-Some-clause-answer : goal.returns-in-Some-clause-answer
returns-in-Some-clause-answer c = close_again c.args.self.now.picture c.in-Some.last (search rules)

pub invariant_of-self : goal.invariant_of-self
invariant_of-self c =
    let still : c.self.inside.board.picture.closing ≡ None = search rules in
    let one : c.close-last.new.self.steps ≡ suc c.self.inside.board.steps = search rules in
    close_kept c.calls_keep_limits.ensures c.self.inside.board c.close-last.new.self c.close-last.result
    c.self.inside.journal c.push.new.self c.self.invariant c.close-last.ensures.answer one c.push.ensures.steps
