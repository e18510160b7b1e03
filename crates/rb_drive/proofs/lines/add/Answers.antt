use Rattle.std.proofs.Common.{arith}
use Rattle.rb_drive.proofs.inputs.LineListLaws.{line_put}
use Rattle.rb_drive.proofs.lines.add.Goals as goal

-- the line stands at the end of its publisher's list
pub returns : goal.returns
returns c =
    λ front were. line_put (λ v. v.items) c.args.lines.now.items c.grow.new.lines.items
    c.index_mut-own.result.now c.push.new.self front c.args.given
    c.args.lines.now.len c.args.lines.now.ok.0 c.in_ok-grow.ensures.lines
    (omega (arith, c.in_ok-grow.ensures.count, c.grow.new.lines.ok.0)) c.index_mut-own.ensures.value c.in_ok-push.ensures.items were
