use Rattle.std.proofs.Common.{◌∙◌, sym}
use Rattle.rb_deliveries.proofs.lists.LeastLaws.{least_none, line_front}
use Rattle.rb_deliveries.proofs.records.first_in_line.Goals as goal

pub returns-in_err-key : goal.returns-in_err-key
returns-in_err-key c =
    c.from_residual.ensures
    ∙ sym (least_none c.args.records.now c.requires c.front.result c.front.ensures c.in_err-key.was)

pub returns : goal.returns
returns c =
    line_front c.args.records.now c.requires c.front.result c.in_ok-key.key c.front.ensures c.in_ok-key.was
    c.copied.result (c.copied.ensures ∙ c.get.ensures)
