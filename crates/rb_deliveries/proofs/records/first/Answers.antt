use Rattle.rb_deliveries.proofs.lists.LeastLaws.{first_span}
use Rattle.rb_deliveries.proofs.records.first.Goals as goal

pub returns : goal.returns
returns c =
    first_span c.args.records.now c.valid.ensures c.requires c.front.result c.in_ok-key.key c.front.ensures
    c.in_ok-key.was c.span_at.result c.span_at.ensures
