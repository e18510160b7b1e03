use Rattle.std.specs.Arc.{arc_value}
use Rattle.rb_broker.proofs.SchemaLaws.{subscribes_after, tables_come_back}
use Rattle.rb_broker.proofs.broker.Broker.subscribe.Goals as goal

pub returns-clause-refused : goal.returns-clause-refused
returns-clause-refused g c =
    tables_come_back c.subscribe.result c.args.tables (arc_value c.args.self.now.schema) c.args.start _ _
    (c.has_schema.ensures.0 c.if-not-has_schema.false) c.subscribe.ensures.made

pub returns-clause-desk : goal.returns-clause-desk
returns-clause-desk g c =
    let h = c.subscribe.ensures in
    subscribes_after g.L.BrokerBrand.limits c.subscribe.result c.args.tables c.args.start _ _ _ _ _ _ h.others h.held
    h.log h.seen h.own
    h.made
