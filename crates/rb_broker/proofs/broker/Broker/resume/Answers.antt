use Rattle.std.proofs.Common.{rules}
use Rattle.rb_subscriber.specs.Lost.{FitsLost}
use Rattle.rb_broker.proofs.ResumeLaws.{link_returns, lost_comes_back, refusal_returns}
use Rattle.rb_broker.proofs.broker.Broker.resume.Goals as goal

-- the state isn't another one
pub returns-clause-refused : goal.returns-clause-refused
returns-clause-refused g c =
    let fits : FitsLost c.args.lost c.args.tables c.args.cursor = search rules in
    lost_comes_back c.resume.result c.args.lost c.args.tables c.args.cursor _ _ fits c.resume.ensures.made

-- the desk that the lock holds returns it
pub returns-clause-link : goal.returns-clause-link
returns-clause-link g c =
    let h = c.resume.ensures in
    link_returns g.L.BrokerBrand.limits c.resume.result c.args.lost c.args.tables c.args.cursor _ _ _ _ h.others
    h.held h.log h.ok h.made

pub returns-clause-desk : goal.returns-clause-desk
returns-clause-desk g c =
    let h = c.resume.ensures in
    refusal_returns g.L.BrokerBrand.limits c.resume.result c.args.lost c.args.tables c.args.cursor _ _ _ _ h.others
    h.held h.log h.err
    h.made
