use Rattle.rb_deliveries.proofs.lists.ExpireWalk.{expiry_begins, expiry_ends, expiry_goes}
use Rattle.rb_deliveries.proofs.steps.expire.Goals as goal

pub loop-init : goal.loop-init
loop-init c = record {
  expiring = expiry_begins c.args.timeout c.args.clock c.args.latest c.args.next c.args.records.now c.args.flying
      c.valid.ensures c.requires.lists.0 c.requires.lists.1 c.requires.given.0 c.requires.drawn c.front-at.result
      c.front-at.ensures;
  flying = c.requires.lists.1;
}

pub loop-preserved : goal.loop-preserved
loop-preserved c = record {
  expiring = expiry_goes c.args.timeout c.args.clock c.args.latest c.args.next c.args.records.now c.args.flying
      c.loop.records c.loop.counter c.loop.at c.loop.invariant.expiring c.in-Some.key c.in-Some.is
      c.expire_key-rest.new.records c.next-at.result c.next-at.ensures c.expire_key-rest.ensures.lanes;
  flying = c.expire_key-rest.ensures.flying;
}

pub returns-clause-spans : goal.returns-clause-spans
returns-clause-spans c =
    expiry_ends c.args.timeout c.args.clock c.args.latest c.args.next c.args.records.now c.args.flying c.loop.records
    c.loop.counter c.loop.at c.loop.invariant.expiring c.loop-test.false
