use Rattle.std.proofs.Common.{arith, ◌∙◌, refl}
use Rattle.std.proofs.lemmas.List.{drop-set-lt, length-set}
use Rattle.rb_deliveries.proofs.orders.TreeLaws.{joined_up, all_joined}
use Rattle.rb_deliveries.proofs.tournament.put.Goals as goal

pub loop-i-preserved : goal.loop-i-preserved
loop-i-preserved c =
    let i = c.loop-i.invariant in
    rw c.rejoin.ensures (record {
      long = length-set c.loop-i.nodes.items c.loop-i.i _ ∙ i.long;
      above = omega (arith, i.above);
      places = drop-set-lt c.args.room c.loop-i.nodes.items c.loop-i.i _ i.above ∙ i.places;
      but = joined_up c.loop-i.nodes.items c.args.room c.loop-i.i _ _ c.loop-i-test.true i.above i.long
          (omega arith) (omega arith) refl i.but;
    })

pub returns-clause-inner : goal.returns-clause-inner
returns-clause-inner c =
    all_joined c.loop-i.nodes.items c.args.room c.loop-i.i (omega (arith, c.loop-i-test.false)) c.loop-i.invariant.but
