use Rattle.std.proofs.Common.{IfSome, ap, replicate, rules, subst, sym, ◌∙◌}
use Rattle.std.specs.Arc.{arc_value}
use Rattle.std.specs.FinMap as map
use Rattle.sqlite.specs.Held.{state}
use Rattle.replica_store.specs.Durable.{KeepsRows}
use Rattle.rb_core.specs.State.{empty_tables}
use Rattle.rb_drive.specs.Owners.{beginning_of}
use Rattle.rb_drive.proofs.inputs.ListLaws.{made_one_more}
use Rattle.rb_drive.proofs.beginning.all_subscribers.Goals as goal

pub subscriber-requires : goal.subscriber-requires
subscriber-requires g c =
    subst (λ o. IfSome o (λ r. KeepsRows (state g.S.Store r.conn) map.empty 0)) (sym c.take.ensures.value)
    c.loop.invariant.fresh

pub loop-preserved : goal.loop-preserved
loop-preserved g c = record {
  made = rw c.in_ok-push.ensures.items (made_one_more (λ one. beginning_of one.subscription) c.loop.all.items _ c.loop.counter _
      c.loop.invariant.made c.in_ok-subscriber.ensures);
  fresh = subst (λ o. IfSome o (λ r. KeepsRows (state g.S.Store r.conn) map.empty 0)) (sym c.take.ensures.after) tt;
}

pub returns : goal.returns
returns g c = c.loop.invariant.made
    ∙ ap (λ n. replicate n (0, empty_tables (arc_value c.args.schema.now))) (search rules)
