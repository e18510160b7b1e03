use Rattle.std.proofs.Common.{◌≡◌, IfSome, map, replicate}
use Rattle.std.specs.Arc.{arc_value}
use Rattle.std.specs.FinMap as map
use Rattle.sqlite.specs.Held.{state}
use Rattle.replica_store.specs.Durable.{KeepsRows}
use Rattle.rb_core.specs.State.{empty_tables}
use Rattle.rb_drive.specs.Owners.{beginning_of}
use Rattle.rb_drive.proofs.beginning.all_subscribers.Given as goal

-- so many are made, and the replica is new as long as no subscriber has it
abbrev pub invariant-loop : goal.invariant-loop
invariant-loop g l = record {
  made : map (λ one. beginning_of one.subscription) l.all.items
      ≡ replicate l.counter (0, empty_tables (arc_value l.schema));
  fresh : IfSome l.replica (λ r. KeepsRows (state g.S.Store r.conn) map.empty 0);
}
