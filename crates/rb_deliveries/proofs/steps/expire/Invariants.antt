use Rattle.std.proofs.Common.{◌≡◌, length}
use Rattle.rb_deliveries.specs.Taken.{nth_list}
use Rattle.rb_deliveries.proofs.lists.ExpireWalk.{IsExpiring}
use Rattle.rb_deliveries.proofs.steps.expire.Given as goal

abbrev pub invariant-loop : goal.invariant-loop
invariant-loop l = record {
  expiring : IsExpiring l.timeout l.clock l.latest l.next l.fn.records l.records l.flying l.counter l.at;
  flying : l.rest ≡ length (nth_list 1 l.records.first);
}
