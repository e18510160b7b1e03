use Rattle.std.proofs.Common.{arith}
use Rattle.std.proofs.lemmas.List.{length-map}
use Rattle.rb_deliveries.specs.Taken.{held_under, nth_list}
use Rattle.rb_deliveries.proofs.lists.OnceLaws.{few_out}
use Rattle.rb_deliveries.proofs.lists.PushLaws.{pushed_out, pushed_records, pushed_spans}
use Rattle.rb_deliveries.proofs.steps.push.Goals as goal

pub overflow_add-result : goal.overflow_add-result
overflow_add-result c =
    let lanes = c.args.records.now in
    let all = nth_list 0 lanes.second in
    let few = few_out lanes.slots (nth_list 0 lanes.first) (nth_list 1 lanes.first) all c.requires.lists.0.listed in
    omega (arith, few, c.requires.lists.1, c.requires.few, length-map all (held_under lanes.slots))

pub returns-clause-lists : goal.returns-clause-lists
returns-clause-lists c =
    let more = pushed_out c.args.records.now c.insert-key.new.self c.push_back.new.self c.push_back-2.new.self
    c.insert-key.result c.args.held c.requires.lists.0 c.insert-key.ensures.rest c.push_back.ensures
    c.push_back-2.ensures c.insert-key.ensures.free_second c.insert-key.ensures.slots c.requires.last in (
      pushed_records c.args.records.now c.insert-key.new.self c.push_back.new.self c.push_back-2.new.self
          c.insert-key.result c.args.held c.requires.lists.0 c.insert-key.ensures.rest c.push_back.ensures
          c.push_back-2.ensures c.insert-key.ensures.free_second c.insert-key.ensures.slots c.requires.last,
      omega (arith, more, c.requires.lists.1),
    )

pub returns-clause-spans : goal.returns-clause-spans
returns-clause-spans c =
    pushed_spans c.args.records.now c.insert-key.new.self c.push_back.new.self c.push_back-2.new.self
    c.insert-key.result c.args.held c.requires.lists.0 c.insert-key.ensures.rest c.push_back.ensures
    c.push_back-2.ensures c.insert-key.ensures.free_second c.insert-key.ensures.slots c.requires.last
