use Rattle.std.proofs.Common.{ap, arith, length}
use Rattle.rb_deliveries.specs.Expiry.{expired_by}
use Rattle.rb_deliveries.specs.Taken.{nth_list}
use Rattle.rb_deliveries.proofs.lists.ListedLaws.{out_key, out_some}
use Rattle.rb_deliveries.proofs.lists.OnceLaws.{fewer_out}
use Rattle.rb_deliveries.proofs.lists.MoveLaws.{free_between, line_out}
use Rattle.rb_deliveries.proofs.steps.expire_key.Goals as goal

pub push_back-requires-clause-free : goal.push_back-requires-clause-free
push_back-requires-clause-free c =
    free_between c.args.records.now c.unlink.new.self c.expire_at.new.records c.args.key
    (expired_by c.args.timeout c.args.clock c.args.latest)
    (record { unlinked = c.unlink.ensures; changed = c.expire_at.ensures })

pub returns-clause-flying : goal.returns-clause-flying
returns-clause-flying c =
    let lanes = c.args.records.now in
    let ready = nth_list 0 lanes.first in
    let out = nth_list 1 lanes.first in
    let all = nth_list 0 lanes.second in
    let are = c.requires.lists.0 in
    let k = out_key lanes.slots ready out all are.listed c.args.key c.requires.out in
    let fewer = fewer_out lanes are c.args.key k.0 k.1 in
    let left = ap length (line_out lanes c.unlink.new.self c.expire_at.new.records c.push_back.new.self c.args.key
    (expired_by c.args.timeout c.args.clock c.args.latest) are
    (record { unlinked = c.unlink.ensures; changed = c.expire_at.ensures }) k.0
    (out_some lanes.slots ready out all are.listed c.args.key c.requires.out) c.push_back.ensures) in
    omega (arith, fewer, left, c.requires.lists.1)
