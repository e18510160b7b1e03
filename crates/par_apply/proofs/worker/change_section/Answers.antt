use Rattle.std.proofs.Common.{◌≡◌, ◌+◌, List, length, ap, subst, ◌∙◌, arith}
use Rattle.std.specs.List.{AllByRecursion}
use Rattle.cs_model.specs.declared.change.Change.{Change}
use Rattle.cs_model.specs.Changeset.{IsChange}
use Rattle.cs_model.specs.Seen.{change_seen}
use Rattle.par_apply.specs.RowChanges.{overlaid}
use Rattle.par_apply.specs.Shards.{of_shard, shard_number}
use Rattle.par_apply.proofs.workers.PartLaws.{own_ends, own_goes, own_stops}
use Rattle.par_apply.proofs.worker.change_section.Goals as goal

pub loop-change-preserved : goal.loop-change-preserved
loop-change-preserved c =
    let s = c.args.section.now in
    let is = c.in-Some.ensures.steps in
    let ok = rw c.shape-shape.ensures at c.in_default.ensures.ok in
    let counted : length c.loop-change.change-iterator ≡ length c.next.new.self + 1 =
    ap (λ (cs : List Change). length cs) is ∙ omega arith in
    record {
      so_far = own_goes c.args.table s.shape (of_shard (shard_number c.args.shard.n) c.args.shard.number)
          (change_seen c.in-Some.change) c.next.new.self c.loop-change.change-iterator c.loop-change.position
          (c.loop-change.position + 1) (overlaid c.args.tables.now.rows c.loop-change.rows.rows.entries) _ _ is
          (omega arith) ok c.loop-change.invariant.so_far;
      fits = (subst (AllByRecursion (IsChange s.shape)) is c.loop-change.invariant.fits).1;
      counted = omega (arith, counted, c.loop-change.invariant.counted);
      own = λ old. c.in_default.ensures.own (c.loop-change.invariant.own old);
    }

pub returns-in-Err-clause-refused : goal.returns-in-Err-clause-refused
returns-in-Err-clause-refused c =
    let s = c.args.section.now in
    let refused = rw c.shape-shape.ensures at c.in-Err.ensures.refused in
    rw c.at.ensures (own_stops c.args.table s.shape (of_shard (shard_number c.args.shard.n) c.args.shard.number)
    (change_seen c.in-Some.change) c.next.new.self c.loop-change.change-iterator c.loop-change.position
    (overlaid c.args.tables.now.rows c.loop-change.rows.rows.entries) _
    c.in-Err.error c.in-Some.ensures.steps refused c.loop-change.invariant.so_far)

pub returns-clause-ok : goal.returns-clause-ok
returns-clause-ok c =
    own_ends c.args.table c.args.section.now.shape (of_shard (shard_number c.args.shard.n) c.args.shard.number)
    c.loop-change.change-iterator c.loop-change.position
    (overlaid c.args.tables.now.rows c.loop-change.rows.rows.entries) _ (c.in-None.ensures).steps.0
    c.loop-change.invariant.so_far
