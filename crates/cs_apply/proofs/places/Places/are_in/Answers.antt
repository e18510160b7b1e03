use Rattle.std.proofs.Common.{rules}
use Rattle.cs_apply.specs.Steps.{rows_in}
use Rattle.cs_apply.proofs.stored.SameLaws.{all_in, not_all_in, place_found, place_passed}
use Rattle.cs_apply.proofs.places.Places.are_in.Goals as goal
use Rattle.cs_apply.proofs.places.Places.are_in.Goals.{in_default-via-in-None-1, in_default-via-in-Some-place+else-not-has}

pub returns-in-loop-key : goal.returns-in-loop-key
returns-in-loop-key c =
    not_all_in (rows_in c.args.others.now) c.args.self.now.rows.entries c.loop-key.key-iterator c.next.new.self
    c.in-Some.key.now c.in-Some.place.now c.in-Some-place.row c.has.result c.len-places.ensures.unique
    c.in-Some.ensures.steps c.in-Some-place.is c.if-not-has.true c.has.ensures c.loop-key.invariant

pub loop-key-preserved : goal.loop-key-preserved
loop-key-preserved c =
    place_passed (rows_in c.args.others.now) c.args.self.now.rows.entries c.loop-key.key-iterator c.next.new.self
    c.in-Some.key.now c.in-Some.place.now c.in-Some.ensures.steps
    (elim c.in_default.branch [
      | in_default-via-in-None-1 w ↦ search rules
      | in_default-via-in-Some-place+else-not-has w ↦ place_found (rows_in c.args.others.now) c.in-Some.key.now
          c.in-Some.place.now w.in-Some-place.row w.has.result w.in-Some-place.is w.if-not-has.false w.has.ensures
    ])
    c.loop-key.invariant

pub returns : goal.returns
returns c =
    all_in (rows_in c.args.others.now) c.args.self.now.rows.entries c.loop-key.key-iterator c.in-None.ensures.steps.0
    c.loop-key.invariant
