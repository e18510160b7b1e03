use Rattle.std.proofs.Common.{arith}
use Rattle.rb_script.proofs.endings.StreamLaws.{length-rest, writes_more, stops_writing, on_err}
use Rattle.rb_script.proofs.streams.write_whole.Goals as goal

pub returns-in_err-at-clause-err : goal.returns-in_err-at-clause-err
returns-in_err-at-clause-err g c =
    on_err _ _ (stops_writing _ _ _ c.args.bytes.now c.loop.at c.loop.invariant.so_far c.in_err-at.ensures.err)

pub loop-preserved : goal.loop-preserved
loop-preserved g c =
    let moved = c.in_ok-at.ensures.some in
    let within = c.in_ok-at.ensures.bound in
    record {
      in_range = omega (arith, within, length-rest c.loop.at c.args.bytes.now);
      as_far = omega (arith, moved);
      so_far = writes_more _ _ _ c.args.bytes.now c.loop.at c.in_ok-at.field-0 c.loop.invariant.so_far
          c.in_ok-at.ensures.ok;
    }
