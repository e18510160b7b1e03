use Rattle.std.proofs.Common.{arith}
use Rattle.std.proofs.lemmas.Result.{err_from_is_err_and}
use Rattle.rb_script.specs.Output.{place_at}
use Rattle.rb_script.proofs.whole_scripts.FedLaws.{fed_none, line_taken, byte_taken, line_stops, byte_stops, number_bounded}
use Rattle.rb_script.proofs.script.feed.Goals as goal
use Rattle.rb_script.proofs.script.feed.Goals.{then-byte-eq10+in_ok-place, else-byte-eq10+in_ok-lengthen}

pub loop-byte-init : goal.loop-byte-init
loop-byte-init g c = fed_none c.args.how c.args.config c.args.place.number
    (place_at c.args.place.stage c.args.place.line.items) _

pub answer_line-requires : goal.answer_line-requires
answer_line-requires g c =
    let within = c.loop-byte-test.true in
    let small = number_bounded c.args.how c.args.config c.args.place.number c.loop-byte.place.number
    (place_at c.args.place.stage c.args.place.line.items)
    (place_at c.loop-byte.place.stage c.loop-byte.place.line.items) c.args.bytes.now c.loop-byte.byte-index _ _
    (omega (arith, within)) c.loop-byte.invariant in
    omega (arith, small, within, c.requires)

pub returns-in_err-place-clause-err : goal.returns-in_err-place-clause-err
returns-in_err-place-clause-err g c =
    let p = err_from_is_err_and c.from_residual.result c.from_residual.ensures.1 in
    rw (p.1, p.2) (line_stops c.args.how c.args.config c.args.place.number c.loop-byte.place.number
    (place_at c.args.place.stage c.args.place.line.items)
    (place_at c.loop-byte.place.stage c.loop-byte.place.line.items) c.args.bytes.now c.loop-byte.byte-index
    c.in_err-place.field-0.0 _ _ _ c.loop-byte-test.true c.loop-byte.invariant c.if-byte-eq10.true
    c.in_err-place.ensures.err)

pub returns-in_err-lengthen-clause-err : goal.returns-in_err-lengthen-clause-err
returns-in_err-lengthen-clause-err g c =
    let p = err_from_is_err_and c.from_residual-in_err-lengthen.result c.from_residual-in_err-lengthen.ensures.1 in
    rw (p.1, p.2) (byte_stops c.args.how c.args.config c.args.place.number c.loop-byte.place.number
    (place_at c.args.place.stage c.args.place.line.items)
    (place_at c.loop-byte.place.stage c.loop-byte.place.line.items) c.args.bytes.now c.loop-byte.byte-index _ _
    c.loop-byte.invariant)

pub loop-byte-preserved : goal.loop-byte-preserved
loop-byte-preserved g c = elim c.if-byte-eq10.branch [
  | then-byte-eq10+in_ok-place w ↦
      let done = w.in_ok-place.ensures.ok in
      rw (w.writer-is, w.place-is)
      (line_taken c.args.how c.args.config c.args.place.number c.loop-byte.place.number w.in_ok-place.place.number
      (place_at c.args.place.stage c.args.place.line.items)
      (place_at c.loop-byte.place.stage c.loop-byte.place.line.items)
      (place_at w.in_ok-place.place.stage w.in_ok-place.place.line.items) c.args.bytes.now c.loop-byte.byte-index
      _ _ _ c.loop-byte-test.true c.loop-byte.invariant w.if-byte-eq10.true done.0 done.1 done.2 done.3)
  | else-byte-eq10+in_ok-lengthen w ↦ rw (w.writer-is, w.place-is)
      (byte_taken c.args.how c.args.config c.args.place.number c.loop-byte.place.number
      (place_at c.args.place.stage c.args.place.line.items) c.args.bytes.now c.loop-byte.byte-index
      c.loop-byte.place.stage c.loop-byte.place.line.items w.lengthen.new.line.items _ _
      c.loop-byte-test.true c.loop-byte.invariant w.if-byte-eq10.false w.in_ok-lengthen.ensures)
]
