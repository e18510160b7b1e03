use Rattle.std.proofs.Common.{arith}
use Rattle.std.proofs.lemmas.Result.{err_from_is_err_and}
use Rattle.rb_drive.proofs.inputs.ReadLaws.{adding_stops, line_ends, long_line_stops}
use Rattle.rb_drive.proofs.input.take_byte.Goals as goal

pub returns-in_err-add_line : goal.returns-in_err-add_line
returns-in_err-add_line c =
    let p = err_from_is_err_and c.from_residual.result c.from_residual.ensures.1 in
    rw (p.1, p.2) (adding_stops c.args.reading.now _ c.args.byte c.in_err-add_line.field-0.0 c.add_line.new.input
    c.deref.ensures.value c.if-byte-eq10.true c.in_err-add_line.ensures)

pub returns-then-byte-eq10 : goal.returns-then-byte-eq10
returns-then-byte-eq10 c =
    let next = rw c.deref.ensures.value at c.in_ok-add_line.ensures in
    line_ends c.args.reading.now _ c.args.byte c.if-byte-eq10.true next c.clear.ensures.items

pub returns-then-len-ge-MOST_OF_LINE : goal.returns-then-len-ge-MOST_OF_LINE
returns-then-len-ge-MOST_OF_LINE c =
    long_line_stops c.args.reading.now c.args.byte c.next_line.result c.if-byte-eq10.false
    (omega (arith, c.if-len-ge-MOST_OF_LINE.true, c.len.ensures, c.args.reading.now.line.ok.0)) c.next_line.ensures
