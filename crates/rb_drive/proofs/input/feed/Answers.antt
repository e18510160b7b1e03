use Rattle.std.proofs.lemmas.Result.{err_from_is_err_and}
use Rattle.rb_drive.proofs.inputs.ReadLaws.{byte_ends_reading}
use Rattle.rb_drive.proofs.input.feed.Goals as goal

pub returns-in_err-take_byte : goal.returns-in_err-take_byte
returns-in_err-take_byte c =
    let p = err_from_is_err_and c.from_residual.result c.from_residual.ensures.1 in
    rw (p.1, p.2) (byte_ends_reading c.args.reading.now c.loop-byte.reading c.args.bytes.now c.loop-byte.byte-index
    c.in_err-take_byte.field-0.0 c.loop-byte-test.true c.loop-byte.invariant c.in_err-take_byte.ensures)
