use Rattle.std.proofs.lemmas.Result.{err_from_is_err_and}
use Rattle.cs_parse.proofs.counting.Skims.{update_behind}
use Rattle.cs_parse.proofs.record.skip_records.Goals as goal

pub returns-in_err-rest-in-Update-clause-read : goal.returns-in_err-rest-in-Update-clause-read
returns-in_err-rest-in-Update-clause-read c =
    let p = err_from_is_err_and c.from_residual-in_err-rest-in-Update.result
    c.from_residual-in_err-rest-in-Update.ensures.1 in
    rw (p.1, p.2) (update_behind c.args.flags.now c.args.op c.args.bytes.now c.in_ok-new-in-Update.new.now _
    c.in-Update.is c.in_ok-new-in-Update.ensures.read c.in_err-rest-in-Update.ensures.read)

pub returns-in_ok-rest-in-Update-clause-read : goal.returns-in_ok-rest-in-Update-clause-read
returns-in_ok-rest-in-Update-clause-read c =
    update_behind c.args.flags.now c.args.op c.args.bytes.now c.in_ok-new-in-Update.new.now _ c.in-Update.is
    c.in_ok-new-in-Update.ensures.read c.in_ok-rest-in-Update.ensures.read
