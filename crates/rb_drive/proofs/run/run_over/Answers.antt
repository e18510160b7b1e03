use Rattle.std.proofs.Common.{rules}
use Rattle.std.proofs.lemmas.Result.{err_from_is_err_and}
use Rattle.rb_drive.specs.declared.fault.DriveError.TheVariants.{Memory}
use Rattle.rb_drive.proofs.inputs.InputLaws.{publishers_few}
use Rattle.rb_drive.proofs.outcomes.RunLaws.{ends_as_reported, ends_unreported}
use Rattle.rb_drive.proofs.run.run_over.Goals as goal

pub by_publisher-requires : goal.by_publisher-requires
by_publisher-requires g c = publishers_few _ _ _ c.in_ok-schema.ensures.5

pub returns-clause-ends : goal.returns-clause-ends
returns-clause-ends g c =
    ends_as_reported c.args.config _ c.report.result _ _ _ _ _ _ _ _ _ c.in_ok-schema.ensures
    (search rules) (search rules) (search rules) c.report.ensures.ends

-- memory runs out before the threads begin
pub returns-in_err-opened-clause-ends : goal.returns-in_err-opened-clause-ends
returns-in_err-opened-clause-ends g c =
    let p = err_from_is_err_and c.from_residual-in_err-opened.result c.from_residual-in_err-opened.ensures.1 in
    rw (p.1, p.2) (ends_unreported c.args.config c.args.subscribers Memory _ _ _ _ (g.W.Write.contents c.args.writer.now)
    c.in_ok-schema.ensures tt)

pub returns-in_err-try_clone-clause-ends : goal.returns-in_err-try_clone-clause-ends
returns-in_err-try_clone-clause-ends g c =
    let p = err_from_is_err_and c.from_residual-in_err-try_clone.result c.from_residual-in_err-try_clone.ensures.1 in
    rw (p.1, p.2) (ends_unreported c.args.config c.args.subscribers Memory _ _ _ _ (g.W.Write.contents c.args.writer.now)
    c.in_ok-schema.ensures tt)

-- there is no replica
pub returns-in_err-replica-clause-ends : goal.returns-in_err-replica-clause-ends
returns-in_err-replica-clause-ends g c =
    let p = err_from_is_err_and c.from_residual-in_err-replica.result c.from_residual-in_err-replica.ensures.1 in
    rw (p.1, p.2) (ends_unreported c.args.config c.args.subscribers _ _ _ _ _ (g.W.Write.contents c.args.writer.now)
    c.in_ok-schema.ensures c.in_err-replica.ensures.err)
