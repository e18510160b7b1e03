use Rattle.rb_script.specs.declared.fault.ScriptError.TheVariants.{Refused}
use Rattle.rb_script.proofs.endings.EndLaws.{fault_kept, answered_kept, refused_unflushed}
use Rattle.rb_script.proofs.script.run_script.Goals as goal

pub returns-in-Ok : goal.returns-in-Ok
returns-in-Ok g c = answered_kept c.args.how c.args.config c.flush_answers-flushed.result _ _ _ _ _ c.in-Ok.ensures
    c.flush_answers-flushed.ensures.kept c.flush_answers-flushed.ensures.fault

pub returns-in-Ok-flushed : goal.returns-in-Ok-flushed
returns-in-Ok-flushed g c =
    let ends = rw c.in-Err-Refused.field-0-is at c.in-Err-Refused.ensures in
    fault_kept c.args.how c.args.config (Refused c.in-Err-Refused.line) _ _ _ _ _ ends
    c.flush_answers-flushed.ensures.kept

pub returns-in-Err-flushed : goal.returns-in-Err-flushed
returns-in-Err-flushed g c =
    let ends = rw c.in-Err-Refused.field-0-is at c.in-Err-Refused.ensures in
    refused_unflushed c.args.how c.args.config c.in-Err-Refused.line c.in-Err-flushed.fault _ _ _ _ _ ends
    c.in-Err-flushed.ensures.kept c.in-Err-flushed.ensures.fault

pub returns-in-Err : goal.returns-in-Err
returns-in-Err g c = fault_kept c.args.how c.args.config c.in-Err.fault _ _ _ _ _ c.in-Err.ensures
    c.flush_answers-flushed.ensures.kept
