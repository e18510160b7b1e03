use Rattle.std.specs.Prelude.{[]}
use Rattle.rb_script.specs.declared.lines.Stage.TheVariants.{Tables}
use Rattle.rb_script.specs.ScriptSchema.{schema_of_script}
use Rattle.rb_script.specs.Script.{lines_events, lines_replies}
use Rattle.rb_script.proofs.whole_scripts.BeginLaws.{script_begins_empty}
use Rattle.rb_script.proofs.laws.script_subscriptions_begin_empty.Goals as goal

pub returns : goal.returns
returns c = λ config lines s subscriber found.
    let answers = lines_replies config (Tables []) lines in
    script_begins_empty (schema_of_script lines) lines answers
    (c.subscriptions_begin_as_asked.ensures (schema_of_script lines) (lines_events lines) answers)
    s subscriber found
