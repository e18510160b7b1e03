use Rattle.std.specs.Prelude.{[]}
use Rattle.rb_script.specs.declared.lines.Stage.TheVariants.{Tables}
use Rattle.rb_script.specs.ScriptSchema.{schema_of_script}
use Rattle.rb_script.specs.Lines.{world_of}
use Rattle.rb_script.specs.Script.{lines_events, lines_replies, stage_after}
use Rattle.rb_script.proofs.laws.lines_keep_the_headline.Goals as goal

pub returns : goal.returns
returns c = λ config lines ranges.
    c.runs_keep_the_headline.ensures config (schema_of_script lines) (lines_events lines)
    (lines_replies config (Tables []) lines) (world_of config (stage_after config (Tables []) lines))
    (record {
      ranges = ranges;
      feeds = c.scripts_feed_bytes.ensures lines;
      run = c.scripts_are_runs.ensures config lines;
    })
