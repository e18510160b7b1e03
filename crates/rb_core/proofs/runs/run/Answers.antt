use Rattle.std.proofs.Common.{rules}
use Rattle.rb_desk.specs.IsPicture.{AreInRange}
use Rattle.std.specs.Global.{Vec}
use Rattle.std.specs.List.{AllByRecursion}
use Rattle.rb_core.specs.Headline.{KeepsHeadline}
use Rattle.rb_core.specs.Run.{Answer, FeedsBytes, Run, RunsOutWhereItMay}
use Rattle.rb_core.specs.State.{State, empty_world}
use Rattle.rb_core.specs.World.{endpoint_of}
use Rattle.rb_core.proofs.whole_runs.RunCuts.{on_ok}
use Rattle.rb_core.proofs.whole_runs.ToldLaws.{mapped_in}
use Rattle.rb_core.proofs.runs.run.Goals as goal

-- as the type of the limits says
in_range : (c : goal.After-served) → AreInRange c.args.config
in_range c = search rules

-- what `served` returns is a run, which keeps the headline
keeps : (c : goal.After-served) (r : State × Vec Answer)
    → Run (empty_world c.args.config c.args.schema) c.args.events.now r.1.items r.0
    × AllByRecursion FeedsBytes c.args.events.now
    × RunsOutWhereItMay (empty_world c.args.config c.args.schema) c.args.events.now r.1.items
    → KeepsHeadline c.args.schema c.args.events.now r.1.items r.0
keeps c r all = c.runs_keep_the_headline.ensures c.args.config c.args.schema c.args.events.now r.1.items r.0
    (record { ranges = in_range c; feeds = all.1; run = all.0 })

pub returns : goal.returns
returns c = record {
  run = on_ok _ _ c.served.result (λ r all. all.0) c.served.ensures;
  memory = on_ok _ _ c.served.result (λ r all. all.2) c.served.ensures;
  gapless = on_ok _ _ c.served.result
      (λ r all s subscriber found. (
        (keeps c r all).gapless s subscriber found,
        mapped_in endpoint_of _ r.0.endpoints (keeps c r all).endpoints s subscriber found,
      )) c.served.ensures;
  endpoints = on_ok _ _ c.served.result (λ r all. (keeps c r all).endpoints) c.served.ensures;
  in_order = on_ok _ _ c.served.result (λ r all. (keeps c r all).in_order) c.served.ensures;
  kept = on_ok _ _ c.served.result (λ r all. (keeps c r all).kept) c.served.ensures;
  once = on_ok _ _ c.served.result (λ r all. (keeps c r all).once) c.served.ensures;
  sent = on_ok _ _ c.served.result (λ r all. (keeps c r all).sent) c.served.ensures;
  streams = on_ok _ _ c.served.result (λ r all. (keeps c r all).streams) c.served.ensures;
  closed = on_ok _ _ c.served.result (λ r all. (keeps c r all).closed) c.served.ensures;
  left = on_ok _ _ c.served.result (λ r all. (keeps c r all).left) c.served.ensures;
  tables = on_ok _ _ c.served.result (λ r all. (keeps c r all).tables) c.served.ensures;
  begun = on_ok _ _ c.served.result (λ r all. (keeps c r all).begun) c.served.ensures;
  batches = on_ok _ _ c.served.result (λ r all. (keeps c r all).batches) c.served.ensures;
}
