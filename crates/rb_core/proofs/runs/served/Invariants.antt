use Rattle.std.proofs.Common.{take}
use Rattle.std.specs.List.{AllByRecursion}
use Rattle.rb_core.specs.State.{empty_world}
use Rattle.rb_core.specs.Run.{FeedsBytes, Run, RunsOutWhereItMay}
use Rattle.rb_core.proofs.runs.served.Given as goal

-- The world so far is what a run of the events so far leaves, what these feed are bytes, and memory ran out only where
-- it may.
abbrev pub invariant-loop-event : goal.invariant-loop-event
invariant-loop-event l =
    Run (empty_world l.fn.config l.fn.schema) (take l.event-index l.events) l.answers.items l.world
    × AllByRecursion FeedsBytes (take l.event-index l.events)
    × RunsOutWhereItMay (empty_world l.fn.config l.fn.schema) (take l.event-index l.events) l.answers.items
