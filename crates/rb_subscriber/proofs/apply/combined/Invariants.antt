use Rattle.std.proofs.Common.{◌≡◌, take, None}
use Rattle.cs_model.specs.Schema.{refusal_of}
use Rattle.rb_subscriber.specs.Accept.{joined_bodies}
use Rattle.rb_subscriber.proofs.apply.combined.Given as goal

-- the group has the bodies of the entries so far, which the schema admits
abbrev pub invariant-loop-index : goal.invariant-loop-index
invariant-loop-index g l = (l.group ≡ joined_bodies (take l.index (g.E.Brought.entries l.entries)))
    × (refusal_of l.schema l.group ≡ None)
