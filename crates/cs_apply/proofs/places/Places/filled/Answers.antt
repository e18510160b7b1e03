use Rattle.std.specs.Map.Iter.{deref_pair}
use Rattle.cs_apply.proofs.stored.Filled.{filled_more, filled_same}
use Rattle.cs_apply.proofs.places.Places.filled.Goals as goal

pub loop-key-preserved : goal.loop-key-preserved
loop-key-preserved c =
    filled_more (λ p. (p.0.now, p.1.now)) deref_pair c.loop-key.pairs.items c.push.new.self.items c.loop-key.yielded _
    (c.in-Some.key, c.in-Some.place) c.loop-key.invariant
    c.in_ok-push.ensures.items (λ i. (c.in-Some.key.now, c.in-Some-place.is i))

pub loop-key-preserved-in_default : goal.loop-key-preserved-in_default
loop-key-preserved-in_default c =
    filled_same (λ p. (p.0.now, p.1.now)) deref_pair c.loop-key.pairs.items c.loop-key.yielded
    (c.in-Some.key, c.in-Some.place) c.in-Some.key.now c.loop-key.invariant
    (λ i. (c.in-Some.key.now, c.in_default.is i))
