use Rattle.std.proofs.Common.{◌≡◌, map}
use Rattle.std.specs.Map.Iter.{deref_pair}
use Rattle.cs_apply.specs.Steps.{filled}
use Rattle.cs_apply.proofs.places.Places.filled.Given as goal

-- the places so far
abbrev pub invariant-loop-key : goal.invariant-loop-key
invariant-loop-key l = map (λ p. (p.0.now, p.1.now)) l.pairs.items ≡ filled (map deref_pair l.yielded)
