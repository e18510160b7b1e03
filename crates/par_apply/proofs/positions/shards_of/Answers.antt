use Rattle.std.proofs.Common.{ap, ◌∙◌}
use Rattle.rayon.proofs.ListFacts.{IfOk-then}
use Rattle.rayon.proofs.ToStd.{slice-map}
use Rattle.par_apply.specs.KeyedChanges.{shard_read}
use Rattle.par_apply.proofs.positions.shards_of.Goals as goal

pub returns : goal.returns
returns g c =
    let slice = ap (λ it. it.slice.now) c.map.ensures.base ∙ c.par_iter.ensures in
    IfOk-then c.collect.result _ _ c.collect.ensures (λ v h.
    let chain = rw c.map.ensures.f at h.1 in
    h.2 ∙ slice-map chain.0 c.args.changes.now (chain.1 ∙ slice) (shard_read c.args.n) h.0 chain.2)
