use Rattle.std.proofs.Common.{refl}
use Rattle.cs_apply.specs.Single.{changes_of}
use Rattle.par_apply.proofs.shards.SplittingLaws.{splits}
use Rattle.par_apply.proofs.laws.splitting.Goals as goal

pub returns : goal.returns
returns c = λ tables sections shard.
    splits shard tables.schema tables.kept (changes_of sections) 0 tables.rows (λ i. tables.rows) (λ key. refl)
