use Rattle.std.proofs.Common.{refl, ap}
use Rattle.cs_apply.specs.Single.{changes_of, single_from, with_rows}
use Rattle.par_apply.specs.Parts.{applied_part}
use Rattle.par_apply.specs.Shards.{of_shard}
use Rattle.par_apply.proofs.shards.GatheringLaws.{first_of_shards}
use Rattle.par_apply.proofs.shards.SplittingLaws.{splits}
use Rattle.par_apply.proofs.laws.first_conflict.Goals as goal

pub returns : goal.returns
returns c = λ tables sections shard i conflict here least.
    ap (with_rows tables) (first_of_shards shard (λ j. applied_part tables (of_shard shard j) sections)
    (single_from tables.schema tables.kept (changes_of sections) 0 tables.rows) i conflict
    (splits shard tables.schema tables.kept (changes_of sections) 0 tables.rows (λ j. tables.rows) (λ key. refl)) here
    least)
