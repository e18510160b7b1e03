use Rattle.std.proofs.Common.{refl, ap}
use Rattle.cs_apply.specs.Single.{changes_of, single_from, with_rows}
use Rattle.par_apply.specs.Parts.{applied_part}
use Rattle.par_apply.specs.Shards.{of_shard}
use Rattle.par_apply.proofs.shards.GatheringLaws.{gathers, joined_are_all}
use Rattle.par_apply.proofs.shards.SplittingLaws.{splits}
use Rattle.par_apply.proofs.laws.gathering.Goals as goal

pub returns-clause-any : goal.returns-clause-any
returns-clause-any c = λ tables sections shard parts changes done all.
    ap (with_rows tables) (gathers shard (λ i. applied_part tables (of_shard shard i) sections)
    (single_from tables.schema tables.kept (changes_of sections) 0 tables.rows) tables.rows parts changes
    (splits shard tables.schema tables.kept (changes_of sections) 0 tables.rows (λ i. tables.rows) (λ key. refl)) done
    all)

pub returns-clause-lists : goal.returns-clause-lists
returns-clause-lists c = joined_are_all
