use Rattle.std.proofs.Common.{ap, sym, ◌∙◌}
use Rattle.std.proofs.lemmas.Bool.Decides.{Decides-eqb}
use Rattle.par_apply.specs.Shards.{of_shard, shard_number}
use Rattle.par_apply.proofs.worker.change_own.Goals as goal

pub returns-clause-own : goal.returns-clause-own
returns-clause-own c = λ old.
    let shard = shard_number c.args.shard.n in
    let i = c.args.shard.number in
    c.change_row.ensures.own shard i ((Decides-eqb (shard c.in_ok-key.key) i).0
    (ap (of_shard shard i) c.in_ok-key.ensures ∙ sym c.if-not-takes.ensures)) old
