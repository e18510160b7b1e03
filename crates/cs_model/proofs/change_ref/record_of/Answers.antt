use Rattle.std.proofs.Common.{length, ◌-◌, ap, refl, arith}
use Rattle.cs_model.proofs.packing.PackedChangeLaws.{own_packs}
use Rattle.cs_model.proofs.packing.CutLaws.{own_front, some_no_longer}
use Rattle.cs_model.proofs.change_ref.record_of.Goals as goal

pub overflow_sub-bytes : goal.overflow_sub-bytes
overflow_sub-bytes c = omega (arith, ap length c.skip-rest.ensures, some_no_longer c.args.columns c.args.bytes.now)

pub returns-clause-record : goal.returns-clause-record
returns-clause-record c = own_front c.args.columns c.args.bytes.now c.skip-rest.result.now c.split_at.result.0.now
    (length c.args.bytes.now - length c.skip-rest.result.now) c.skip-rest.ensures refl c.split_at.ensures.front

pub invariant_of-result : goal.invariant_of-result
invariant_of-result c = own_packs c.args.columns c.args.bytes.now c.skip-rest.result.now c.split_at.result.0.now
    (length c.args.bytes.now - length c.skip-rest.result.now) c.requires c.skip-rest.ensures refl
    c.split_at.ensures.front
