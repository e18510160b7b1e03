use Rattle.std.proofs.Common.{◌-◌, length, refl}
use Rattle.cs_model.proofs.packing.PartLaws.{cut_no_longer, is_cut_in_two}
use Rattle.cs_model.proofs.change_ref.RecordRef.cut.Goals as goal

pub overflow_sub-self-inside : goal.overflow_sub-self-inside
overflow_sub-self-inside c = cut_no_longer _ _ _ _ c.self.invariant c.skip-rest.ensures

pub invariant_of-result : goal.invariant_of-result
invariant_of-result c = (is_cut_in_two c.self.inside.bytes.now _ _ c.skip-rest.result.now _
    (length c.self.inside.bytes.now - length c.skip-rest.result.now) c.self.invariant c.skip-rest.ensures refl
    c.split_at.ensures.front).front_packs

pub invariant_of-result-2 : goal.invariant_of-result-2
invariant_of-result-2 c = (is_cut_in_two c.self.inside.bytes.now _ _ c.skip-rest.result.now _
    (length c.self.inside.bytes.now - length c.skip-rest.result.now) c.self.invariant c.skip-rest.ensures refl
    c.split_at.ensures.front).rest_packs

pub returns-clause-front : goal.returns-clause-front
returns-clause-front c = rw (← c.self.view_is) ((is_cut_in_two c.self.inside.bytes.now _ _ c.skip-rest.result.now _
    (length c.self.inside.bytes.now - length c.skip-rest.result.now) c.self.invariant c.skip-rest.ensures refl
    c.split_at.ensures.front).front_says)

pub returns-clause-rest : goal.returns-clause-rest
returns-clause-rest c = rw (← c.self.view_is) ((is_cut_in_two c.self.inside.bytes.now _ _ c.skip-rest.result.now _
    (length c.self.inside.bytes.now - length c.skip-rest.result.now) c.self.invariant c.skip-rest.ensures refl
    c.split_at.ensures.front).rest_says)
